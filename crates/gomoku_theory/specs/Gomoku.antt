-- Gomoku by points and straight lines.
--   Position    the 225 points and the side to move
--   at          the position of some points and a side
--   empty, start   225 free points, and First to move
--   is_free, taken, is_of   whether a point is free, has a stone, has a side's stone
--   code_of     the code of a cell: 15 times its row, and its column
--   on_cell     what stands on a cell
--   lines       the windows of five cells on 15 columns and 15 rows
--   five_of     whether five of a side's stones stand in a straight line
--   full        whether no point is free
--   stones_on   how many points have a stone
--   status_of   who has five in line; else drawn where the board is full
--   fits        whether a code is legal: the game is open and the point is free
--   chance_of   whether some window holds no stone of the other side
--   gomoku      the game, position by position
--   gomoku_from what the game says of each list of codes from a position on
--   shown       what the board shows at a column and a row, and nothing outside
--   Counted     law: after each legal list there are as many stones as codes were made
--   OneWinner   law: after no legal list do both sides have five in line
--   MadeBy      some legal list leads to a position, and each that does has as many codes as the number says
--   stone_by    what a list of codes, made in turn from a side on, puts on the point of a code
--   ShownBy     what shows at a column and a row is what each legal list that leads to the position puts there
use Rattle.std.specs.Prelude.{◌≡◌, ℕ, ◌+◌, ◌*◌, Bool, true, false, if◌then◌else◌, not, ◌&&◌, List, [], ◌∷◌, length, replicate, Some, None, count_by, Option, ◌==◌, ◌≢◌, nat_lt, slice_index_or, slice_set}
use Rattle.side.specs.declared.Side.{Side}
use Rattle.side.specs.declared.Side.TheVariants.{First, Second}
use Rattle.side.specs.TwoSides.{opponent, same_side}
use Rattle.rules.specs.declared.Status.{Status}
use Rattle.rules.specs.declared.Status.TheVariants.{Open, Won, Drawn}
use Rattle.rules.specs.Plans.{RulesPlan, is_open}
use Rattle.rules.specs.Machine.{Machine, plan_of, after, all_legal, OnWay}
use Rattle.board.specs.Windows.{Cell, every, windows, in_line}
use Rattle.gomoku_theory.specs.declared.Point.{Point}
use Rattle.gomoku_theory.specs.declared.Point.TheVariants.{Free, Stone}

pub record Position : Type 0 where
  pub points : List Point
  pub turn : Side

abbrev pub at : List Point → Side → Position
at ps t = record { points = ps; turn = t }

unfoldable pub empty : List Point
empty = replicate 225 Free

abbrev pub start : Position
start = at empty First

abbrev pub is_free : Point → Bool
is_free Free = true
is_free (Stone s) = false

abbrev pub taken : Point → Bool
taken x = not (is_free x)

abbrev pub is_of : Side → Point → Bool
is_of t Free = false
is_of t (Stone s) = same_side s t

abbrev pub code_of : Cell → ℕ
code_of x = 15 * x.row + x.column

abbrev pub on_cell : List Point → Cell → Point
on_cell ps x = slice_index_or ps (code_of x) Free

abbrev pub lines : List (List Cell)
lines = windows 15 15 5

abbrev pub five_of : List Point → Side → Bool
five_of ps t = in_line lines (λ x. is_of t (on_cell ps x))

abbrev pub full : List Point → Bool
full ps = every taken ps

abbrev pub stones_on : List Point → ℕ
stones_on ps = count_by taken ps

abbrev pub status_of : List Point → Status
status_of ps = if five_of ps First then Won First else if five_of ps Second then Won Second else if full ps then Drawn else Open

abbrev pub fits : List Point → ℕ → Bool
fits ps c = is_open (status_of ps) && (nat_lt c 225 && is_free (slice_index_or ps c Free))

abbrev pub chance_of : List Point → Side → Bool
chance_of ps t = in_line lines (λ x. not (is_of (opponent t) (on_cell ps x)))

abbrev pub gomoku : Machine Position
gomoku = record {
  legal = λ p c. fits p.points c;
  next = λ p c. at (slice_set p.points c (Stone p.turn)) (opponent p.turn);
  status = λ p. status_of p.points;
  chance = λ p t. chance_of p.points t;
}

abbrev pub gomoku_from : List Point → Side → RulesPlan
gomoku_from ps t = plan_of gomoku (at ps t)

abbrev pub shown : List Point → ℕ → ℕ → Option Point
shown ps column row = if nat_lt column 15 && nat_lt row 15 then Some (slice_index_or ps (15 * row + column) Free) else None

abbrev pub Counted : Type 0
Counted = (w : List ℕ) → all_legal gomoku start w ≡ true → stones_on (after gomoku start w).points ≡ length w

abbrev pub OneWinner : Type 0
OneWinner = (w : List ℕ) → all_legal gomoku start w ≡ true
    → five_of (after gomoku start w).points First ≡ true → five_of (after gomoku start w).points Second ≢ true

abbrev pub MadeBy : Position → ℕ → Type 0
MadeBy p n = OnWay gomoku start p × ((w : List ℕ) → all_legal gomoku start w ≡ true → p ≡ after gomoku start w → n ≡ length w)

abbrev pub stone_by : Side → List ℕ → ℕ → Point
stone_by t [] c = Free
stone_by t (d ∷ w) c = if d == c then Stone t else stone_by (opponent t) w c

abbrev pub ShownBy : Position → ℕ → ℕ → Option Point → Type 0
ShownBy p column row r = (w : List ℕ) → all_legal gomoku start w ≡ true → p ≡ after gomoku start w
    → r ≡ (if nat_lt column 15 && nat_lt row 15 then Some (stone_by First w (15 * row + column)) else None)
