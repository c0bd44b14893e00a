-- Connect Four. A position is a word of stones for each side, and the side to move; a code is a column.
--   Position    the two words and the side to move; `at` makes one, `start` is the empty board with first to move
--   position    the position of a pair of words and the side to move
--   held        whether a cell has a stone of either side
--   holder      whose stone lies in a cell, none outside the board
--   rises       from a row on, the first free one of the next n cells of a column
--   landing     the row of a column's lowest free cell, 6 where the column is full
--   column_cells  the cells of a column from the bottom up; a column that the board has not has none
--   lowest_free  the first of them that is free
--   status_of   four in a line win; 42 stones without that are a draw
--   status_since  the same where the game was open before the mover's last stone: only the mover can have a line
--   fits        a code is legal: the game is open, and the code is a column that is not full
--   falls_to    the row that a legal code's stone falls to, none for an illegal code
--   target      the cell that a stone falls to
--   first_after, second_after   the words after a stone of the side to move
--   chance_of   a side has a chance: four cells in a line have no stone of the other
--   four        the game, by its positions
--   connect_four  what the game says of each list of codes
--   Apart       no cell is in both words
--   over        the cell over another
--   Rests       no stone lies over a free cell
--   Settled     what every position keeps: words on the board, apart and at rest
use Rattle.std.specs.Prelude.{◌≡◌, ℕ, zero, suc, ◌+◌, ◌<◌, Bool, true, false, not, ◌&&◌, ◌||◌, Some, None, Option, ◌==◌, count_ones, nat_lt, List, find, filter_map, if◌then◌else◌}
use Rattle.std.specs.List.{range_with_len}
use Rattle.side.specs.declared.Side.{Side}
use Rattle.side.specs.declared.PerSide.{PerSide}
use Rattle.side.specs.declared.Side.TheVariants.{First, Second}
use Rattle.side.specs.TwoSides.{opponent, pick}
use Rattle.rules.specs.declared.Status.{Status}
use Rattle.rules.specs.declared.Status.TheVariants.{Open, Won, Drawn}
use Rattle.rules.specs.Plans.{RulesPlan, is_open}
use Rattle.rules.specs.Machine.{Machine, plan_of}
use Rattle.board.specs.Windows.{Cell, cell}
use Rattle.board.specs.Straight.{inside}
use Rattle.connect_four_theory.specs.Stones.{has_stone, placed, four_in_line, OnBoard}

pub record Position : Type 0 where
  pub first : ℕ
  pub second : ℕ
  pub turn : Side

abbrev pub at : ℕ → ℕ → Side → Position
at f s t = record { first = f; second = s; turn = t }

abbrev pub position : PerSide ℕ → Side → Position
position p t = at p.first p.second t

abbrev pub start : Position
start = at 0 0 First

abbrev pub held : ℕ → ℕ → Cell → Bool
held f s c = has_stone f c || has_stone s c

abbrev pub holder : ℕ → ℕ → Cell → Option Side
holder f s c = if inside 7 6 c then (if has_stone f c then Some First else if has_stone s c then Some Second else None) else None

abbrev pub rises : (Cell → Bool) → ℕ → ℕ → ℕ → ℕ
rises p column zero r = r
rises p column (suc n) r = if p (cell column r) then rises p column n (suc r) else r

unfoldable pub landing : (Cell → Bool) → ℕ → ℕ
landing p column = rises p column 6 0

abbrev pub column_cells : ℕ → List Cell
column_cells column = filter_map (λ row. if inside 7 6 (cell column row) then Some (cell column row) else None) (range_with_len 0 6)

abbrev pub lowest_free : (Cell → Bool) → ℕ → Option Cell
lowest_free p column = find (λ c. not (p c)) (column_cells column)

abbrev pub status_of : ℕ → ℕ → Status
status_of f s =
    if four_in_line (has_stone f) then Won First
    else if four_in_line (has_stone s) then Won Second
    else if count_ones f + count_ones s == 42 then Drawn
    else Open

abbrev pub status_since : Side → ℕ → ℕ → Status
status_since mover own other = if four_in_line (has_stone own) then Won mover else if count_ones own + count_ones other == 42 then Drawn else Open

abbrev pub fits : ℕ → ℕ → ℕ → Bool
fits f s code = is_open (status_of f s) && (nat_lt code 7 && nat_lt (landing (held f s) code) 6)

abbrev pub falls_to : ℕ → ℕ → ℕ → Option ℕ
falls_to f s code = if fits f s code then Some (landing (held f s) code) else None

abbrev pub target : ℕ → ℕ → ℕ → Cell
target f s code = cell code (landing (held f s) code)

abbrev pub first_after : ℕ → ℕ → Side → Cell → ℕ
first_after f s turn c = pick turn (placed f c) f

abbrev pub second_after : ℕ → ℕ → Side → Cell → ℕ
second_after f s turn c = pick turn s (placed s c)

abbrev pub chance_of : ℕ → ℕ → Side → Bool
chance_of f s side = four_in_line (λ c. not (has_stone (pick side s f) c))

abbrev pub four : Machine Position
four = record {
  legal = λ p code. fits p.first p.second code;
  next = λ p code.
      let c = target p.first p.second code in
      at (first_after p.first p.second p.turn c) (second_after p.first p.second p.turn c) (opponent p.turn);
  status = λ p. status_of p.first p.second;
  chance = λ p side. chance_of p.first p.second side;
}

abbrev pub connect_four : RulesPlan
connect_four = plan_of four start

abbrev pub Apart : ℕ → ℕ → Type 0
Apart f s = (c : Cell) → has_stone f c ≡ true → has_stone s c ≡ false

abbrev pub over : Cell → Cell
over c = cell c.column (c.row + 1)

abbrev pub Rests : ℕ → ℕ → Type 0
Rests f s = (c : Cell) → c.row < 5 → held f s (over c) ≡ true → held f s c ≡ true

pub record Settled (f s : ℕ) : Type 0 where
  pub first_on : OnBoard f
  pub second_on : OnBoard s
  pub apart : Apart f s
  pub rests : Rests f s
