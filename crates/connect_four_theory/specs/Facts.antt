-- What is true of Connect Four, in other words than its definition.
--   word_of         a side's stones in a position
--   HasLine         a straight line of four cells or more, on the board, has a stone of a word in each
--   Full            each cell of the board has a stone
--   PlacedRight     a stone more is just that: its cell has it, and every other cell is as it was
--   LandingRight    a stone falls to the lowest free cell: all below it are taken, and it is free
--   StonesRight     the ones of a word are its stones on the board
--   FullRight       42 stones are a full board
--   SettledRight    after each legal list no cell is in both words, and no stone lies over a free cell
--   Made            some legal list leads to a position, and it has as many codes as the position has stones
--   MadeRight       after each legal list the words have as many ones as codes were made
--   NoLine          no side has such a line
--   Judged          won by a side just where it has such a line; drawn just where the board is full and no side has one
--   StatusRight     that holds of the status after each legal list
--   LegalRight      a code is legal just where the game is open and its column has a free cell
--   ChanceRight     a side without a chance wins by no series
--   ColumnSample    codes 0 1 0 1 0 1 0: legal, and first has won
use Rattle.std.specs.Prelude.{◌≡◌, ℕ, ◌+◌, ◌<◌, ◌≤◌, Bool, true, false, List, [], ◌∷◌, length, IsTrue, ◌↔◌, count_by, ◌==◌, ◌≢◌, count_ones}
use Rattle.side.specs.declared.Side.{Side}
use Rattle.side.specs.declared.Side.TheVariants.{First}
use Rattle.side.specs.TwoSides.{pick}
use Rattle.rules.specs.declared.Status.{Status}
use Rattle.rules.specs.declared.Status.TheVariants.{Open, Won, Drawn}
use Rattle.rules.specs.Plans.{NoWin, after_codes}
use Rattle.rules.specs.Machine.{after}
use Rattle.board.specs.Windows.{Cell, cell, every}
use Rattle.board.specs.Straight.{Inside, LineOn}
use Rattle.connect_four_theory.specs.Stones.{has_stone, placed, board, OnBoard}
use Rattle.connect_four_theory.specs.Game.{Position, start, held, landing, four, connect_four, Settled}

abbrev pub word_of : Side → Position → ℕ
word_of side p = pick side p.first p.second

abbrev pub HasLine : ℕ → Type 0
HasLine w = (cells : List Cell) × (4 ≤ length cells) × LineOn 7 6 cells × (every (has_stone w) cells ≡ true)

abbrev pub Full : Position → Type 0
Full p = (c : Cell) → Inside 7 6 c → held p.first p.second c ≡ true

abbrev pub PlacedRight : Type 0
PlacedRight =
    (w : ℕ) (c : Cell) → Inside 7 6 c
    → (has_stone (placed w c) c ≡ true) × ((d : Cell) → Inside 7 6 d → (d ≢ c) → has_stone (placed w c) d ≡ has_stone w d)

abbrev pub LandingRight : Type 0
LandingRight =
    (taken : Cell → Bool) (column : ℕ)
    → (landing taken column ≤ 6) × ((row : ℕ) → row < landing taken column → taken (cell column row) ≡ true)
    × (landing taken column < 6 → taken (cell column (landing taken column)) ≡ false)

abbrev pub StonesRight : Type 0
StonesRight = (w : ℕ) → OnBoard w → count_ones w ≡ count_by (has_stone w) board

abbrev pub SettledRight : Type 0
SettledRight = (w : List ℕ) → connect_four.legal w ≡ true → let p = after four start w in Settled p.first p.second

abbrev pub MadeRight : Type 0
MadeRight = (w : List ℕ) → connect_four.legal w ≡ true → let p = after four start w in count_ones p.first + count_ones p.second ≡ length w

abbrev pub Made : Position → Type 0
Made p = ∥ ((w : List ℕ) × (connect_four.legal w ≡ true) × (p ≡ after four start w) × (count_ones p.first + count_ones p.second ≡ length w)) ∥₁

abbrev pub FullRight : Type 0
FullRight = (w : List ℕ) → connect_four.legal w ≡ true → let p = after four start w in IsTrue (count_ones p.first + count_ones p.second == 42) ↔ Full p

abbrev pub NoLine : Position → Type 0
NoLine p = (side : Side) → HasLine (word_of side p) → ⊥

abbrev pub Judged : Position → Status → Type 0
Judged p status =
    ((side : Side) → (status ≡ Won side → HasLine (word_of side p)) × (HasLine (word_of side p) → status ≡ Won side))
    × (status ≡ Drawn → Full p × NoLine p) × (Full p → NoLine p → status ≡ Drawn)

abbrev pub StatusRight : Type 0
StatusRight = (w : List ℕ) → connect_four.legal w ≡ true → Judged (after four start w) (connect_four.status w)

abbrev pub LegalRight : Type 0
LegalRight =
    (p : Position) (code : ℕ)
    → IsTrue (four.legal p code) ↔ ((four.status p ≡ Open) × (code < 7) × ((row : ℕ) × (row < 6) × (held p.first p.second (cell code row) ≡ false)))

abbrev pub ChanceRight : Type 0
ChanceRight = (w : List ℕ) (side : Side) → connect_four.chance w side ≡ false → NoWin (after_codes connect_four w) side

abbrev pub column_sample : List ℕ
column_sample = 0 ∷ 1 ∷ 0 ∷ 1 ∷ 0 ∷ 1 ∷ 0 ∷ []

abbrev pub ColumnSample : Type 0
ColumnSample = (connect_four.legal column_sample ≡ true) × (connect_four.status column_sample ≡ Won First)
