-- How lines are looked for: a window by its heading and by the lowest column and row that it touches.
--   headings     the four headings
--   columns_of, rows_of   how many columns and rows can be the lowest of a heading's windows
--   column_at, row_at     the column and the row of a window's j-th cell
--   cell_at      the j-th cell
--   window       five cells in a heading
--   column_has   whether some window of a heading passes a test that has a column as its lowest
--   board_has    whether some window of a heading passes it
--   begin        where five numbers in a row begin that have x as their j-th, if all are below 15
--   both         both of two numbers, where both are there
--   begin_of     the lowest column and row of the window that has a cell as its j-th, if it lies on the board
--   begun        whether there is a window that begins there and it passes
--   passes       the same of the window that has a cell as its j-th
--   through      whether it is so for some j
--   won_at       whether some window through the point of a code passes, in any heading
--   judged_by    the status by whether the mover has five in line and by how many stones there are
use Rattle.std.specs.Prelude.{ℕ, ◌+◌, ◌-◌, ◌/◌, ◌%◌, Bool, false, ◌&&◌, List, [], ◌∷◌, Some, None, Option, ◌==◌, nat_le, nat_lt, if◌then◌else◌}
use Rattle.std.specs.List.{list_any, range_with_len}
use Rattle.side.specs.declared.Side.{Side}
use Rattle.rules.specs.declared.Status.{Status}
use Rattle.rules.specs.declared.Status.TheVariants.{Open, Won, Drawn}
use Rattle.board.specs.Windows.{Cell, cell, cells, every}
use Rattle.gomoku_theory.specs.declared.Heading.{Heading}
use Rattle.gomoku_theory.specs.declared.Heading.TheVariants.{Upright, Level, Rising, Falling}

abbrev pub headings : List Heading
headings = Upright ∷ (Level ∷ (Rising ∷ (Falling ∷ [])))

abbrev pub columns_of : Heading → ℕ
columns_of Upright = 15
columns_of Level = 11
columns_of Rising = 11
columns_of Falling = 11

abbrev pub rows_of : Heading → ℕ
rows_of Upright = 11
rows_of Level = 15
rows_of Rising = 11
rows_of Falling = 11

abbrev pub column_at : Heading → ℕ → ℕ → ℕ
column_at Upright c j = c
column_at Level c j = c + j
column_at Rising c j = c + j
column_at Falling c j = c + j

abbrev pub row_at : Heading → ℕ → ℕ → ℕ
row_at Upright r j = r + j
row_at Level r j = r
row_at Rising r j = r + j
row_at Falling r j = (r + 4) - j

abbrev pub cell_at : Heading → ℕ → ℕ → ℕ → Cell
cell_at h c r j = cell (column_at h c j) (row_at h r j)

abbrev pub window : Heading → ℕ → ℕ → List Cell
window h c r = cells 5 (column_at h c) (row_at h r)

abbrev pub column_has : (Cell → Bool) → Heading → ℕ → Bool
column_has p h c = list_any (λ r. every p (window h c r)) (range_with_len 0 (rows_of h))

unfoldable pub board_has : (Cell → Bool) → Heading → Bool
board_has p h = list_any (column_has p h) (range_with_len 0 (columns_of h))

abbrev pub begin : ℕ → ℕ → Option ℕ
begin x j = if nat_le j x && nat_lt (x - j) 11 then Some (x - j) else None

abbrev pub both : Option ℕ → Option ℕ → Option (ℕ × ℕ)
both None b = None
both (Some x) None = None
both (Some x) (Some y) = Some (x, y)

abbrev pub begin_of : Heading → ℕ → ℕ → ℕ → Option (ℕ × ℕ)
begin_of Upright c r j = both (Some c) (begin r j)
begin_of Level c r j = both (begin c j) (Some r)
begin_of Rising c r j = both (begin c j) (begin r j)
begin_of Falling c r j = both (begin c j) (begin r (4 - j))

abbrev pub begun : (Cell → Bool) → Heading → Option (ℕ × ℕ) → Bool
begun p h None = false
begun p h (Some x) = every p (window h x.0 x.1)

abbrev pub passes : (Cell → Bool) → Heading → ℕ → ℕ → ℕ → Bool
passes p h c r j = begun p h (begin_of h c r j)

unfoldable pub through : (Cell → Bool) → Heading → ℕ → ℕ → Bool
through p h c r = list_any (passes p h c r) (range_with_len 0 5)

unfoldable pub won_at : (Cell → Bool) → ℕ → Bool
won_at p k = list_any (λ h. through p h (k % 15) (k / 15)) headings

abbrev pub judged_by : Bool → ℕ → Side → Status
judged_by won n t = if won then Won t else if n == 225 then Drawn else Open
