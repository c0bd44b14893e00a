-- Boards of columns and rows, and the windows of a length that lie on them.
--   Cell      a column and a row, from 0
--   every, some   whether each, or one, of a list passes a test
--   below     the numbers below one
--   grid      a thing for each of some columns and rows
--   cells     some cells, the j-th by its column and its row
--   windows   upright, level, rising and falling lines of n cells that lie on the board
--   in_line   whether some window has all its cells among those that pass a test
use Rattle.std.specs.Prelude.{ℕ, zero, suc, ◌+◌, ◌-◌, Bool, List, [], ◌∷◌, ◌++◌, map}
use Rattle.std.specs.List.{flat_map, list_all, list_any}

pub record Cell : Type 0 where
  pub column : ℕ
  pub row : ℕ

abbrev pub cell : ℕ → ℕ → Cell
cell c r = record { column = c; row = r }

abbrev pub every : {X : Type 0} → (X → Bool) → List X → Bool
every = list_all

abbrev pub some : {X : Type 0} → (X → Bool) → List X → Bool
some = list_any

abbrev pub below : ℕ → List ℕ
below zero = []
below (suc n) = below n ++ (n ∷ [])

abbrev pub grid : {X : Type 0} → ℕ → ℕ → (ℕ → ℕ → X) → List X
grid columns rows f = flat_map (λ c. map (λ r. f c r) (below rows)) (below columns)

abbrev pub cells : ℕ → (ℕ → ℕ) → (ℕ → ℕ) → List Cell
cells n column row = map (λ j. cell (column j) (row j)) (below n)

unfoldable pub windows : ℕ → ℕ → ℕ → List (List Cell)
windows columns rows n =
    grid columns (rows - (n - 1)) (λ c r. cells n (λ j. c) (λ j. r + j))
    ++ (grid (columns - (n - 1)) rows (λ c r. cells n (λ j. c + j) (λ j. r))
    ++ (grid (columns - (n - 1)) (rows - (n - 1)) (λ c r. cells n (λ j. c + j) (λ j. r + j))
    ++ grid (columns - (n - 1)) (rows - (n - 1)) (λ c r. cells n (λ j. c + j) (λ j. (r + (n - 1)) - j))))

unfoldable pub in_line : List (List Cell) → (Cell → Bool) → Bool
in_line ws p = some (λ w. every p w) ws
