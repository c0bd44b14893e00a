-- Straight lines of cells, and that the windows are just those of their length that lie on the board.
--   Heading       how a line goes: upright, level, rising or falling
--   Step          one cell is the next after another under a heading
--   Straight      each cell of a line is the next after the one before
--   Inside        a cell lies on a board of some columns and rows
--   inside        the same as a test
--   LineOn        a straight line whose cells all lie on the board
--   Among         a thing is in a list
--   WindowsRight  the windows of n cells are just the straight lines of n cells on the board
--   LinesHoldWindows    the first n cells of a longer line on the board are a window
--   InLineRight   some window passes a test exactly where some straight line of n cells or more does
--   WindowCounts  how many windows three boards have
use Rattle.std.specs.Prelude.{◌≡◌, ℕ, ◌+◌, ◌<◌, ◌≤◌, Bool, true, ◌&&◌, ◌⊎◌, List, [], ◌∷◌, length, take, Decides, nat_lt}
use Rattle.std.specs.List.{AllByRecursion}
use Rattle.board.specs.Windows.{Cell, every, windows, in_line}

pub data Heading : Type 0 where
  upright : Heading
  level : Heading
  rising : Heading
  falling : Heading

abbrev pub Step : Heading → Cell → Cell → Type 0
Step upright a b = (b.column ≡ a.column) × (b.row ≡ a.row + 1)
Step level a b = (b.column ≡ a.column + 1) × (b.row ≡ a.row)
Step rising a b = (b.column ≡ a.column + 1) × (b.row ≡ a.row + 1)
Step falling a b = (b.column ≡ a.column + 1) × (b.row + 1 ≡ a.row)

abbrev pub Straight : Heading → List Cell → Type 0
Straight h [] = Unit {0}
Straight h (a ∷ []) = Unit {0}
Straight h (a ∷ (b ∷ cs)) = Step h a b × Straight h (b ∷ cs)

abbrev pub Inside : ℕ → ℕ → Cell → Type 0
Inside columns rows c = (c.column < columns) × (c.row < rows)

abbrev pub inside : ℕ → ℕ → Cell → Bool
inside columns rows c = nat_lt c.column columns && nat_lt c.row rows

abbrev pub LineOn : ℕ → ℕ → List Cell → Type 0
LineOn columns rows w = ((h : Heading) × Straight h w) × AllByRecursion (Inside columns rows) w

abbrev pub Among : {X : Type 0} → X → List X → Type 0
Among x [] = ⊥
Among x (y ∷ ys) = (x ≡ y) ⊎ Among x ys

abbrev pub WindowsRight : Type 0
WindowsRight =
    (columns rows n : ℕ) → 1 ≤ n → (w : List Cell)
    → (Among w (windows columns rows n) → (length w ≡ n) × LineOn columns rows w)
    × (length w ≡ n → LineOn columns rows w → Among w (windows columns rows n))

abbrev pub LinesHoldWindows : Type 0
LinesHoldWindows =
    (columns rows n : ℕ) → 1 ≤ n → (w : List Cell) → n ≤ length w → LineOn columns rows w → Among (take n w) (windows columns rows n)

abbrev pub InLineRight : Type 0
InLineRight =
    (columns rows n : ℕ) → 1 ≤ n → (p : Cell → Bool)
    → Decides (in_line (windows columns rows n) p) ((w : List Cell) × (n ≤ length w) × LineOn columns rows w × (every p w ≡ true))

-- four in line on seven columns and six rows, five in line on fifteen of each, three in line on three of each
abbrev pub WindowCounts : Type 0
WindowCounts = (length (windows 7 6 4) ≡ 69) × (length (windows 15 15 5) ≡ 572) × (length (windows 3 3 3) ≡ 8)
