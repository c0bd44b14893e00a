-- The stones of one side, as a word of bits: bit 7 * column + row is one where the cell has a stone.
--   bit, stone   the bit of a word at a number, and whether it is one
--   place        the number of a cell's bit
--   cell_at      the cell whose bit has a number
--   has_stone    whether a word has a stone in a cell of the board
--   placed       the word with one stone more
--   board        the cells of the board: seven columns and six rows
--   four_in_line whether four cells in a line, or more, pass a test
--   OnBoard      a word has stones in cells of the board only
--   run, Run     four bits of a word, each a step past the one before, and that a word has such
use Rattle.std.specs.Prelude.{◌≡◌, ℕ, ◌+◌, ◌*◌, ◌/◌, ◌%◌, ◌^◌, Bool, true, List, [], ◌∷◌, ◌==◌, bit_or}
use Rattle.std.specs.Int.{bit_at}
use Rattle.board.specs.Windows.{Cell, cell, every, grid, windows, in_line}
use Rattle.board.specs.Straight.{inside}

abbrev pub bit : ℕ → ℕ → ℕ
bit = bit_at

abbrev pub stone : ℕ → ℕ → Bool
stone w k = bit w k == 1

abbrev pub place : Cell → ℕ
place c = 7 * c.column + c.row

abbrev pub cell_at : ℕ → Cell
cell_at k = cell (k / 7) (k % 7)

abbrev pub has_stone : ℕ → Cell → Bool
has_stone w c = stone w (place c)

abbrev pub placed : ℕ → Cell → ℕ
placed w c = bit_or w (2 ^ place c)

abbrev pub board : List Cell
board = grid 7 6 cell

abbrev pub four_in_line : (Cell → Bool) → Bool
four_in_line p = in_line (windows 7 6 4) p

abbrev pub OnBoard : ℕ → Type 0
OnBoard w = (k : ℕ) → stone w k ≡ true → inside 7 6 (cell_at k) ≡ true

abbrev pub run : ℕ → ℕ → List ℕ
run by k = k ∷ (by + k) ∷ (2 * by + k) ∷ (by + (2 * by + k)) ∷ []

abbrev pub Run : ℕ → ℕ → Type 0
Run w by = (k : ℕ) × (every (stone w) (run by k) ≡ true)
