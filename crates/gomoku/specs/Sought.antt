-- What is looked for in a window.
--   admits   whether a point may be in the window
--   seen     the same of a cell
use Rattle.std.specs.Prelude.{Bool, not, List}
use Rattle.side.specs.TwoSides.{opponent}
use Rattle.board.specs.Windows.{Cell}
use Rattle.gomoku_theory.specs.declared.Point.{Point}
use Rattle.gomoku_theory.specs.Gomoku.{is_of, on_cell}
use Rattle.gomoku.specs.declared.Sought.{Sought}
use Rattle.gomoku.specs.declared.Sought.TheVariants.{Line, Room}

abbrev pub admits : Sought → Point → Bool
admits (Line t) x = is_of t x
admits (Room t) x = not (is_of (opponent t) x)

abbrev pub seen : List Point → Sought → Cell → Bool
seen ps sought x = admits sought (on_cell ps x)
