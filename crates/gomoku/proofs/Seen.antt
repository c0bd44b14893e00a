-- What is looked for, in the words of the game: five of a side's stones, and a window for a chance.
use Rattle.std.specs.Prelude.{◌≡◌, not, List, refl}
use Rattle.std.specs.List.{list_any}
use Rattle.std.proofs.Common.{sym}
use Rattle.side.specs.declared.Side.{Side}
use Rattle.side.specs.TwoSides.{opponent}
use Rattle.board.specs.Windows.{in_line}
use Rattle.gomoku_theory.specs.declared.Point.{Point}
use Rattle.gomoku_theory.specs.Gomoku.{is_of, lines, five_of, chance_of}
use Rattle.gomoku_theory.specs.Search.{headings, board_has}
use Rattle.gomoku_theory.proofs.Lines.{line_is}
use Rattle.gomoku.specs.declared.Sought.TheVariants.{Line, Room}
use Rattle.gomoku.specs.Sought.{admits, seen}

pub line_admits : (x : Point) (t : Side) → admits (Line t) x ≡ is_of t x
line_admits x t = refl

pub room_admits : (x : Point) (t : Side) → admits (Room t) x ≡ not (is_of (opponent t) x)
room_admits x t = refl

pub seen_five : (ps : List Point) (t : Side) → in_line lines (seen ps (Line t)) ≡ five_of ps t
seen_five ps t = refl

pub seen_chance : (ps : List Point) (t : Side) → in_line lines (seen ps (Room t)) ≡ chance_of ps t
seen_chance ps t = refl

pub chance_is : (ps : List Point) (t : Side) → list_any (board_has (seen ps (Room t))) headings ≡ chance_of ps t
chance_is ps t = sym (line_is (seen ps (Room t)))
