use Rattle.std.proofs.Common.{take}
use Rattle.format.specs.Layout.{turn_bytes}
use Rattle.format.specs.Laid.{Lays}
use Rattle.record.proofs.writer.put_turns.Given as goal

-- the turns so far are laid
abbrev pub invariant-loop-number : goal.invariant-loop-number
invariant-loop-number g l = Lays l.initial.buffer l.place (turn_bytes (take l.number (g.T.Turns.turns l.turns))) l.buffer l.end
