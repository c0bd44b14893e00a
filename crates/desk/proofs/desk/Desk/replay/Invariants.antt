use Rattle.std.proofs.Common.{◌≡◌}
use Rattle.desk.specs.Lines.{at_start, Way}
use Rattle.desk.specs.Desks.{plans_of, lines_of}
use Rattle.desk.proofs.Walk.{Walking}
use Rattle.desk.proofs.desk.Desk.replay.Given as goal

-- plans stay, and what is left of the turns leads to the same side and the same lines
abbrev pub invariant-loop-turn : goal.invariant-loop-turn
invariant-loop-turn g l =
    let start = plans_of g.R.Rules.plan g.C.Clock.plan g.B.Bank.plan l.fn.self in
    record {
      plans : plans_of g.R.Rules.plan g.C.Clock.plan g.B.Bank.plan l.self ≡ start;
      walking : Walking (at_start start l.both) l.turns l.turn-index (lines_of g.R.Rules.line g.C.Clock.line g.B.Bank.line l.self l.both) l.side;
      way : Way (g.R.Rules.plan l.self.rules) (g.R.Rules.line l.self.rules) l.count;
    }
