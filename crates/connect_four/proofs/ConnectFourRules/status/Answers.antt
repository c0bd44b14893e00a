use Rattle.connect_four_theory.specs.Game.{position}
use Rattle.connect_four_theory.proofs.Facts.{judged_so}
use Rattle.connect_four.proofs.ConnectFourRules.status.Goals as goal

pub returns-clause-judged : goal.returns-clause-judged
returns-clause-judged c =
    let x = c.args.self.now in
    judged_so (position x.stones x.turn) x.settled x.way x.status x.judged
