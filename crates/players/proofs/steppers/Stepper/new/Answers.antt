use Rattle.players_theory.proofs.Least.{plays_lowest, point_start}
use Rattle.players.proofs.steppers.Stepper.new.Goals as goal

pub returns-clause-lowest : goal.returns-clause-lowest
returns-clause-lowest g c =
    let law = g.met.R.Rules.lawful c.args.rules in
    plays_lowest _ _ c.args.step _ _ law (point_start _ _ _ law)

pub returns-clause-lowest_line : goal.returns-clause-lowest_line
returns-clause-lowest_line g c = plays_lowest _ _ c.args.step _ _ (g.met.R.Rules.lawful c.args.rules) (g.met.R.Rules.point c.args.rules)
