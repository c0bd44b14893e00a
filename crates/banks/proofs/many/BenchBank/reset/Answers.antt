use Rattle.std.proofs.Common.{rules}
use Rattle.banks_theory.specs.Numbers.{nobody}
use Rattle.banks_theory.proofs.Places.{listed_kept}
use Rattle.banks.proofs.many.BenchBank.reset.Goals as goal

pub returns-in-Some-clause-plan : goal.returns-in-Some-clause-plan
returns-in-Some-clause-plan g c =
    let bench = c.args.self.now in
    listed_kept g.P.Player.plan nobody bench.players.items c.args.number c.reset.new.self c.in-Some.player.now (search rules) (search rules) c.reset.ensures.plan
