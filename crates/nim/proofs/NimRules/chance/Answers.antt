use Rattle.std.proofs.lemmas.Bool.Decides.{Decides-at}
use Rattle.nim_theory.proofs.Counts.{chance_exact}
use Rattle.nim.proofs.NimRules.chance.Goals as goal

pub returns-clause-exact : goal.returns-clause-exact
returns-clause-exact c = let x = c.args.self.now in Decides-at _ _ c.has_chance.ensures (chance_exact x.heaps.sizes x.turn c.args.side x.heaps.eight)
