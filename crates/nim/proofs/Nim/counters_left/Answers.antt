use Rattle.std.proofs.Common.{arith}
use Rattle.nim_theory.proofs.Start.{most_codes}
use Rattle.nim.proofs.Nim.counters_left.Goals as goal

pub returns-clause-most : goal.returns-clause-most
returns-clause-most c = let x = c.args.self.now in most_codes x.heaps.sizes x.turn c.from.result (omega arith)
