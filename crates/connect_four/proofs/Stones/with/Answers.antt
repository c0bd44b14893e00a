use Rattle.std.proofs.Common.{rules, ◌≡◌, ◌*◌, ◌^◌, ◌%◌, sym, subst}
use lib.Bits.{bit_or}
use Rattle.connect_four_theory.specs.Stones.{placed, OnBoard}
use Rattle.connect_four_theory.proofs.Falls.{on_more}
use Rattle.connect_four.proofs.Stones.with.Goals as goal

pub invariant_of-result : goal.invariant_of-result
invariant_of-result c =
    let e : bit_or c.self.inside.word (1 * 2 ^ c.place.result % 18446744073709551616) ≡ placed c.self.inside.word c.args.cell = search rules in
    subst OnBoard (sym e) (on_more c.self.inside.word c.args.cell c.self.invariant c.place.ensures.inside)
