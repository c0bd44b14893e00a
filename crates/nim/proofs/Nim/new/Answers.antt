use Rattle.std.proofs.Common.{◌≡◌, ℕ, ◌-◌, Bool, true, cond, length, Some, None, Option, sym, ap, ◌∙◌, arith}
use Rattle.side.specs.declared.Side.TheVariants.{First}
use Rattle.rules.proofs.Sound.{start_on_way}
use Rattle.nim_theory.specs.Nim.{nim, at, counters, allowed}
use Rattle.nim_theory.proofs.Start.{sized, counters_padded, made}
use Rattle.nim.proofs.Nim.new.Goals as goal

pub invariant_of-result : goal.invariant_of-result
invariant_of-result c =
    let hs = c.args.heaps.now in
    let start = c.new-start.result in
    let s = sized hs (sym c.if-not-is_allowed.ensures) in
    let n : counters start.sizes ≡ counters hs = ap counters c.new-start.ensures ∙ counters_padded hs (8 - length hs) in
    record { some = omega arith; few = omega arith; way = start_on_way nim (at start.sizes First) }

pub returns : goal.returns
returns c =
    let hs = c.args.heaps.now in
    let a : allowed hs ≡ true = sym c.if-not-is_allowed.ensures in
    (ap (λ (b : Bool). cond {A = Option ℕ} b None (Some 10)) a, made hs c.new-start.result.sizes (sized hs a).at_most c.new-start.ensures)
