use Rattle.std.proofs.Common.{◌≡◌, ℕ, List, rules, subst, sym}
use Rattle.side.specs.declared.Side.TheVariants.{First}
use Rattle.side.specs.TwoSides.{opponent}
use Rattle.rules.specs.Machine.{OnWay}
use Rattle.rules.proofs.Sound.{next_on_way}
use Rattle.nim_theory.specs.Nim.{Position, OnTheWay, nim, at, taken}
use Rattle.nim.proofs.NimRules.make.Goals as goal

pub invariant_of-self-clause-way : goal.invariant_of-self-clause-way
invariant_of-self-clause-way c =
    let x = c.args.self.now in
    subst (λ (hs : List ℕ). OnTheWay x.start.sizes hs x.turn) (sym c.if-not-take.ensures.sizes) x.way

pub invariant_of-self-2-clause-way : goal.invariant_of-self-2-clause-way
invariant_of-self-2-clause-way c =
    let x = c.args.self.now in
    let next : at (taken x.heaps.sizes c.args.code) (opponent x.turn) ≡ at c.take.new.self.sizes c.other-self.result = search rules in
    subst (λ (p : Position). OnWay nim (at x.start.sizes First) p) next
    (next_on_way nim (at x.start.sizes First) (at x.heaps.sizes x.turn) c.args.code x.way (search rules))
