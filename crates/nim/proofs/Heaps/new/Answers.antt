use Rattle.std.proofs.Common.{◌≡◌, ℕ, ◌-◌, List, ◌++◌, drop, length, sum, replicate, sym, ap, ◌∙◌, rules}
use Rattle.std.proofs.lemmas.List.{drop-replicate}
use Rattle.nim_theory.specs.Nim.{counters}
use Rattle.nim_theory.proofs.Start.{padded, counters_padded}
use Rattle.nim.proofs.Heaps.new.Goals as goal

over_zeros : (hs xs : List ℕ) → xs ≡ hs → xs ++ drop (length hs) (replicate 8 0) ≡ padded hs (8 - length hs)
over_zeros hs xs e = ap (λ (ys : List ℕ). ys ++ drop (length hs) (replicate 8 0)) e ∙ ap (λ (ys : List ℕ). hs ++ ys) (drop-replicate (length hs) 8 0)

pub invariant_of-result-clause-left_is : goal.invariant_of-result-clause-left_is
invariant_of-result-clause-left_is c =
    let hs = c.args.heaps.now in
    let total : c.sum-left.result ≡ sum hs = search rules in
    total ∙ sym (ap counters (over_zeros hs _ c.copy_from_slice.ensures.after) ∙ counters_padded hs (8 - length hs))

pub returns : goal.returns
returns c = over_zeros c.args.heaps.now _ c.copy_from_slice.ensures.after
