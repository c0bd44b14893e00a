use Rattle.std.proofs.Common.{ℕ, rules, arith, nat_lt, cond, tests}
use Rattle.std.proofs.lemmas.Iterator.{YieldsList-from_slice, YieldsList-from_map}
use Rattle.std.proofs.lemmas.Iterator.Consumers.{fits_by_from_yields_list}
use Rattle.std.proofs.lemmas.List.Sums.{count_by-le-length}
use Rattle.nim.proofs.Heaps.filled.Goals as goal

pub sum-requires-clause-fits : goal.sum-requires-clause-fits
sum-requires-clause-fits c =
    let most = count_by-le-length (λ h. nat_lt 0 h) c.args.self.now.sizes in
    fits_by_from_yields_list _ _ c.map.result _ (YieldsList-from_map _ (λ (h : ℕ). cond (nat_lt 0 h) 1 0) (YieldsList-from_slice c.args.self.now.sizes cc) c.map.ensures.closure (λ x r q k. search (rules, tests)))
    (omega (arith, c.args.self.now.eight))
