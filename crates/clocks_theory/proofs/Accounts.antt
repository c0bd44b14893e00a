-- What each clock's left and its in-time readings come to over every list of readings.
use Rattle.std.proofs.Common.{◌≡◌, ℕ, ◌+◌, ◌-◌, ◌*◌, ◌<◌, ◌≤◌, if◌then◌else◌, List, [], ◌∷◌, ◌++◌, map, length, sum, refl, ap, subst, arith}
use Rattle.std.proofs.lemmas.Bool.{lt-ltb}
use Rattle.std.proofs.lemmas.List.Sums.{sum_by-cons}
use Rattle.clocks_theory.specs.Movements.{Lefts, onward, after, InBounds}
use Rattle.clocks_theory.specs.Kinds.{capped, plain, fischer, bronstein, Byoyomi, japanese, delay}
use Rattle.clocks_theory.specs.Laws.{PlainLaw, FischerLaw, BronsteinLaw, JapaneseLaw, DelayLaw, spent_below}
use Rattle.clocks_theory.proofs.Runs.{runs, never_rises}
use Rattle.clocks_theory.proofs.Bounds.{japanese_lowers}

sum_cons : (u : ℕ) (us : List ℕ) → sum (u ∷ us) ≡ u + sum us
sum_cons u us = sum_by-cons (λ x. x) u us

pub plain_law : (main : ℕ) → PlainLaw main
plain_law main us =
    runs plain (λ s ws t. t + sum ws ≡ s)
    (λ s. omega arith)
    (λ s u ws t lt h. let more = sum_cons u ws in omega arith)
    main us

-- an increment for each of one more reading
turns_cons : (i u : ℕ) (us : List ℕ) → i * length (u ∷ us) ≡ i * length us + i
turns_cons i u us = omega arith

pub fischer_law : (main increment : ℕ) → FischerLaw main increment
fischer_law main i = record {
  most = λ us.
      runs (fischer i) (λ s ws t. t + sum ws ≤ s + i * length ws)
      (λ s. omega arith)
      (λ s u ws t lt h. let more = sum_cons u ws in let turn = turns_cons i u ws in omega arith)
      main us;
  uncapped = λ us.
      runs (fischer i) (λ s ws t. s + i * length ws ≤ 1000000000 → t + sum ws ≡ s + i * length ws)
      (λ s h. omega arith)
      (λ s u ws t lt h few. let more = sum_cons u ws in let turn = turns_cons i u ws in let rest = h (omega arith) in omega arith)
      main us;
}

pub bronstein_law : (main d : ℕ) → BronsteinLaw main d
bronstein_law main d = record {
  falls = λ us vs. never_rises (bronstein d) (λ s. Unit {0}) (λ s. s) (λ s u lt h. (h, omega arith)) (capped (main + d)) tt us vs;
  lost = λ us.
      runs (bronstein d) (λ s ws t. s ≤ 1000000000 → t + sum (map (λ u. u - d) ws) ≡ s)
      (λ s h. omega arith)
      (λ s u ws t lt h few. let more = sum_cons (u - d) (map (λ u. u - d) ws) in let rest = h (omega arith) in omega arith)
      (capped (main + d)) us (omega arith);
}

pub japanese_law : (main periods b : ℕ) → JapaneseLaw main periods b
japanese_law main periods b = record {
  falls = fall (japanese b).left (λ s u. (japanese_lowers b s u).left);
  main_falls = fall (λ s. s.main) (λ s u. (japanese_lowers b s u).main);
  periods_fall = fall (λ s. s.periods) (λ s u. (japanese_lowers b s u).periods);
}
  where
    fall : (f : Byoyomi → ℕ) → ((s : Byoyomi) (u : ℕ) → f ((japanese b).next s u) ≤ f s) → (us vs : List ℕ) → f (after (japanese b) (record { main = main; periods = periods }) (us ++ vs)) ≤ f (after (japanese b) (record { main = main; periods = periods }) us)
    fall f step us vs = never_rises (japanese b) (λ s. Unit {0}) f (λ s u lt h. (h, step s u)) (record { main = main; periods = periods }) tt us vs

-- what an in-time reading leaves of the delay is in time below
onward_below : (d : ℕ) (below : Lefts) (u : ℕ) → 1 ≤ below [] → u < capped (below [] + d) → onward below (u - d) ≡ (λ vs. below ((u - d) ∷ vs))
onward_below d below u some lt = ap (λ b. if b then (λ vs. below ((u - d) ∷ vs)) else below) (lt-ltb (u - d) (below []) (omega arith))

delay_is : (d : ℕ) (below : Lefts) → InBounds below → (us : List ℕ) → after (delay d) below us [] ≡ below (spent_below d below us)
delay_is d below h us =
    runs (delay d) (λ (s : Lefts) ws (t : Lefts). ((vs : List ℕ) → 1 ≤ s vs) → t [] ≡ s (map (λ u. u - d) ws))
    (λ s some. refl)
    (λ s u ws t lt rest some. step s u ws t (onward_below d s u (some []) lt) some rest)
    below us h.least
  where
    step : (s : Lefts) (u : ℕ) (ws : List ℕ) (t : Lefts) → onward s (u - d) ≡ (λ vs. s ((u - d) ∷ vs)) → ((vs : List ℕ) → 1 ≤ s vs) → (((vs : List ℕ) → 1 ≤ onward s (u - d) vs) → t [] ≡ onward s (u - d) (map (λ v. v - d) ws)) → t [] ≡ s (map (λ v. v - d) (u ∷ ws))
    step s u ws t e some rest =
        let moved : ((vs : List ℕ) → 1 ≤ s ((u - d) ∷ vs)) → t [] ≡ s ((u - d) ∷ map (λ v. v - d) ws) = subst (λ (f : Lefts). ((vs : List ℕ) → 1 ≤ f vs) → t [] ≡ f (map (λ v. v - d) ws)) e rest in
        moved (λ vs. some _)

pub delay_law : (d : ℕ) (below : Lefts) → InBounds below → DelayLaw d below
delay_law d below h = record {
  left = λ us. ap (λ n. capped (n + d)) (delay_is d below h us);
  more = λ us. let is = delay_is d below h us in let top = h.most (spent_below d below us) in omega arith;
}

pub ruleset account_laws = (plain_law, fischer_law, bronstein_law, japanese_law, delay_law)
