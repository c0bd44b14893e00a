-- The seating of at most sixteen entrants, by one computed test.
use Rattle.std.proofs.Common.{◌≡◌, ℕ, zero, suc, ◌<◌, ◌≤◌, ◌+◌, ◌-◌, ap, ◌∙◌, Bool, true, ◌&&◌, eqb, ltb, refl, subst, inl, inr, arith, ltb-true, eqb-true}
use Rattle.std.proofs.lemmas.Bool.{and_parts, cases_lt}
use Rattle.seating.specs.Pairs.{games_of, row_start, number_of, low_of, high_of, SeatingRight}

-- a test of each number below one
below_all : ℕ → (ℕ → Bool) → Bool
below_all zero p = true
below_all (suc k) p = p k && below_all k p

below_each : (k : ℕ) (p : ℕ → Bool) → below_all k p ≡ true → (i : ℕ) → i < k → p i ≡ true
unfolding below_all
below_each zero p h i l = absurd (omega arith)
below_each (suc k) p h i l =
    let q = and_parts (p k) (below_all k p) h in
    elim (cases_lt i k) [
      | inl s ↦ below_each k p q.1 i s
      | inr s ↦ let e : k ≡ i = omega arith in subst (λ (j : ℕ). p j ≡ true) e q.0
    ]

pair_test : ℕ → ℕ → Bool
pair_test n g = ltb (low_of n g) (high_of n g) && (ltb (high_of n g) n && eqb (number_of n (low_of n g) (high_of n g)) g)

number_test : ℕ → ℕ → ℕ → Bool
number_test n b a = ltb (number_of n a b) (games_of n) && (eqb (low_of n (number_of n a b)) a && eqb (high_of n (number_of n a b)) b)

pairs_hold : below_all 17 (λ n. below_all (games_of n) (pair_test n)) ≡ true
unfolding below_all pair_test
pairs_hold = refl

numbers_hold : below_all 17 (λ n. below_all n (λ b. below_all b (number_test n b))) ≡ true
unfolding below_all number_test
numbers_hold = refl

pub seating_right : SeatingRight
unfolding pair_test number_test
seating_right = record {
  pair = λ n g few within.
      let t = below_each (games_of n) (pair_test n) (below_each 17 (λ m. below_all (games_of m) (pair_test m)) pairs_hold n (omega arith)) g within in
      let p = and_parts (ltb (low_of n g) (high_of n g)) _ t in
      let q = and_parts (ltb (high_of n g) n) _ p.1 in
      (ltb-true _ _ p.0, ltb-true _ _ q.0, eqb-true _ _ q.1);
  number = λ n a b few under within.
      let t = below_each b (number_test n b) (below_each n (λ c. below_all c (number_test n c)) (below_each 17 (λ m. below_all m (λ c. below_all c (number_test m c))) numbers_hold n (omega arith)) b within) a under in
      let p = and_parts (ltb (number_of n a b) (games_of n)) _ t in
      let q = and_parts (eqb (low_of n (number_of n a b)) a) _ p.1 in
      (ltb-true _ _ p.0, eqb-true _ _ q.0, eqb-true _ _ q.1);
}

-- the higher entrant of a game is found from the lower one's first game
pub found_high : (n g : ℕ) → n ≤ 16 → g < games_of n → (low start : ℕ) → low ≡ low_of n g → start ≡ row_start n low → (start ≤ g) × (low + 1 + (g - start) < n)
found_high n g few within low start e s =
    let p = seating_right.pair n g few within in
    let t : start ≡ row_start n (low_of n g) = s ∙ ap (row_start n) e in
    (omega (arith, p.2, t, p.0), omega (arith, p.1, t, e))
