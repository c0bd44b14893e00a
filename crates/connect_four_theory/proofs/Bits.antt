-- Single bits of words, and the number of ones as a sum of bits.
use Rattle.std.proofs.Common.{◌≡◌, ℕ, zero, suc, ◌+◌, ◌/◌, ◌%◌, ◌^◌, ◌<◌, ◌≤◌, true, false, ◌⊎◌, sym, refl, ap, ◌∙◌, subst, ap₂, inl, inr, add-one, arith, shr-shr, shr_lt}
use lib.Arith.{bin_ind}
use lib.Bits.{bit_or, bit_xor, xor_shr, xor_mod}
use lib.Count.{ones, ones_step, ones-le}
use Rattle.std.proofs.lemmas.Bool.{eq-eqb, ne_eqb, eqb-true, eqb-false, cases_eq, cases_lt}
use Rattle.std.proofs.lemmas.Nat.Bits.{bit_at_lowest, bit_at-suc, bit_at-zero, bit_at_or, bit_at-pow_same, bit_at-pow_other, bit_at-lt}
use Rattle.connect_four_theory.specs.Stones.{bit, stone}

pub bit_shr : (w s k : ℕ) → bit (w / 2 ^ s) k ≡ bit w (s + k)
bit_shr w s k = ap (λ (x : ℕ). x % 2) (shr-shr w s k)

pub bit_of_xor : (k a b : ℕ) → bit (bit_xor a b) k ≡ bit_xor (bit a k) (bit b k)
bit_of_xor k a b = ap (λ (n : ℕ). n % 2) (xor_shr a b k) ∙ xor_mod (a / 2 ^ k) (b / 2 ^ k) 1

pub some_bit : (w : ℕ) → 0 < w → (k : ℕ) × (bit w k ≡ 1)
some_bit w =
    bin_ind (λ (n : ℕ). 0 < n → (k : ℕ) × (bit n k ≡ 1)) (λ h. absurd (omega arith))
    (λ n ih h.
    elim (cases_eq (n % 2) 1) [
      | inl e ↦ (0, bit_at_lowest n ∙ e)
      | inr e ↦ let r = ih (omega arith) in (suc r.0, bit_at-suc n r.0 ∙ r.1)
    ]) w

pub not_zero : (w k : ℕ) → bit w k ≡ 1 → 0 < w
not_zero zero k e = let z = bit_at-zero k in absurd (omega arith)
not_zero (suc w) k e = omega arith

-- ---- sums over the places below n

unfoldable pub total : ℕ → (ℕ → ℕ) → ℕ
total zero f = 0
total (suc n) f = f 0 + total n (λ j. f (suc j))

total_cong : (n : ℕ) (f g : ℕ → ℕ) → ((j : ℕ) → f j ≡ g j) → total n f ≡ total n g
unfolding total
total_cong zero f g h = refl
total_cong (suc n) f g h = ap₂ (λ (x y : ℕ). x + y) (h 0) (total_cong n (λ j. f (suc j)) (λ j. g (suc j)) (λ j. h (suc j)))

pub total_add : (n : ℕ) (f g : ℕ → ℕ) → total n (λ j. f j + g j) ≡ total n f + total n g
unfolding total
total_add zero f g = refl
total_add (suc n) f g = let i = total_add n (λ j. f (suc j)) (λ j. g (suc j)) in omega arith

pub total_le : (n : ℕ) (f g : ℕ → ℕ) → ((j : ℕ) → f j ≤ g j) → total n f ≤ total n g
unfolding total
total_le zero f g h = omega arith
total_le (suc n) f g h = let i = total_le n (λ j. f (suc j)) (λ j. g (suc j)) (λ j. h (suc j)) in omega (arith, h 0)

pub total_lt : (n : ℕ) (f g : ℕ → ℕ) (k : ℕ) → k < n → ((j : ℕ) → f j ≤ g j) → f k < g k → total n f < total n g
unfolding total
total_lt zero f g k l h s = absurd (omega arith)
total_lt (suc n) f g zero l h s = let i = total_le n (λ j. f (suc j)) (λ j. g (suc j)) (λ j. h (suc j)) in omega arith
total_lt (suc n) f g (suc k) l h s =
    let i = total_lt n (λ j. f (suc j)) (λ j. g (suc j)) k (omega arith) (λ j. h (suc j)) s in omega (arith, h 0)

pub total_find : (n : ℕ) (f g : ℕ → ℕ) → total n f < total n g → (k : ℕ) × (k < n) × (f k < g k)
unfolding total
total_find zero f g h = absurd (omega arith)
total_find (suc n) f g h =
    elim (cases_lt (f 0) (g 0)) [
      | inl l ↦ (0, omega arith, l)
      | inr l ↦
          let r = total_find n (λ j. f (suc j)) (λ j. g (suc j)) (omega arith) in
          let a = r.1 in
          (suc r.0, omega arith, r.2)
    ]

-- one place more
pub total_more : (n : ℕ) (f g : ℕ → ℕ) (k : ℕ) → k < n → g k ≡ f k + 1 → ((j : ℕ) → (j ≡ k → ⊥) → g j ≡ f j) → total n g ≡ total n f + 1
unfolding total
total_more zero f g k l e h = absurd (omega arith)
total_more (suc n) f g zero l e h =
    let c = total_cong n (λ j. g (suc j)) (λ j. f (suc j)) (λ j. h (suc j) (λ z. omega arith)) in omega arith
total_more (suc n) f g (suc k) l e h =
    let i = total_more n (λ j. f (suc j)) (λ j. g (suc j)) k (omega arith) e (λ j d. h (suc j) (λ z. d (omega arith))) in
    omega (arith, h 0 (λ z. omega arith))

pub ones_total : (n w : ℕ) → w < 2 ^ n → ones w ≡ total n (bit w)
unfolding total
ones_total zero w l = let z = ones-le 0 w l in omega arith
ones_total (suc n) w l =
    let i = ones_total n (w / 2) (shr_lt n 1 (subst (λ (x : ℕ). w < 2 ^ x) (sym (add-one n)) l)) in
    let s = ones_step w in
    let b = bit_at_lowest w in
    let c = total_cong n (λ j. bit w (suc j)) (bit (w / 2)) (λ j. bit_at-suc w j) in
    omega arith

-- ---- a stone more

pub bit_set_same : (w k : ℕ) → bit (bit_or w (2 ^ k)) k ≡ 1
bit_set_same w k = let a = bit_at_or w (2 ^ k) k in let b = bit_at-pow_same k in let c = bit_at-lt w k in omega arith

pub bit_set_other : (w k j : ℕ) → (j ≡ k → ⊥) → bit (bit_or w (2 ^ k)) j ≡ bit w j
bit_set_other w k j h = let a = bit_at_or w (2 ^ k) j in let b = bit_at-pow_other k j h in omega arith

pub ones_set : (n w k : ℕ) → w < 2 ^ n → bit_or w (2 ^ k) < 2 ^ n → k < n → bit w k ≡ 0 → ones (bit_or w (2 ^ k)) ≡ ones w + 1
ones_set n w k l m h z =
    let a = ones_total n w l in
    let b = ones_total n (bit_or w (2 ^ k)) m in
    let s = bit_set_same w k in
    let t = total_more n (bit w) (bit (bit_or w (2 ^ k))) k h (omega arith) (λ j d. bit_set_other w k j d) in
    omega arith

pub bit_cases : (w k : ℕ) → (bit w k ≡ 1) ⊎ (bit w k ≡ 0)
bit_cases w k = let l = bit_at-lt w k in elim (cases_eq (bit w k) 1) [ inl e ↦ inl e | inr e ↦ inr (omega arith) ]

pub stone_yes : (w k : ℕ) → bit w k ≡ 1 → stone w k ≡ true
stone_yes w k e = eq-eqb (bit w k) 1 e

pub stone_no : (w k : ℕ) → bit w k ≡ 0 → stone w k ≡ false
stone_no w k e = ne_eqb (bit w k) 1 (λ d. omega arith)

pub yes_stone : (w k : ℕ) → stone w k ≡ true → bit w k ≡ 1
yes_stone w k e = eqb-true (bit w k) 1 e

pub no_stone : (w k : ℕ) → stone w k ≡ false → bit w k ≡ 0
no_stone w k e = let l = bit_at-lt w k in let d = eqb-false (bit w k) 1 e in omega arith
