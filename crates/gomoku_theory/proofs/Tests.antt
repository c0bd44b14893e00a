-- Tests over the numbers below one.
use Rattle.std.specs.Prelude.{◌≡◌, ℕ, zero, suc, ◌+◌, ◌<◌, Bool, true, false, ◌||◌, List, [], ◌∷◌, ◌++◌, refl}
use Rattle.std.specs.List.{range_with_len}
use Rattle.std.proofs.Math.Path.{ap₂}
use Rattle.std.proofs.Common.{sym, ap, subst, ◌∙◌, inl, inr, arith}
use Rattle.std.proofs.lemmas.List.Folds.{list_all-append}
use Rattle.std.proofs.lemmas.Bool.{false_from_ne_true, and_parts, and_from, or_cases, or_parts, cases_lt, both_ways, true≢false}
use Rattle.board.specs.Windows.{every, some, below}
use Rattle.board.proofs.Windows.{some_append, found}

-- two tests that imply one another
pub same_test : (a b : Bool) → (a ≡ true → b ≡ true) → (b ≡ true → a ≡ true) → a ≡ b
same_test true b f g = sym (f refl)
same_test false true f g = g refl
same_test false false f g = refl

-- a test that nothing passes, and two others that agree where it fails
pub same_any : {X : Type 0} (p q r : X → Bool) (xs : List X) → ((x : X) → p x ≡ false → q x ≡ r x) → some p xs ≡ false → some q xs ≡ some r xs
same_any p q r [] f h = refl
same_any p q r (x ∷ xs) f h = let e = or_parts _ _ h in ap₂ ◌||◌ (f x e.0) (same_any p q r xs f e.1)

-- the numbers below n, as a range gives them
range_more : (a n m : ℕ) → a + n ≡ m → range_with_len a (suc n) ≡ range_with_len a n ++ (m ∷ [])
range_more a zero m e = let d : a ≡ m = omega arith in ap (λ (k : ℕ). k ∷ []) d
range_more a (suc n) m e = ap (λ (xs : List ℕ). a ∷ xs) (range_more (a + 1) n m (omega arith))

pub range_is_below : (n : ℕ) → range_with_len 0 n ≡ below n
range_is_below zero = refl
range_is_below (suc n) = range_more 0 n n (omega arith) ∙ ap (λ (xs : List ℕ). xs ++ (n ∷ [])) (range_is_below n)

-- one that passes
pub one_of : (q : ℕ → Bool) (n : ℕ) → some q (below n) ≡ true → (i : ℕ) × (i < n) × (q i ≡ true)
one_of q zero h = absurd (true≢false (sym h))
one_of q (suc n) h =
    elim (or_cases _ _ (sym (some_append q (below n) (n ∷ [])) ∙ h)) [
      | inl a ↦ let r = one_of q n a in let l = r.1 in (r.0, omega arith, r.2)
      | inr a ↦
          elim (or_cases _ _ a) [
            | inl b ↦ (n, omega arith, b)
            | inr b ↦ absurd (true≢false (sym b))
          ]
    ]

pub none_of : (q : ℕ → Bool) (n i : ℕ) → some q (below n) ≡ false → i < n → q i ≡ false
none_of q n i h l = false_from_ne_true (q i) (λ a. both_ways _ h (found q i n l a))

-- each passes
pub each_of : (q : ℕ → Bool) (n i : ℕ) → every q (below n) ≡ true → i < n → q i ≡ true
each_of q zero i h l = absurd (omega arith)
each_of q (suc n) i h l =
    let e = and_parts _ _ (sym (list_all-append q (below n) (n ∷ [])) ∙ h) in
    elim (cases_lt i n) [
      | inl s ↦ each_of q n i e.0 s
      | inr s ↦ let d : n ≡ i = omega arith in subst (λ (k : ℕ). q k ≡ true) d (and_parts _ _ e.1).0
    ]

pub from_each : (q : ℕ → Bool) (n : ℕ) → ((i : ℕ) → i < n → q i ≡ true) → every q (below n) ≡ true
from_each q zero f = refl
from_each q (suc n) f =
    list_all-append q (below n) (n ∷ [])
    ∙ and_from _ _ (from_each q n (λ i l. f i (omega arith))) (and_from _ _ (f n (omega arith)) refl)
