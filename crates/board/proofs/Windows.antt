-- Tests over lists.
use Rattle.std.proofs.Common.{◌≡◌, ℕ, zero, suc, ◌+◌, ◌<◌, Bool, true, false, ◌||◌, List, [], ◌∷◌, ◌++◌, map, refl, ap, ◌∙◌, subst, ap₂, inl, inr, add-one, arith}
use Rattle.std.specs.List.{flat_map}
use Rattle.std.proofs.Math.Bool.{or-false}
use Rattle.std.proofs.lemmas.List.Folds.{list_any-append}
use Rattle.std.proofs.lemmas.Bool.{and_parts, and_from, or_cases, or_left, or_right, or_from, cases_lt}
use Rattle.board.specs.Windows.{every, some, below, grid}

pub some_in : {X : Type 0} (p q : X → Bool) → ((x : X) → q x ≡ true → p x ≡ true) → (xs : List X) → some q xs ≡ true → some p xs ≡ true
some_in p q f [] h = h
some_in p q f (x ∷ xs) h =
    elim (or_cases (q x) (some q xs) h) [
      | inl a ↦ or_left _ _ (f x a)
      | inr a ↦ or_right _ _ (some_in p q f xs a)
    ]

pub every_weaker : {X : Type 0} (p q : X → Bool) → ((x : X) → p x ≡ true → q x ≡ true) → (xs : List X) → every p xs ≡ true → every q xs ≡ true
every_weaker p q f [] h = refl
every_weaker p q f (x ∷ xs) h = let e = and_parts _ _ h in and_from _ _ (f x e.0) (every_weaker p q f xs e.1)

pub some_append : {X : Type 0} (p : X → Bool) (xs ys : List X) → some p (xs ++ ys) ≡ (some p xs || some p ys)
some_append p xs ys = list_any-append p xs ys

some_map : {X Y : Type 0} (p : Y → Bool) (f : X → Y) (xs : List X) → some p (map f xs) ≡ some (λ x. p (f x)) xs
some_map p f [] = refl
some_map p f (x ∷ xs) = ap (λ (b : Bool). p (f x) || b) (some_map p f xs)

some_cong : {X : Type 0} (p q : X → Bool) → ((x : X) → p x ≡ q x) → (xs : List X) → some p xs ≡ some q xs
some_cong p q h [] = refl
some_cong p q h (x ∷ xs) = ap₂ ◌||◌ (h x) (some_cong p q h xs)

some_joined : {X Y : Type 0} (p : Y → Bool) (f : X → List Y) (xs : List X) → some p (flat_map f xs) ≡ some (λ x. some p (f x)) xs
some_joined p f [] = refl
some_joined p f (x ∷ xs) = some_append p (f x) (flat_map f xs) ∙ ap (λ (b : Bool). some p (f x) || b) (some_joined p f xs)

-- a test over a grid is a test of each row
pub some_grid : {X : Type 0} (p : X → Bool) (f : ℕ → ℕ → X) (g : ℕ → ℕ → Bool) → ((r c : ℕ) → p (f r c) ≡ g r c) → (rows columns : ℕ)
    → some p (grid rows columns f) ≡ some (λ r. some (g r) (below columns)) (below rows)
some_grid p f g h rows columns =
    some_joined p (λ r. map (λ c. f r c) (below columns)) (below rows)
    ∙ some_cong _ _ (λ r. some_map p (f r) (below columns) ∙ some_cong _ _ (h r) (below columns)) (below rows)

pub found : (p : ℕ → Bool) (i n : ℕ) → i < n → p i ≡ true → some p (below n) ≡ true
found p i zero l h = absurd (omega arith)
found p i (suc n) l h =
    some_append p (below n) (n ∷ [])
    ∙ elim (cases_lt i n) [
      | inl s ↦ or_left _ _ (found p i n s h)
      | inr s ↦ let e : i ≡ n = omega arith in or_right (some p (below n)) _ (or_left _ _ (subst (λ (j : ℕ). p j ≡ true) e h))
    ]
