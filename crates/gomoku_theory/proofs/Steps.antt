-- A search's steps, number by number, and lists of tests in parts.
use Rattle.std.specs.Prelude.{◌≡◌, ℕ, ◌+◌, ◌<◌, Bool, true, false, ◌||◌, List, [], ◌∷◌, ◌++◌, map, ◌≢◌, refl}
use Rattle.std.proofs.Common.{sym, ap, ◌∙◌, add-one}
use Rattle.std.proofs.lemmas.List.Folds.{list_all-append, list_all-map}
use Rattle.std.proofs.lemmas.Bool.{false_from_ne_true, and_parts, and_from, or_left, both_ways}
use Rattle.board.specs.Windows.{every, below}
use Rattle.gomoku_theory.proofs.Tests.{each_of}

pub never_true : (a : Bool) → (a ≢ true) → a ≡ false
never_true = false_from_ne_true

-- the ways of `a || b`
pub or_here : (r a b : Bool) → r ≡ a → r ≡ true → r ≡ (a || b)
or_here r a b e h = h ∙ sym (or_left _ _ (sym e ∙ h))

pub or_on : (r a b : Bool) → false ≡ a → r ≡ b → r ≡ (a || b)
or_on r a b h e = e ∙ ap (λ (x : Bool). x || b) h

pub every_append : {X : Type 0} (p : X → Bool) (xs ys : List X) → every p xs ≡ true → every p ys ≡ true → every p (xs ++ ys) ≡ true
every_append p xs ys h k = list_all-append p xs ys ∙ and_from _ _ h k

pub every_parts : {X : Type 0} (p : X → Bool) (xs ys : List X) → every p (xs ++ ys) ≡ true → (every p xs ≡ true) × (every p ys ≡ true)
every_parts p xs ys h = and_parts _ _ (sym (list_all-append p xs ys) ∙ h)

pub every_map : {X Y : Type 0} (p : Y → Bool) (f : X → Y) (xs : List X) → every p (map f xs) ≡ every (λ x. p (f x)) xs
every_map p f xs = list_all-map p f xs

pub all_more : (q : ℕ → Bool) (i : ℕ) → every q (below i) ≡ true → q i ≡ true → every q (below (i + 1)) ≡ true
all_more q i h k =
    ap (λ (n : ℕ). every q (below n)) (add-one i) ∙ every_append q (below i) (i ∷ []) h (and_from _ _ k refl)

pub all_but : (q : ℕ → Bool) (i n : ℕ) → i < n → q i ≡ false → every q (below n) ≡ false
all_but q i n l h = never_true _ (λ a. both_ways _ h (each_of q n i a l))
