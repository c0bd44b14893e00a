-- The windows through a point: each heading is tried at each cell that the point can be.
use Rattle.std.specs.Prelude.{◌≡◌, ℕ, ◌/◌, ◌%◌, Bool, true, false, ◌||◌, List, [], ◌∷◌, refl}
use Rattle.std.specs.List.{list_any, range_with_len}
use Rattle.std.proofs.Common.{ap, ◌∙◌}
use Rattle.board.specs.Windows.{Cell}
use Rattle.gomoku_theory.specs.Search.{headings, passes, through, won_at}

-- four answers, regrouped
regrouped : (a b c d : Bool) → ((a || b) || (c || d)) ≡ ((a || c) || (b || d))
regrouped true b c d = refl
regrouped false true true d = refl
regrouped false true false d = refl
regrouped false false c d = refl

any_either : {X : Type 0} (p q : X → Bool) (xs : List X) → list_any (λ x. p x || q x) xs ≡ (list_any p xs || list_any q xs)
any_either p q [] = refl
any_either p q (x ∷ xs) =
    ap (λ (b : Bool). (p x || q x) || b) (any_either p q xs)
    ∙ regrouped (p x) (q x) (list_any p xs) (list_any q xs)

any_never : {X : Type 0} (xs : List X) → list_any (λ x. false) xs ≡ false
any_never [] = refl
any_never (x ∷ xs) = any_never xs

-- a search of both of two lists, in either order
any_in_either_order : {X Y : Type 0} (p : X → Y → Bool) (xs : List X) (ys : List Y) → list_any (λ y. list_any (λ x. p x y) xs) ys ≡ list_any (λ x. list_any (p x) ys) xs
any_in_either_order p [] ys = any_never ys
any_in_either_order p (x ∷ xs) ys =
    any_either (p x) (λ y. list_any (λ z. p z y) xs) ys
    ∙ ap (λ (b : Bool). list_any (p x) ys || b) (any_in_either_order p xs ys)

-- what a search cell by cell answers
pub won_by : (p : Cell → Bool) (k : ℕ) (r : Bool) → r ≡ list_any (λ j. list_any (λ h. passes p h (k % 15) (k / 15) j) headings) (range_with_len 0 5) → r ≡ won_at p k
unfolding through won_at
won_by p k r e = e ∙ any_in_either_order (λ h. passes p h (k % 15) (k / 15)) headings (range_with_len 0 5)
