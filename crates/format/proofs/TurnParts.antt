-- Turns that lie in bytes, six to a turn.
use Rattle.std.proofs.Common.{◌≡◌, ℕ, zero, suc, ◌+◌, ◌*◌, ◌/◌, ◌<◌, ◌≤◌, Bool, true, false, cond, ltb, leb, List, [], ◌∷◌, map, length, get_or, take, drop, Some, Option, refl, sym, ap, ◌∙◌, arith, leb-true, leb-false, le-ltb, lt-ltb}
use Rattle.std.specs.List.{position, position_from, slice_get}
use Rattle.std.specs.Option.{option_map}
use Rattle.std.specs.Simd.{first_chunks}
use Rattle.std.proofs.lemmas.List.{get_or-take}
use Rattle.std.proofs.lemmas.Iterator.Adapters.{position_from-zero}
use Rattle.std.proofs.lemmas.Option.{slice_get-map}
use Rattle.verdict.specs.declared.Turn.{Turn}
use Rattle.format.specs.Requirements.{turn_at, turns_of, turns_in, reading_requirements, Found, found, first_fault}
use Rattle.format.proofs.Numbers.{cons}

pub length_turns_of : (m : ℕ) (xs : List ℕ) → length (turns_of m xs) ≡ m
length_turns_of zero xs = refl
length_turns_of (suc m) xs = ap suc (length_turns_of m (drop 6 xs))

pub turn_at_take : (k : ℕ) (xs : List ℕ) → 6 ≤ k → turn_at (take k xs) ≡ turn_at xs
turn_at_take k xs h =
    let at : (i : ℕ) → i < 6 → get_or (take k xs) i 0 ≡ get_or xs i 0 = λ i l. get_or-take k xs i 0 (omega arith) in
    let f : ℕ → ℕ → ℕ → ℕ → ℕ → ℕ → Turn = λ a b c d e g. record { code = a + b * 256; reading = c + d * 256 + e * 65536 + g * 16777216 } in
    λ i. f (at 0 (omega arith) i) (at 1 (omega arith) i) (at 2 (omega arith) i) (at 3 (omega arith) i) (at 4 (omega arith) i) (at 5 (omega arith) i)

turns_of_chunks : (m : ℕ) (xs : List ℕ) → turns_of m xs ≡ map turn_at (first_chunks 6 m xs)
turns_of_chunks zero xs = refl
turns_of_chunks (suc m) xs = cons (sym (turn_at_take 6 xs (omega arith))) (turns_of_chunks m (drop 6 xs))

-- the turns of some bytes, six by six
pub turns_in_chunks : (xs : List ℕ) → turns_in xs ≡ map turn_at (first_chunks 6 (length xs / 6) xs)
turns_in_chunks xs = turns_of_chunks (length xs / 6) xs

abbrev is_slow : List ℕ → Bool
is_slow c = ltb 86400000 (turn_at c).reading

-- one reading more: it is found where it is above the most, and else what is found after it
one_more : (r i : ℕ) (f : ℕ → Found) (x : Found) (a : Option Found) (b : Option ℕ) → x ≡ f i → a ≡ option_map f b → cond (leb r 86400000) a (Some x) ≡ option_map f (cond (ltb 86400000 r) (Some i) b)
one_more r i f x a b e h = by_test (leb r 86400000) refl
  where
    by_test : (t : Bool) → leb r 86400000 ≡ t → cond t a (Some x) ≡ option_map f (cond (ltb 86400000 r) (Some i) b)
    by_test true l = let m = leb-true _ _ l in h ∙ ap (λ (t : Bool). option_map f (cond t (Some i) b)) (sym (le-ltb _ _ m))
    by_test false l = let m = leb-false _ _ l in ap Some e ∙ ap (λ (t : Bool). option_map f (cond t (Some i) b)) (sym (lt-ltb _ _ m))

slow_from : (p i : ℕ) (cs : List (List ℕ)) → first_fault (reading_requirements (p + 6 * i) (map turn_at cs)) ≡ option_map (λ j. found 13 (p + 6 * j)) (position_from is_slow i cs)
slow_from p i [] = refl
slow_from p i (c ∷ cs) =
    let next : p + 6 * i + 6 ≡ p + 6 * (i + 1) = omega arith in
    one_more (turn_at c).reading i (λ j. found 13 (p + 6 * j)) (found 13 (p + 6 * i)) _ _ refl
    (ap (λ (q : ℕ). first_fault (reading_requirements q (map turn_at cs))) next ∙ slow_from p (i + 1) cs)

-- the first reading above the most, by the place of its turn
pub slow_reading : (p : ℕ) (ts : List Turn) (cs : List (List ℕ)) (o : Option ℕ) → o ≡ position is_slow cs → ts ≡ map turn_at cs → first_fault (reading_requirements p ts) ≡ option_map (λ j. found 13 (p + 6 * j)) o
slow_reading p ts cs o e h =
    ap (λ (us : List Turn). first_fault (reading_requirements p us)) h
    ∙ ap (λ (q : ℕ). first_fault (reading_requirements q (map turn_at cs))) (omega arith)
    ∙ slow_from p 0 cs
    ∙ ap (option_map (λ j. found 13 (p + 6 * j))) (sym (e ∙ position_from-zero is_slow cs))

pub turn_among : (ts : List Turn) (cs : List (List ℕ)) (i : ℕ) → ts ≡ map turn_at cs → slice_get ts i ≡ option_map turn_at (slice_get cs i)
turn_among ts cs i h = ap (λ (us : List Turn). slice_get us i) h ∙ slice_get-map turn_at cs i
