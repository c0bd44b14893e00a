-- The longest record has 1,644 bytes: what follows 1,645 bytes decides nothing.
use Rattle.std.proofs.Common.{◌≡◌, ℕ, ◌+◌, ◌/◌, ◌%◌, ◌≤◌, Bool, true, false, cond, ◌&&◌, eqb, leb, List, [], ◌∷◌, ◌++◌, length, Some, None, Option, sym, refl, ap, ◌∙◌, arith, length-append, ne_eqb, eqb-true, le-leb, leb-true}
use Rattle.std.proofs.lemmas.Bool.{and_parts}
use Rattle.format.specs.Requirements.{Requirement, must, Found, found, requirements, first_fault, long_enough, head_requirements, pair_requirements, part_requirements, half_at, word_at, text_length, turns_length}
use Rattle.format.specs.Promises.{Decided}
use Rattle.format.proofs.Numbers.{from_place, from_place_is}
use Rattle.format.proofs.Faults.{all_hold, fault_on, fault_at, fault_then, fault_first}

-- the requirements of the head and of two pairs, and one that fails
abbrev text_requirement : List ℕ → Requirement
text_requirement b = must 12 12 (eqb (word_at b 12) 36 && (leb 1 (text_length b) && leb (text_length b) 64))

abbrev turns_requirement : List ℕ → Requirement
turns_requirement b = must 12 20 (eqb (word_at b 20) (36 + text_length b) && (eqb (turns_length b % 6) 0 && leb (turns_length b / 6) (half_at b 8)))

abbrev lefts_fail : List ℕ → List Requirement
lefts_fail b = text_requirement b ∷ turns_requirement b ∷ must 12 28 false ∷ []

fails : (a b c : Bool) → c ≡ false → (a && (b && c)) ≡ false
fails true true c h = h
fails true false c h = refl
fails false b c h = refl

abbrev lefts_test : List ℕ → Bool
lefts_test b = eqb (word_at b 28) (36 + text_length b + turns_length b) && (eqb (word_at b 32) 8 && eqb (36 + text_length b + turns_length b + 8) (length b))

-- where the head and two pairs hold, text and turns are so short that the lefts cannot end so many bytes
cannot_end : (b : List ℕ) → 1645 ≤ length b → first_fault (head_requirements b) ≡ None → (text_requirement b).holds ≡ true → (turns_requirement b).holds ≡ true → lefts_test b ≡ false
cannot_end b long none h k =
    let limit = leb-true (half_at b 8) 256 (and_parts (leb 1 (half_at b 8)) _ (all_hold (head_requirements b) none).1.1.1.1.1.1.1.1.0).1 in
    let t = leb-true (text_length b) 64 (and_parts (leb 1 (text_length b)) _ (and_parts (eqb (word_at b 12) 36) _ h).1).1 in
    let p = and_parts (eqb (turns_length b % 6) 0) (leb (turns_length b / 6) (half_at b 8)) (and_parts (eqb (word_at b 20) (36 + text_length b)) _ k).1 in
    let w = eqb-true (turns_length b % 6) 0 p.0 in
    let m = leb-true (turns_length b / 6) (half_at b 8) p.1 in
    fails (eqb (word_at b 28) (36 + text_length b + turns_length b)) (eqb (word_at b 32) 8) _ (ne_eqb (36 + text_length b + turns_length b + 8) (length b) (λ e. omega arith))

by_tests : (x y z : Bool) (rest : Option Found) → (x ≡ true → y ≡ true → z ≡ false)
    → cond x (cond y (cond z rest (Some (found 12 28))) (Some (found 12 20))) (Some (found 12 12)) ≡ cond x (cond y (Some (found 12 28)) (Some (found 12 20))) (Some (found 12 12))
by_tests true true z rest h = ap (λ (t : Bool). cond t rest (Some (found 12 28))) (h refl refl)
by_tests true false z rest h = refl
by_tests false y z rest h = refl

by_head : (b : List ℕ) → 1645 ≤ length b → (o : Option Found) → first_fault (head_requirements b) ≡ o → first_fault (head_requirements b ++ (pair_requirements b (text_length b) (turns_length b) ++ part_requirements b)) ≡ first_fault (head_requirements b ++ lefts_fail b)
by_head b long None e =
    fault_then (head_requirements b) (pair_requirements b (text_length b) (turns_length b) ++ part_requirements b) e
    ∙ by_tests (text_requirement b).holds (turns_requirement b).holds (lefts_test b) (first_fault (part_requirements b)) (cannot_end b long e)
    ∙ sym (fault_then (head_requirements b) (lefts_fail b) e)
by_head b long (Some f) e =
    fault_first (head_requirements b) (pair_requirements b (text_length b) (turns_length b) ++ part_requirements b) f e ∙ sym (fault_first (head_requirements b) (lefts_fail b) f e)

in_front : (b : List ℕ) → 1645 ≤ length b → first_fault (requirements b) ≡ first_fault (head_requirements b ++ lefts_fail b)
unfolding requirements
in_front b long =
    let enough : 44 ≤ length b = omega arith in
    fault_on (long_enough b) (head_requirements b ++ (pair_requirements b (text_length b) (turns_length b) ++ part_requirements b)) (le-leb _ _ enough)
    ∙ by_head b long (first_fault (head_requirements b)) refl

-- those requirements look at the first 36 bytes alone
same_front : (b more : List ℕ) → 36 ≤ length b → first_fault (head_requirements (b ++ more) ++ lefts_fail (b ++ more)) ≡ first_fault (head_requirements b ++ lefts_fail b)
unfolding from_place
same_front b more h =
    let e : b ≡ from_place 36 0 b = sym (from_place_is 36 0 b h) in
    ap (λ (x : List ℕ). first_fault (head_requirements (x ++ more) ++ lefts_fail (x ++ more))) e
    ∙ sym (ap (λ (x : List ℕ). first_fault (head_requirements x ++ lefts_fail x)) e)

pub decided : Decided
decided b more long =
    let l = length-append b more in
    let longer : 1645 ≤ length (b ++ more) = omega arith in
    let enough : 36 ≤ length b = omega arith in
    in_front (b ++ more) longer ∙ same_front b more enough ∙ sym (in_front b long)

some_fault : (xs ys : List Requirement) (d : Requirement) → d.holds ≡ false → (f : Found) × (first_fault (xs ++ (d ∷ ys)) ≡ Some f)
some_fault [] ys d h = (found d.number d.place, fault_at d ys h)
some_fault (x ∷ xs) ys d h = by_test x.holds (some_fault xs ys d h)
  where
    by_test : (t : Bool) → (f : Found) × (first_fault (xs ++ (d ∷ ys)) ≡ Some f) → (f : Found) × (cond t (first_fault (xs ++ (d ∷ ys))) (Some (found x.number x.place)) ≡ Some f)
    by_test true r = r
    by_test false r = (found x.number x.place, refl)

-- bytes that are longer than any record have a fault
pub long_faulty : (b : List ℕ) → 1645 ≤ length b → (f : Found) × (first_fault (requirements b) ≡ Some f)
long_faulty b long =
    let r = some_fault (head_requirements b ++ (text_requirement b ∷ turns_requirement b ∷ [])) [] (must 12 28 false) refl in
    (r.0, in_front b long ∙ r.1)
