-- Bytes that hold all that is required encode a well-formed content.
use Rattle.std.proofs.Common.{◌≡◌, ℕ, zero, suc, ◌+◌, ◌*◌, ◌/◌, ◌%◌, ◌<◌, ◌≤◌, true, List, [], ◌∷◌, ◌++◌, length, get_or, drop, sym, refl, ap, ◌∙◌, subst, ap₂, append_assoc, arith, length-drop, eqb-true, leb-true}
use borrow.Author.Tests.{eqb-false}
use Rattle.std.specs.List.{AllByRecursion}
use Rattle.std.proofs.lemmas.List.{length-take-le, take-append-drop, drop-drop, drop_all, get_or-drop}
use Rattle.std.proofs.ByRecursion.{All-from_get_or, All-take}
use Rattle.std.proofs.lemmas.Bool.{and_parts, not-true}
use Rattle.verdict.proofs.Numbers.{of_listed}
use Rattle.format.specs.Layout.{WellFormed, InLaw, TurnFits, encode, head, pairs, half, word, turn_bytes}
use Rattle.format.specs.Requirements.{half_at, word_at, text_length, turns_length, turns_part, lefts_part, turns_of, content_of, reading_requirements, left_requirements, requirements, in_law}
use Rattle.format.specs.Promises.{Bytes, AcceptsOnly}
use Rattle.format.proofs.Numbers.{cons, half_from, word_from, from_place, from_place_is}
use Rattle.format.proofs.Faults.{Holds, all_hold}
use Rattle.format.proofs.TurnParts.{length_turns_of}

bytes_drop : (n : ℕ) (b : List ℕ) → Bytes b → Bytes (drop n b)
bytes_drop n b ok k = subst (λ (x : ℕ). x < 256) (sym (get_or-drop n b k 0)) (ok (n + k))

-- turns that were read are written again as the same bytes
turns_again : (m : ℕ) (xs : List ℕ) → Bytes xs → 6 * m ≤ length xs → turn_bytes (turns_of m xs) ++ drop (6 * m) xs ≡ xs
unfolding from_place
turns_again zero xs ok h = refl
turns_again (suc m) xs ok h =
    let rest = drop 6 xs in
    let six : drop (6 * suc m) xs ≡ drop (6 * m) rest = ap (λ (n : ℕ). drop n xs) (omega arith) ∙ sym (drop-drop (6 * m) 6 xs) in
    let ih = turns_again m rest (bytes_drop 6 xs ok) (let l = length-drop 6 xs in omega arith) in
    let front : half (half_at xs 0) ++ word (word_at xs 2) ≡ (get_or xs 0 0 ∷ get_or xs 1 0 ∷ get_or xs 2 0 ∷ get_or xs 3 0 ∷ get_or xs 4 0 ∷ get_or xs 5 0 ∷ []) = ap₂ ◌++◌ (half_from xs ok 0 _ refl) (word_from xs ok 2 _ refl) in
    append_assoc (half (half_at xs 0) ++ word (word_at xs 2)) (turn_bytes (turns_of m rest)) (drop (6 * suc m) xs)
    ∙ ap₂ ◌++◌ front (ap (λ (y : List ℕ). turn_bytes (turns_of m rest) ++ y) six ∙ ih)
    ∙ from_place_is 6 0 xs (omega arith)

turns_fit : (m place : ℕ) (xs : List ℕ) → Bytes xs → AllByRecursion Holds (reading_requirements place (turns_of m xs)) → AllByRecursion TurnFits (turns_of m xs)
turns_fit zero place xs ok a = tt
turns_fit (suc m) place xs ok a =
    let p = ok 0 in
    let q = ok 1 in
    (record { code_fits = omega arith; reading_fits = leb-true _ _ a.0 }, turns_fit m (place + 6) (drop 6 xs) (bytes_drop 6 xs ok) a.1)

law_from : (left : ℕ) → in_law left ≡ true → InLaw left
law_from left h = let p = and_parts _ _ h in record { least = leb-true _ _ p.0; most = leb-true _ _ p.1 }

all_parts : {X : Type 0} (P : X → Type 0) (xs ys : List X) → AllByRecursion P (xs ++ ys) → AllByRecursion P xs × AllByRecursion P ys
all_parts P [] ys a = (tt, a)
all_parts P (x ∷ xs) ys a = let r = all_parts P xs ys a.1 in ((a.0, r.0), r.1)

module _ (b : List ℕ) (ok : Bytes b) (a : AllByRecursion Holds (requirements b)) where
  long : 44 ≤ length b
  unfolding requirements
  long = leb-true _ _ a.0

  text_pair : (word_at b 12 ≡ 36) × (1 ≤ text_length b) × (text_length b ≤ 64)
  unfolding requirements
  text_pair =
      let h = and_parts _ _ a.1.1.1.1.1.1.1.1.1.1.1.0 in
      let s = and_parts _ _ h.1 in
      (eqb-true _ _ h.0, leb-true _ _ s.0, leb-true _ _ s.1)

  turns_pair : (word_at b 20 ≡ 36 + text_length b) × (turns_length b % 6 ≡ 0) × (turns_length b / 6 ≤ half_at b 8)
  unfolding requirements
  turns_pair =
      let h = and_parts _ _ a.1.1.1.1.1.1.1.1.1.1.1.1.0 in
      let s = and_parts _ _ h.1 in
      (eqb-true _ _ h.0, eqb-true _ _ s.0, leb-true _ _ s.1)

  lefts_pair : (word_at b 28 ≡ 36 + text_length b + turns_length b) × (word_at b 32 ≡ 8) × (36 + text_length b + turns_length b + 8 ≡ length b)
  unfolding requirements
  lefts_pair =
      let h = and_parts _ _ a.1.1.1.1.1.1.1.1.1.1.1.1.1.0 in
      let s = and_parts _ _ h.1 in
      (eqb-true _ _ h.0, eqb-true _ _ s.0, eqb-true _ _ s.1)

  part_holds : AllByRecursion Holds (reading_requirements (36 + text_length b) (content_of b).turns) × AllByRecursion Holds (left_requirements (36 + text_length b + turns_length b) (content_of b).first_left (content_of b).second_left)
  unfolding requirements
  part_holds = all_parts Holds (reading_requirements (36 + text_length b) (content_of b).turns) _ a.1.1.1.1.1.1.1.1.1.1.1.1.1.1

  text_length_is : length (content_of b).text ≡ text_length b
  text_length_is = length-take-le (text_length b) (drop 36 b) (let l = length-drop 36 b in omega (arith, lefts_pair.2))

  six_each : 6 * (turns_length b / 6) ≡ turns_length b
  six_each = omega (arith, turns_pair.1)

  turns_bytes_length : 6 * length (content_of b).turns ≡ turns_length b
  turns_bytes_length = ap (λ (m : ℕ). 6 * m) (length_turns_of (turns_length b / 6) (turns_part b)) ∙ six_each

  length_turns_part : length (turns_part b) ≡ turns_length b + 8
  length_turns_part = let l = length-drop (text_length b) (drop 36 b) in let m = length-drop 36 b in omega (arith, lefts_pair.2)

  length_lefts_part : length (lefts_part b) ≡ 8
  length_lefts_part = let l = length-drop (turns_length b) (turns_part b) in let m = length_turns_part in omega arith

  ok_turns : Bytes (turns_part b)
  ok_turns = bytes_drop (text_length b) (drop 36 b) (bytes_drop 36 b ok)

  ok_lefts : Bytes (lefts_part b)
  ok_lefts = bytes_drop (turns_length b) (turns_part b) ok_turns

  head_is : head (content_of b) ≡ (get_or b 0 0 ∷ get_or b 1 0 ∷ get_or b 2 0 ∷ get_or b 3 0 ∷ get_or b 4 0 ∷ get_or b 5 0 ∷ get_or b 6 0 ∷ get_or b 7 0 ∷ get_or b 8 0 ∷ get_or b 9 0 ∷ get_or b 10 0 ∷ get_or b 11 0 ∷ [])
  unfolding requirements
  head_is =
      let h = a.1 in
      cons (sym (eqb-true _ _ h.0))
      (cons (sym (eqb-true _ _ h.1.0))
      (cons (sym (eqb-true _ _ h.1.1.0))
      (cons (sym (eqb-true _ _ h.1.1.1.0))
      (cons refl
      (cons refl
      (cons (of_listed _ h.1.1.1.1.1.1.0)
      (cons (sym (eqb-true _ _ h.1.1.1.1.1.1.1.0))
      (ap₂ ◌++◌ (half_from b ok 8 _ refl) (half_from b ok 10 3 (eqb-true _ _ h.1.1.1.1.1.1.1.1.1.0))))))))))

  pairs_is : pairs (content_of b) ≡ (get_or b 12 0 ∷ get_or b 13 0 ∷ get_or b 14 0 ∷ get_or b 15 0 ∷ get_or b 16 0 ∷ get_or b 17 0 ∷ get_or b 18 0 ∷ get_or b 19 0 ∷ get_or b 20 0 ∷ get_or b 21 0 ∷ get_or b 22 0 ∷ get_or b 23 0 ∷ get_or b 24 0 ∷ get_or b 25 0 ∷ get_or b 26 0 ∷ get_or b 27 0 ∷ get_or b 28 0 ∷ get_or b 29 0 ∷ get_or b 30 0 ∷ get_or b 31 0 ∷ get_or b 32 0 ∷ get_or b 33 0 ∷ get_or b 34 0 ∷ get_or b 35 0 ∷ [])
  pairs_is =
      let t = text_length_is in
      let n = turns_bytes_length in
      let e₂₀ : word_at b 20 ≡ 36 + length (content_of b).text = omega (arith, turns_pair.0) in
      let e₂₈ : word_at b 28 ≡ 36 + length (content_of b).text + 6 * length (content_of b).turns = omega (arith, lefts_pair.0) in
      ap₂ ◌++◌ (ap₂ ◌++◌ (word_from b ok 12 36 text_pair.0) (word_from b ok 16 _ (sym t)))
      (ap₂ ◌++◌ (ap₂ ◌++◌ (word_from b ok 20 _ e₂₀) (word_from b ok 24 _ (sym n)))
      (ap₂ ◌++◌ (word_from b ok 28 _ e₂₈) (word_from b ok 32 8 lefts_pair.1)))

  lefts_is : word (content_of b).first_left ++ word (content_of b).second_left ≡ lefts_part b
  unfolding from_place
  lefts_is =
      let x = lefts_part b in
      let l = length_lefts_part in
      let none : drop 8 x ≡ [] = drop_all 8 x (omega arith) in
      ap₂ ◌++◌ (word_from x ok_lefts 0 _ refl) (word_from x ok_lefts 4 _ refl)
      ∙ ap (λ (r : List ℕ). get_or x 0 0 ∷ get_or x 1 0 ∷ get_or x 2 0 ∷ get_or x 3 0 ∷ get_or x 4 0 ∷ get_or x 5 0 ∷ get_or x 6 0 ∷ get_or x 7 0 ∷ r) (sym none)
      ∙ from_place_is 8 0 x (omega arith)

  body_is : (content_of b).text ++ (turn_bytes (content_of b).turns ++ (word (content_of b).first_left ++ word (content_of b).second_left)) ≡ drop 36 b
  body_is =
      let part = turns_part b in
      let m = turns_length b / 6 in
      let cut : lefts_part b ≡ drop (6 * m) part = ap (λ (n : ℕ). drop n part) (sym six_each) in
      let l = length_turns_part in
      let s = six_each in
      let turns : turn_bytes (turns_of m part) ++ (word (content_of b).first_left ++ word (content_of b).second_left) ≡ part = ap (λ (y : List ℕ). turn_bytes (turns_of m part) ++ y) (lefts_is ∙ cut) ∙ turns_again m part ok_turns (omega arith) in
      ap (λ (y : List ℕ). (content_of b).text ++ y) turns ∙ take-append-drop (text_length b) (drop 36 b)

  same : encode (content_of b) ≡ b
  unfolding from_place encode
  same = ap₂ ◌++◌ head_is (ap₂ ◌++◌ pairs_is body_is) ∙ from_place_is 36 0 b (let l = long in omega arith)

  well : WellFormed (content_of b)
  unfolding requirements
  well =
      let h = a.1 in
      let s = and_parts _ _ h.1.1.1.1.1.0 in
      let l = and_parts _ _ h.1.1.1.1.1.1.1.1.0 in
      let p = part_holds in
      let t = text_length_is in
      let n = turns_bytes_length in
      let z = six_each in
      record {
        first_entrant = leb-true _ _ h.1.1.1.1.0;
        second_entrant = leb-true _ _ s.0;
        two_entrants = eqb-false _ _ (not-true _ s.1);
        limit_least = leb-true _ _ l.0;
        limit_most = leb-true _ _ l.1;
        text_least = omega (arith, text_pair.1);
        text_most = omega (arith, text_pair.2);
        text_bytes = All-take (λ x. x < 256) (text_length b) (drop 36 b) (All-from_get_or (λ x. x < 256) (drop 36 b) 0 (λ i k. bytes_drop 36 b ok i));
        within_limit = omega (arith, turns_pair.2);
        turns_fit = turns_fit (turns_length b / 6) _ (turns_part b) ok_turns p.0;
        first_in_law = law_from _ p.1.0;
        second_in_law = law_from _ p.1.1.0;
      }

pub accepts_only : AcceptsOnly
accepts_only b ok none = let a = all_hold (requirements b) none in record { well = well b ok a; same = same b ok a }
