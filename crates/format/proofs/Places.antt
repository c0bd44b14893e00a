-- The parts of a record by their places in its bytes.
use Rattle.std.proofs.Common.{◌≡◌, ℕ, zero, suc, ◌+◌, ◌-◌, ◌*◌, ◌/◌, ◌%◌, ◌<◌, ◌≤◌, true, eqb, List, ◌++◌, length, get_or, take, drop, Some, None, Option, sym, refl, ap, ◌∙◌, ap₂, arith, length-drop, eqb-true, le-leb}
use borrow.Author.Tests.{lt-leb}
use Rattle.std.proofs.lemmas.List.{get_or-take, drop-take, length-take-le}
use Rattle.std.proofs.lemmas.Bool.{and_parts}
use Rattle.verdict.specs.declared.Turn.{Turn}
use Rattle.verdict.specs.declared.Verdict.{Verdict}
use Rattle.verdict.specs.Verdicts.{is_listed, standing_of}
use Rattle.format.specs.Requirements.{half_at, word_at, text_length, turns_length, turns_part, lefts_part, turns_of, turns_in, content_of, long_enough, head_requirements, pair_requirements, sized_pair_requirements, reading_requirements, left_requirements, part_requirements, requirements, Found, found, first_fault, PartedAt, PartedInto}
use Rattle.format.specs.Promises.{Reads}
use Rattle.std.specs.Array.{IsFirstChunk}
use Rattle.format.proofs.Numbers.{cons, same_content, from_place, from_place_is}
use Rattle.format.proofs.Faults.{all_hold, fault_on, fault_at, fault_then, fault_first}
use Rattle.format.proofs.TurnParts.{turn_at_take}

-- m turns lie in the first 6 × m bytes
turns_of_take : (m k : ℕ) (xs : List ℕ) → 6 * m ≤ k → turns_of m (take k xs) ≡ turns_of m xs
turns_of_take zero k xs h = refl
turns_of_take (suc m) k xs h =
    let e : k ≡ 6 + (k - 6) = omega arith in
    let d : drop 6 (take k xs) ≡ take (k - 6) (drop 6 xs) = ap (λ (j : ℕ). drop 6 (take j xs)) e ∙ drop-take 6 (k - 6) xs in
    cons (turn_at_take k xs (omega arith)) (ap (turns_of m) d ∙ turns_of_take m (k - 6) (drop 6 xs) (omega arith))

-- head and pairs stand in the first 44 bytes
module _ (b : List ℕ) (long : 44 ≤ length b) where
  opened : b ≡ from_place 44 0 b
  opened = sym (from_place_is 44 0 b long)

  head_in_front : head_requirements (take 44 b) ≡ head_requirements b
  unfolding from_place
  head_in_front = ap (λ x. head_requirements (take 44 x)) opened ∙ sym (ap head_requirements opened)

  text_in_front : text_length (take 44 b) ≡ text_length b
  unfolding from_place
  text_in_front = ap (λ x. text_length (take 44 x)) opened ∙ sym (ap text_length opened)

  turns_in_front : turns_length (take 44 b) ≡ turns_length b
  unfolding from_place
  turns_in_front = ap (λ x. turns_length (take 44 x)) opened ∙ sym (ap turns_length opened)

  pairs_in_front : sized_pair_requirements (take 44 b) (length b) (text_length (take 44 b)) (turns_length (take 44 b)) ≡ pair_requirements b (text_length b) (turns_length b)
  unfolding from_place
  pairs_in_front =
      ap (λ x. sized_pair_requirements (take 44 x) (length b) (text_length (take 44 x)) (turns_length (take 44 x))) opened
      ∙ sym (ap (λ x. sized_pair_requirements x (length b) (text_length x) (turns_length x)) opened)

-- the first fault lies in the parts where head and pairs hold
in_parts : (b : List ℕ) → 44 ≤ length b → first_fault (head_requirements b) ≡ None → first_fault (pair_requirements b (text_length b) (turns_length b)) ≡ None → first_fault (requirements b) ≡ first_fault (part_requirements b)
unfolding requirements
in_parts b long h p =
    let pairs = pair_requirements b (text_length b) (turns_length b) in
    fault_on (long_enough b) (head_requirements b ++ (pairs ++ part_requirements b)) (le-leb _ _ long)
    ∙ fault_then (head_requirements b) (pairs ++ part_requirements b) h
    ∙ fault_then pairs (part_requirements b) p

verdict_listed : (b : List ℕ) → first_fault (head_requirements b) ≡ None → is_listed (get_or b 6 0) ≡ true
verdict_listed b none = (all_hold (head_requirements b) none).1.1.1.1.1.1.0

pub parted_at : (b : List ℕ) (t n : ℕ) → 44 ≤ length b → first_fault (head_requirements b) ≡ None → first_fault (pair_requirements b (text_length b) (turns_length b)) ≡ None → t ≡ text_length b → n ≡ turns_length b → PartedAt b (36 + t) (36 + t + n)
parted_at b t n long h none et en =
    let a = all_hold (pair_requirements b (text_length b) (turns_length b)) none in
    let p = and_parts (eqb (turns_length b % 6) 0) _ (and_parts (eqb (word_at b 20) (36 + text_length b)) _ a.1.0).1 in
    let q = and_parts (eqb (word_at b 32) 8) _ (and_parts (eqb (word_at b 28) (36 + text_length b + turns_length b)) _ a.1.1.0).1 in
    let e = eqb-true _ _ q.1 in
    record {
      rest = in_parts b long h none;
      listed = verdict_listed b h;
      after_text = omega arith;
      after_turns = omega arith;
      whole = eqb-true _ _ p.0;
      ends = omega arith;
    }

-- the first fault where the head or the pairs do not hold
pub head_fault_at : (b : List ℕ) (f : Found) → 44 ≤ length b → first_fault (head_requirements b) ≡ Some f → first_fault (requirements b) ≡ Some f
unfolding requirements
head_fault_at b f long e =
    let rest = pair_requirements b (text_length b) (turns_length b) ++ part_requirements b in
    fault_on (long_enough b) (head_requirements b ++ rest) (le-leb _ _ long) ∙ fault_first (head_requirements b) rest f e

pub pair_fault_at : (b : List ℕ) (f : Found) → 44 ≤ length b → first_fault (head_requirements b) ≡ None → first_fault (pair_requirements b (text_length b) (turns_length b)) ≡ Some f → first_fault (requirements b) ≡ Some f
unfolding requirements
pair_fault_at b f long h e =
    let pairs = pair_requirements b (text_length b) (turns_length b) in
    fault_on (long_enough b) (head_requirements b ++ (pairs ++ part_requirements b)) (le-leb _ _ long)
    ∙ fault_then (head_requirements b) (pairs ++ part_requirements b) h
    ∙ fault_first pairs (part_requirements b) f e

pub short_fault : (b : List ℕ) → length b < 44 → first_fault (requirements b) ≡ Some (found 11 (length b))
unfolding requirements
short_fault b h = fault_at (long_enough b) (head_requirements b ++ (pair_requirements b (text_length b) (turns_length b) ++ part_requirements b)) (lt-leb _ _ h)

-- the front of the bytes, and what is wrong with it first
module _ (b h : List ℕ) (front : IsFirstChunk b h 44) where
  head_same : head_requirements h ≡ head_requirements b
  head_same = ap head_requirements front.same ∙ head_in_front b front.enough

  text_same : text_length h ≡ text_length b
  text_same = ap text_length front.same ∙ text_in_front b front.enough

  turns_same : turns_length h ≡ turns_length b
  turns_same = ap turns_length front.same ∙ turns_in_front b front.enough

  pairs_same : sized_pair_requirements h (length b) (text_length h) (turns_length h) ≡ pair_requirements b (text_length b) (turns_length b)
  pairs_same = ap (λ x. sized_pair_requirements x (length b) (text_length x) (turns_length x)) front.same ∙ pairs_in_front b front.enough

  pub head_fault : (f : Found) → first_fault (head_requirements h) ≡ Some f → first_fault (requirements b) ≡ Some f
  head_fault f e = head_fault_at b f front.enough (ap first_fault (sym head_same) ∙ e)

  pub pair_fault : (f : Found) → first_fault (head_requirements h) ≡ None → first_fault (sized_pair_requirements h (length b) (text_length h) (turns_length h)) ≡ Some f → first_fault (requirements b) ≡ Some f
  pair_fault f none e = pair_fault_at b f front.enough (ap first_fault (sym head_same) ∙ none) (ap first_fault (sym pairs_same) ∙ e)

-- what is left to find once head and pairs hold
module _ (b h text turns : List ℕ) (x y : ℕ) (front : IsFirstChunk b h 44)
    (head_holds : first_fault (head_requirements h) ≡ None)
    (pairs_hold : first_fault (sized_pair_requirements h (length b) (text_length h) (turns_length h)) ≡ None)
    (parts : PartedInto b (text_length h) (turns_length h) text turns x y) where
  t : ℕ
  t = text_length b

  n : ℕ
  n = turns_length b

  parted : PartedAt b (36 + t) (36 + t + n)
  unfolding t n
  parted =
      parted_at b _ _ front.enough (ap first_fault (sym (head_same b h front)) ∙ head_holds) (ap first_fault (sym (pairs_same b h front)) ∙ pairs_hold) refl refl

  length_parts : length (turns_part b) ≡ n + 8
  unfolding t n
  length_parts =
      let q = length-drop (text_length b) (drop 36 b) in
      let r = length-drop 36 b in
      omega (arith, parted.ends)

  text_is : text ≡ (content_of b).text
  text_is = parts.text_is ∙ ap (λ (k : ℕ). take k (drop 36 b)) (text_same b h front)

  turns_are : turns ≡ take n (turns_part b)
  unfolding n
  turns_are = parts.turns_are ∙ ap₂ (λ (j k : ℕ). take j (drop k (drop 36 b))) (turns_same b h front) (text_same b h front)

  lefts_are : drop (turns_length h) (drop (text_length h) (drop 36 b)) ≡ lefts_part b
  lefts_are = ap₂ (λ (j k : ℕ). drop j (drop k (drop 36 b))) (turns_same b h front) (text_same b h front)

  first_is : x ≡ (content_of b).first_left
  first_is = parts.first_is ∙ ap (λ l. word_at l 0) lefts_are

  second_is : y ≡ (content_of b).second_left
  second_is = parts.second_is ∙ ap (λ l. word_at l 4) lefts_are

  turns_seen : turns_in turns ≡ (content_of b).turns
  unfolding t n
  turns_seen =
      let l = length-take-le n (turns_part b) (omega (arith, length_parts)) in
      ap turns_in turns_are
      ∙ ap (λ (j : ℕ). turns_of (j / 6) (take n (turns_part b))) l
      ∙ turns_of_take (n / 6) n (turns_part b) (omega (arith, parted.whole))

  text_ends : 36 + length text ≡ 36 + t
  unfolding t n
  text_ends =
      let e = ap length text_is in
      let r = length-drop 36 b in
      let l = length-take-le (text_length b) (drop 36 b) (omega (arith, parted.ends)) in
      omega arith

  turns_end : 36 + length text + length turns ≡ 36 + t + n
  unfolding t n
  turns_end =
      let e = ap length turns_are in
      let l = length-take-le (turns_length b) (turns_part b) (omega (arith, length_parts)) in
      omega (arith, text_ends)

  pub parts_end : 36 + length text + length turns + 8 ≡ length b
  unfolding t n
  parts_end = omega (arith, turns_end, parted.ends)

  readings : first_fault (reading_requirements (36 + length text) (turns_in turns)) ≡ first_fault (reading_requirements (36 + text_length b) (content_of b).turns)
  unfolding t
  readings = ap₂ (λ (q : ℕ) (ts : List Turn). first_fault (reading_requirements q ts)) text_ends turns_seen

  lefts : left_requirements (36 + length text + length turns) x y ≡ left_requirements (36 + text_length b + turns_length b) (content_of b).first_left (content_of b).second_left
  unfolding t n
  lefts = λ i. left_requirements (turns_end i) (first_is i) (second_is i)

  pub reading_fault : (f : Found) → first_fault (reading_requirements (36 + length text) (turns_in turns)) ≡ Some f → first_fault (requirements b) ≡ Some f
  reading_fault f e = parted.rest ∙ fault_first (reading_requirements (36 + text_length b) (content_of b).turns) _ f (sym readings ∙ e)

  in_lefts : first_fault (reading_requirements (36 + length text) (turns_in turns)) ≡ None → first_fault (requirements b) ≡ first_fault (left_requirements (36 + length text + length turns) x y)
  in_lefts none = parted.rest ∙ fault_then (reading_requirements (36 + text_length b) (content_of b).turns) _ (sym readings ∙ none) ∙ sym (ap first_fault lefts)

  pub left_fault : (f : Found) → first_fault (reading_requirements (36 + length text) (turns_in turns)) ≡ None
      → first_fault (left_requirements (36 + length text + length turns) x y) ≡ Some f → first_fault (requirements b) ≡ Some f
  left_fault f none e = in_lefts none ∙ e

  pub reads : (standing : Option Verdict) (limit : ℕ) → standing ≡ standing_of (get_or h 6 0) → limit ≡ half_at h 8
      → first_fault (reading_requirements (36 + length text) (turns_in turns)) ≡ None
      → first_fault (left_requirements (36 + length text + length turns) x y) ≡ None
      → Reads b (record { first = get_or h 4 0; second = get_or h 5 0; standing = standing; limit = limit; text = text; turns = turns_in turns; first_left = x; second_left = y })
  reads standing limit es el none e =
      let at : (k : ℕ) → k < 44 → get_or b k 0 ≡ get_or h k 0 = λ k l. sym (get_or-take 44 b k 0 l) ∙ sym (ap (λ (z : List ℕ). get_or z k 0) front.same) in
      record {
        faultless = in_lefts none ∙ e;
        says = same_content (content_of b) _ (at 4 (omega arith)) (at 5 (omega arith))
            (ap standing_of (at 6 (omega arith)) ∙ sym es)
            (ap₂ (λ (u v : ℕ). u + v * 256) (at 8 (omega arith)) (at 9 (omega arith)) ∙ sym el)
            (sym text_is) (sym turns_seen) (sym first_is) (sym second_is);
      }
