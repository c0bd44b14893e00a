-- What the three ways of numbering players have at each number.
use Rattle.std.specs.Prelude.{◌≡◌, ℕ, zero, suc, ◌<◌, ◌≤◌, ◌≢◌, List, [], ◌∷◌, ◌++◌, map, length, get_or, set, ◌==◌, nat_lt, slice_index_or, slice_set}
use Rattle.std.proofs.Common.{sym, ap, ◌∙◌, inl, inr, arith, lit≤}
use Rattle.std.proofs.lemmas.List.{length-map, map-set, map_push, set-get_or, get_or-map, get_or_past, get_or-set_same, get_or-set_other, get_or_push, get_or_append_left, length_push}
use Rattle.std.proofs.lemmas.Bool.{cond_both, cases_lt, ne_eqb, le-ltb, cond-false}
use Rattle.side.specs.declared.Side.{Side}
use Rattle.player.specs.Answers.{Answers, AreCodes, Absent, resigning}
use Rattle.banks_theory.specs.declared.Place.TheVariants.{Low, High, Nowhere}
use Rattle.banks_theory.specs.Numbers.{nobody, only, together, place, at_place, joined, listed, Seats}

-- one player

pub only_all : {A : Type 0} (Q : A → Type 0) (it none : A) → Q it → Q none → (k : ℕ) → Q (only it none k)
only_all Q it none a b k = cond_both (k == 0) it none Q (λ _. a) (λ _. b)

pub only_else : {A : Type 0} (it none : A) (k : ℕ) → k ≢ 0 → only it none k ≡ none
only_else it none k ne = cond-false (k == 0) it none (ne_eqb k 0 ne)

-- two banks

pub joined_all : {A : Type 0} (Q : A → Type 0) (n m : ℕ) (low high : ℕ → A) (none : A) → ((k : ℕ) → Q (low k)) → ((k : ℕ) → Q (high k)) → Q none → (k : ℕ) → Q (joined n m low high none k)
joined_all Q n m low high none a b c k =
    elim (place n m k) as (λ p. Q (at_place low high none p)) [ Low j ↦ a j | High j ↦ b j | Nowhere ↦ c ]

module _ {A : Type 0} (n m : ℕ) (low high : ℕ → A) (none : A) where
  pub joined_past : n ≤ 65535 → (k : ℕ) → together n m ≤ k → joined n m low high none k ≡ none
  joined_past few k h =
      let a : n ≤ k = omega arith in
      ap (at_place low high none) (cond-false (nat_lt k n) _ _ (le-ltb k n a) ∙ cond-false (nat_lt k (together n m)) _ _ (le-ltb k (together n m) h))

-- players in a row

module _ {P A : Type 0} (of : P → A) (none : A) where
  pub listed_all : (Q : A → Type 0) → ((p : P) → Q (of p)) → Q none → (xs : List P) (k : ℕ) → Q (listed of none xs k)
  listed_all Q a b [] k = b
  listed_all Q a b (x ∷ xs) zero = a x
  listed_all Q a b (x ∷ xs) (suc k) = listed_all Q a b xs k

  pub listed_past : (xs : List P) (k : ℕ) → length xs ≤ k → listed of none xs k ≡ none
  listed_past xs k h = get_or_past (map of xs) k none (simp length-map h)

  pub listed_at : (xs : List P) (i : ℕ) (x : P) → i < length xs → x ≡ slice_index_or xs i x → listed of none xs i ≡ of x
  listed_at xs i x h e = get_or-map of xs i x none h ∙ ap of (sym e)

  pub listed_other : (xs : List P) (i k : ℕ) (p : P) → k ≢ i → listed of none (slice_set xs i p) k ≡ listed of none xs k
  listed_other xs i k p ne = ap (λ (ys : List A). get_or ys k none) (map-set of xs i p) ∙ get_or-set_other (map of xs) i k (of p) none ne

  pub listed_set : (xs : List P) (i : ℕ) (p : P) → i < length xs → Seats i (of p) (listed of none xs) (listed of none (slice_set xs i p))
  listed_set xs i p h =
      let l : i < length (map of xs) = simp length-map h in
      record {
        own = ap (λ (ys : List A). get_or ys i none) (map-set of xs i p) ∙ get_or-set_same (map of xs) i (of p) none l;
        others = λ k ne. listed_other xs i k p ne;
      }

  -- a player that keeps what it has leaves everyone's
  pub listed_kept : (xs : List P) (i : ℕ) (p x : P) → i < length xs → x ≡ slice_index_or xs i x → of p ≡ of x → listed of none (slice_set xs i p) ≡ listed of none xs
  listed_kept xs i p x h e same =
      let a : of p ≡ get_or (map of xs) i none = same ∙ sym (listed_at xs i x h e) in
      let b : map of (slice_set xs i p) ≡ map of xs = map-set of xs i p ∙ ap (set (map of xs) i) a ∙ set-get_or (map of xs) i none in
      let F : List A → ℕ → A = λ ys k. get_or ys k none in
      ap F b

  pub listed_push : (xs ys : List P) (p : P) (n : ℕ) → length xs ≡ n → ys ≡ xs ++ (p ∷ []) → Seats n (of p) (listed of none xs) (listed of none ys)
  listed_push xs ys p n long e =
      let m : map of ys ≡ map of xs ++ (of p ∷ []) = ap (map of) e ∙ map_push of xs p in
      record {
        own = ap (λ (zs : List A). get_or zs n none) m ∙ get_or_push (map of xs) (of p) none n (length-map xs of ∙ long);
        others = λ k ne.
            elim (cases_lt k n) [
              | inl h ↦
                  let l : k < length (map of xs) = simp length-map (omega arith) in
                  ap (λ (zs : List A). get_or zs k none) m ∙ get_or_append_left (map of xs) (of p ∷ []) none k l
              | inr h ↦
                  let l : length ys ≤ k = rw e (simp length_push (omega arith)) in
                  listed_past ys k l ∙ sym (listed_past xs k (omega arith))
            ];
      }

-- the laws of a bank: answers are codes, and who is not held resigns

abbrev Coded : (Side → Answers) → Type 0
Coded plan = (seat : Side) → AreCodes (plan seat)

nobody_coded : Coded nobody
nobody_coded seat w = lit≤ tt

absent : {plan : Side → Answers} {line : Answers} → plan ≡ nobody → line ≡ resigning → Absent plan line
absent e f = record { at_seat = λ seat. ap (λ (plan : Side → Answers). plan seat) e; at_point = f }

pub only_coded : (plan : Side → Answers) → ((seat : Side) → AreCodes (plan seat)) → (k : ℕ) (seat : Side) → AreCodes (only plan nobody k seat)
only_coded plan a = only_all Coded plan nobody a nobody_coded

pub only_absent : (plan : Side → Answers) (line : Answers) (k : ℕ) → 1 ≤ k → Absent (only plan nobody k) (only line resigning k)
only_absent plan line k h =
    let ne : k ≢ 0 = omega arith in
    absent (only_else plan nobody k ne) (only_else line resigning k ne)

pub joined_coded : (n m : ℕ) (low high : ℕ → Side → Answers) → ((k : ℕ) (seat : Side) → AreCodes (low k seat)) → ((k : ℕ) (seat : Side) → AreCodes (high k seat)) → (k : ℕ) (seat : Side) → AreCodes (joined n m low high nobody k seat)
joined_coded n m low high a b = joined_all Coded n m low high nobody a b nobody_coded

pub joined_absent : (n m : ℕ) (low high : ℕ → Side → Answers) (low_line high_line : ℕ → Answers) → n ≤ 65535 → (k : ℕ) → together n m ≤ k → Absent (joined n m low high nobody k) (joined n m low_line high_line resigning k)
joined_absent n m low high low_line high_line few k h = absent (joined_past n m low high nobody few k h) (joined_past n m low_line high_line resigning few k h)

pub listed_coded : {P : Type 0} (plan : P → Side → Answers) → ((p : P) (seat : Side) → AreCodes (plan p seat)) → (xs : List P) (k : ℕ) (seat : Side) → AreCodes (listed plan nobody xs k seat)
listed_coded plan a = listed_all plan nobody Coded a nobody_coded

-- n: how many they are, as a list's own count of them
pub listed_absent : {P : Type 0} (plan : P → Side → Answers) (line : P → Answers) (xs : List P) (n : ℕ) → n ≡ length xs → (k : ℕ) → n ≤ k → Absent (listed plan nobody xs k) (listed line resigning xs k)
listed_absent plan line xs n e k h =
    let past : length xs ≤ k = omega arith in
    absent (listed_past plan nobody xs k past) (listed_past line resigning xs k past)

-- what a player's turn leaves at its own number and at the others
pub ruleset seats = (listed_at, listed_set, listed_other)
