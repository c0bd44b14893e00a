-- The turns that lie in bytes, one by one by their own places: what each says, and what its reading asks.
use Rattle.std.proofs.Common.{◌≡◌, ℕ, zero, suc, ◌+◌, ◌*◌, ◌/◌, ◌<◌, ◌≤◌, List, ◌∷◌, length, get_or, drop, Some, refl, ap, ◌∙◌, ap₂, arith, le-leb}
use borrow.Author.Tests.{lt-leb}
use Rattle.std.specs.List.{slice_get}
use Rattle.std.proofs.lemmas.List.{get_or-drop, at_drop_more}
use Rattle.std.proofs.lemmas.Option.{slice_get-get_or}
use Rattle.verdict.specs.declared.Turn.{Turn}
use Rattle.format.specs.Requirements.{half_at, word_at, turns_of, turns_in, reading_requirements, must, found, first_fault}
use Rattle.format.proofs.Faults.{fault_on, fault_at}
use Rattle.format.proofs.TurnParts.{length_turns_of}

-- a number at a place of a part, by its place in the whole
pub half_drop : (n k : ℕ) (xs : List ℕ) → half_at (drop n xs) k ≡ half_at xs (n + k)
half_drop n k xs =
    ap₂ (λ (x y : ℕ). x + y * 256) (get_or-drop n xs k 0) (get_or-drop n xs (k + 1) 0 ∙ ap (λ (j : ℕ). get_or xs j 0) (omega arith))

pub word_drop : (n k : ℕ) (xs : List ℕ) → word_at (drop n xs) k ≡ word_at xs (n + k)
word_drop n k xs =
    let at : (d : ℕ) → get_or (drop n xs) (k + d) 0 ≡ get_or xs (n + k + d) 0 = λ d. get_or-drop n xs (k + d) 0 ∙ ap (λ (j : ℕ). get_or xs j 0) (omega arith) in
    ap₂ (λ (x y : ℕ). x + y)
    (ap₂ (λ (x y : ℕ). x + y) (ap₂ (λ (x y : ℕ). x + y * 256) (get_or-drop n xs k 0) (at 1)) (ap (λ (x : ℕ). x * 65536) (at 2)))
    (ap (λ (x : ℕ). x * 16777216) (at 3))

abbrev turn : ℕ → ℕ → Turn
turn x y = record { code = x; reading = y }

-- the i-th of some turns, by its own place
pub nth_turns_of : (m i : ℕ) (xs : List ℕ) → i < m → slice_get (turns_of m xs) i ≡ Some (record { code = half_at xs (6 * i); reading = word_at xs (6 * i + 2) })
nth_turns_of zero i xs h = absurd (omega arith)
nth_turns_of (suc m) zero xs h = refl
nth_turns_of (suc m) (suc i) xs h =
    let e : 6 + 6 * i ≡ 6 * suc i = omega arith in
    nth_turns_of m i (drop 6 xs) (omega arith)
    ∙ ap Some (ap₂ turn (half_drop 6 (6 * i) xs ∙ ap (half_at xs) e) (word_drop 6 (6 * i + 2) xs ∙ ap (word_at xs) (omega arith)))

pub get_or_turns_of : (m i : ℕ) (xs : List ℕ) (d : Turn) → i < m → get_or (turns_of m xs) i d ≡ record { code = half_at xs (6 * i); reading = word_at xs (6 * i + 2) }
get_or_turns_of m i xs d h =
    let l = length_turns_of m xs in
    let e : i < length (turns_of m xs) = omega arith in
    let a = slice_get-get_or (turns_of m xs) i d e in
    let b = nth_turns_of m i xs h in
    cc

-- one turn's reading, in a series that begins at p
module _ (p : ℕ) (xs : List ℕ) (i : ℕ) (within : i < length xs / 6) where
  nobody : Turn
  nobody = record { code = 0; reading = 0 }

  reading_is : (get_or (turns_in xs) i nobody).reading ≡ word_at xs (6 * i + 2)
  reading_is = ap (λ (t : Turn). t.reading) (get_or_turns_of (length xs / 6) i xs nobody within)

  opened : first_fault (reading_requirements (p + 6 * i) (drop i (turns_in xs))) ≡ first_fault (reading_requirements (p + 6 * i) (get_or (turns_in xs) i nobody ∷ drop (i + 1) (turns_in xs)))
  opened = at_drop_more (λ ts. first_fault (reading_requirements (p + 6 * i) ts)) (turns_in xs) i nobody (let l = length_turns_of (length xs / 6) xs in omega arith)

  pub reading_on : word_at xs (6 * i + 2) ≤ 86400000 → first_fault (reading_requirements (p + 6 * i) (drop i (turns_in xs))) ≡ first_fault (reading_requirements (p + 6 * (i + 1)) (drop (i + 1) (turns_in xs)))
  reading_on h =
      let r = reading_is in
      let low : (get_or (turns_in xs) i nobody).reading ≤ 86400000 = omega arith in
      opened
      ∙ fault_on (must 13 (p + 6 * i) _) (reading_requirements (p + 6 * i + 6) (drop (i + 1) (turns_in xs))) (le-leb _ _ low)
      ∙ ap (λ (q : ℕ). first_fault (reading_requirements q (drop (i + 1) (turns_in xs)))) (omega arith)

  pub reading_at : 86400000 < word_at xs (6 * i + 2) → first_fault (reading_requirements (p + 6 * i) (drop i (turns_in xs))) ≡ Some (found 13 (p + 6 * i))
  reading_at h =
      let r = reading_is in
      let high : 86400000 < (get_or (turns_in xs) i nobody).reading = omega arith in
      opened ∙ fault_at (must 13 (p + 6 * i) _) (reading_requirements (p + 6 * i + 6) (drop (i + 1) (turns_in xs))) (lt-leb _ _ high)
