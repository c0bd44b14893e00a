-- Four in a line on the board, as four bits of a word, each a step past the one before.
use Rattle.std.proofs.Common.{◌≡◌, ℕ, zero, suc, ◌+◌, ◌*◌, ◌/◌, ◌%◌, ◌^◌, ◌<◌, ◌≤◌, min, Bool, true, false, not, ◌&&◌, ◌⊎◌, List, [], ◌∷◌, length, Decides, sym, refl, ap, ◌∙◌, subst, ap₂, inl, inr, arith, lit<, lit≤}
use lib.Bits.{bit_and, bit_xor}
use Rattle.std.specs.Prelude.{MatchBool}
use Rattle.std.specs.List.{AllByRecursion, AllWithin, HoldsAt}
use Rattle.std.proofs.lemmas.Bool.{and_left, and_right, and_parts, and_from, ltb-true, lt-ltb, le-ltb, cases_Bool, cases_lt, both_ways}
use Rattle.std.proofs.lemmas.Bool.Decides.{same_from_decides}
use Rattle.board.specs.Windows.{Cell, cell, every, windows, in_line}
use Rattle.board.specs.Straight.{Heading, upright, level, rising, falling, Step, Straight, Inside, inside}
use Rattle.board.proofs.Windows.{some_in, every_weaker}
use Rattle.board.proofs.Straight.{in_line_right}
use Rattle.connect_four_theory.specs.Stones.{bit, stone, place, cell_at, has_stone, four_in_line, OnBoard, Run}
use Rattle.std.proofs.lemmas.Nat.Bits.{bit_at_and, bit_at_xor, bit_at-lt, bit_at_above}
use Rattle.connect_four_theory.proofs.Bits.{bit_shr, some_bit, not_zero, bit_cases, stone_yes, stone_no, yes_stone, no_stone}

-- ---- cells and their places

pub at_place : (k : ℕ) → place (cell_at k) ≡ k
at_place k = omega arith

pub inside_is : (c : Cell) → inside 7 6 c ≡ true → Inside 7 6 c
inside_is c h = let e = and_parts _ _ h in (ltb-true c.column 7 e.0, ltb-true c.row 6 e.1)

pub is_inside : (c : Cell) → Inside 7 6 c → inside 7 6 c ≡ true
is_inside c h = and_from _ _ (lt-ltb c.column 7 h.0) (lt-ltb c.row 6 h.1)

pub place_at : (c : Cell) → Inside 7 6 c → cell_at (place c) ≡ c
place_at c h = let a = h.1 in ap₂ cell (omega arith) (omega arith)

-- ---- a line and a run of bits

abbrev step_of : Heading → ℕ
step_of upright = 1
step_of falling = 6
step_of level = 7
step_of rising = 8

cell_step : (h : Heading) (k : ℕ) → Inside 7 6 (cell_at k) → Inside 7 6 (cell_at (step_of h + k)) → Step h (cell_at k) (cell_at (step_of h + k))
cell_step upright k i j = let a = i.1 in let b = j.1 in (omega arith, omega arith)
cell_step falling k i j = let a = i.1 in let b = j.1 in (omega arith, omega arith)
cell_step level k i j = let a = i.1 in let b = j.1 in (omega arith, omega arith)
cell_step rising k i j = let a = i.1 in let b = j.1 in (omega arith, omega arith)

place_step : (h : Heading) (a b : Cell) → Step h a b → place b ≡ step_of h + place a
place_step upright a b s = let x = s.0 in let y = s.1 in omega arith
place_step falling a b s = let x = s.0 in let y = s.1 in omega arith
place_step level a b s = let x = s.0 in let y = s.1 in omega arith
place_step rising a b s = let x = s.0 in let y = s.1 in omega arith

module _ (w : ℕ) (h : Heading) where
  run_line : OnBoard w → Run w (step_of h) → four_in_line (has_stone w) ≡ true
  run_line on r =
      let s = step_of h in
      let k = r.0 in
      let twice : s + (s + k) ≡ 2 * s + k = omega arith in
      let p = and_parts _ _ r.1 in
      let q = and_parts _ _ p.1 in
      let t = and_parts _ _ q.1 in
      let u = and_parts _ _ t.1 in
      let within : (j : ℕ) → stone w j ≡ true → Inside 7 6 (cell_at j) = λ j e. inside_is (cell_at j) (on j e) in
      let here : (j : ℕ) → stone w j ≡ true → has_stone w (cell_at j) ≡ true = λ j e. ap (stone w) (at_place j) ∙ e in
      let again : Step h (cell_at (s + k)) (cell_at (2 * s + k)) =
      subst (λ (j : ℕ). Step h (cell_at (s + k)) (cell_at j)) twice (cell_step h (s + k) (within (s + k) q.0) (subst (λ (j : ℕ). Inside 7 6 (cell_at j)) (sym twice) (within (2 * s + k) t.0))) in
      (in_line_right 7 6 4 (lit≤ tt) (has_stone w)).1 (
        cell_at k ∷ cell_at (s + k) ∷ cell_at (2 * s + k) ∷ cell_at (s + (2 * s + k)) ∷ [],
        lit≤ tt,
        (
          (h, (cell_step h k (within k p.0) (within (s + k) q.0), (again, (cell_step h (2 * s + k) (within (2 * s + k) t.0) (within (s + (2 * s + k)) u.0), tt)))),
          (within k p.0, (within (s + k) q.0, (within (2 * s + k) t.0, (within (s + (2 * s + k)) u.0, tt)))),
        ),
        and_from _ _ (here k p.0) (and_from _ _ (here (s + k) q.0) (and_from _ _ (here (2 * s + k) t.0) (and_from _ _ (here (s + (2 * s + k)) u.0) refl))),
      )

  line_run : (cs : List Cell) → 4 ≤ length cs → Straight h cs → every (has_stone w) cs ≡ true → Run w (step_of h)
  line_run [] l s e = absurd (omega arith)
  line_run (a ∷ []) l s e = absurd (omega arith)
  line_run (a ∷ (b ∷ [])) l s e = absurd (omega arith)
  line_run (a ∷ (b ∷ (c ∷ []))) l s e = absurd (omega arith)
  line_run (a ∷ (b ∷ (c ∷ (d ∷ cs)))) l s e =
      let x = place_step h a b s.0 in
      let y = place_step h b c s.1.0 in
      let z = place_step h c d s.1.1.0 in
      let k = place a in
      let second : place b ≡ step_of h + k = x in
      let third : place c ≡ 2 * step_of h + k = omega arith in
      let fourth : place d ≡ step_of h + (2 * step_of h + k) = omega arith in
      let p = and_parts _ _ e in
      let q = and_parts _ _ p.1 in
      let t = and_parts _ _ q.1 in
      let u = and_parts _ _ t.1 in
      (k, and_from _ _ p.0 (and_from _ _ (sym (ap (stone w) second) ∙ q.0) (and_from _ _ (sym (ap (stone w) third) ∙ t.0) (and_from _ _ (sym (ap (stone w) fourth) ∙ u.0) refl))))

Runs : ℕ → Type 0
Runs w = Run w 1 ⊎ (Run w 6 ⊎ (Run w 7 ⊎ Run w 8))

one_of : (w : ℕ) (h : Heading) → Run w (step_of h) → Runs w
unfolding Runs
one_of w upright r = inl r
one_of w falling r = inr (inl r)
one_of w level r = inr (inr (inl r))
one_of w rising r = inr (inr (inr r))

line_decides : (w : ℕ) → OnBoard w → Decides (four_in_line (has_stone w)) (Runs w)
unfolding Runs
line_decides w on = (
  (λ e.
      let g = (in_line_right 7 6 4 (lit≤ tt) (has_stone w)).0 e in
      let h = g.2.0.0 in
      one_of w h (line_run w h g.0 g.1 g.2.0.1 g.3)),
  (λ r. elim r [
    | inl x ↦ run_line w upright on x
    | inr r' ↦ elim r' [
      | inl x ↦ run_line w falling on x
      | inr r'' ↦ elim r'' [ inl x ↦ run_line w level on x | inr x ↦ run_line w rising on x ]
    ]
  ]),
)

abbrev steps : List ℕ
steps = 1 ∷ 6 ∷ 7 ∷ 8 ∷ []

run_at : (w k : ℕ) → k < 4 → HoldsAt (Run w) steps k → Runs w
unfolding Runs
run_at w zero l h = inl (h 0)
run_at w (suc zero) l h = inr (inl (h 0))
run_at w (suc (suc zero)) l h = inr (inr (inl (h 0)))
run_at w (suc (suc (suc zero))) l h = inr (inr (inr (h 0)))
run_at w (suc (suc (suc (suc k)))) l h = absurd (omega arith)

-- the answer of a search among the steps
any_decides : (w : ℕ) (any : Bool) → MatchBool any ((k : ℕ) × (k < 4) × HoldsAt (Run w) steps k) (AllWithin (λ by. Run w by → ⊥) steps 0 4) → Decides any (Runs w)
unfolding Runs
any_decides w true m = ((λ e. run_at w m.0 m.1 m.2), (λ r. refl))
any_decides w false m = (
  (λ e. absurd (both_ways false refl e)),
  (λ r. absurd (elim r [
    | inl x ↦ m 0 0 (lit≤ tt) (lit< tt) x
    | inr r' ↦ elim r' [
      | inl x ↦ m 1 0 (lit≤ tt) (lit< tt) x
      | inr r'' ↦ elim r'' [ inl x ↦ m 2 0 (lit≤ tt) (lit< tt) x | inr x ↦ m 3 0 (lit≤ tt) (lit< tt) x ]
    ]
  ])),
)

pub line_is : (w : ℕ) → OnBoard w → (any : Bool) → MatchBool any ((k : ℕ) × (k < 4) × HoldsAt (Run w) steps k) (AllWithin (λ by. Run w by → ⊥) steps 0 4)
    → any ≡ four_in_line (has_stone w)
line_is w on any m = same_from_decides _ _ (any_decides w any m) (line_decides w on)

-- ---- the shifts

quads : ℕ → ℕ → ℕ
quads w s = bit_and (bit_and w (w / 2 ^ s)) (bit_and w (w / 2 ^ s) / 2 ^ (2 * s))

bit_pairs : (w s k : ℕ) → bit (bit_and w (w / 2 ^ s)) k ≡ min (bit w k) (bit w (s + k))
bit_pairs w s k = bit_at_and w (w / 2 ^ s) k ∙ ap (λ (x : ℕ). min (bit w k) x) (bit_shr w s k)

bit_quads : (w s k : ℕ) → bit (quads w s) k ≡ min (min (bit w k) (bit w (s + k))) (min (bit w (2 * s + k)) (bit w (s + (2 * s + k))))
unfolding quads
bit_quads w s k =
    bit_at_and (bit_and w (w / 2 ^ s)) (bit_and w (w / 2 ^ s) / 2 ^ (2 * s)) k
    ∙ ap₂ min (bit_pairs w s k) (bit_shr (bit_and w (w / 2 ^ s)) (2 * s) k ∙ bit_pairs w s (2 * s + k))

pub quads_run : (w s : ℕ) → 0 < bit_and (bit_and w (w / 2 ^ s)) (bit_and w (w / 2 ^ s) / 2 ^ (2 * s)) → Run w s
unfolding quads
quads_run w s h =
    let b = some_bit (quads w s) h in
    let k = b.0 in
    let e = bit_quads w s k in
    let o = b.1 in
    let l0 = bit_at-lt w k in
    let l1 = bit_at-lt w (s + k) in
    let l2 = bit_at-lt w (2 * s + k) in
    let l3 = bit_at-lt w (s + (2 * s + k)) in
    let yes : (j : ℕ) → bit w j ≡ 1 → stone w j ≡ true = stone_yes w in
    (k, and_from _ _ (yes k (omega arith)) (and_from _ _ (yes (s + k) (omega arith)) (and_from _ _ (yes (2 * s + k) (omega arith)) (and_from _ _ (yes (s + (2 * s + k)) (omega arith)) refl))))

pub run_quads : (w s : ℕ) → Run w s → 0 < bit_and (bit_and w (w / 2 ^ s)) (bit_and w (w / 2 ^ s) / 2 ^ (2 * s))
unfolding quads
run_quads w s r =
    let k = r.0 in
    let p = and_parts _ _ r.1 in
    let q = and_parts _ _ p.1 in
    let t = and_parts _ _ q.1 in
    let u = and_parts _ _ t.1 in
    let a = yes_stone w k p.0 in
    let b = yes_stone w (s + k) q.0 in
    let c = yes_stone w (2 * s + k) t.0 in
    let d = yes_stone w (s + (2 * s + k)) u.0 in
    not_zero (quads w s) k (bit_quads w s k ∙ omega arith)

-- ---- tests that agree on the board, and tests that pass more

every_cong : (p q : Cell → Bool) → ((c : Cell) → Inside 7 6 c → p c ≡ q c) → (w : List Cell) → AllByRecursion (Inside 7 6) w → every p w ≡ true → every q w ≡ true
every_cong p q f [] a h = refl
every_cong p q f (c ∷ w) a h = let e = and_parts _ _ h in and_from _ _ (sym (f c a.0) ∙ e.0) (every_cong p q f w a.1 e.1)

line_moves : (p q : Cell → Bool) → ((c : Cell) → Inside 7 6 c → p c ≡ q c) → four_in_line p ≡ true → four_in_line q ≡ true
line_moves p q f h =
    let g = (in_line_right 7 6 4 (lit≤ tt) p).0 h in
    (in_line_right 7 6 4 (lit≤ tt) q).1 (g.0, g.1, g.2, every_cong p q f g.0 g.2.1 g.3)

pub line_cong : (p q : Cell → Bool) → ((c : Cell) → Inside 7 6 c → p c ≡ q c) → four_in_line p ≡ four_in_line q
line_cong p q f = same_from_decides _ _ (line_moves p q f, line_moves q p (λ c i. sym (f c i))) ((λ h. h), (λ h. h))

pub line_more : (p q : Cell → Bool) → ((c : Cell) → p c ≡ true → q c ≡ true) → four_in_line p ≡ true → four_in_line q ≡ true
unfolding in_line
line_more p q f h = some_in (λ ws. every q ws) (λ ws. every p ws) (λ ws e. every_weaker p q f ws e) (windows 7 6 4) h

-- ---- the cells of the board that a word leaves free

abbrev all_cells : ℕ
all_cells = 279258638311359

same : Bool → Bool → Bool
same true b = b
same false b = not b

same_is : (a b : Bool) → same a b ≡ true → a ≡ b
unfolding same
same_is true b h = sym h
same_is false true h = h
same_is false false h = refl

abbrev tests : ℕ → (ℕ → Bool) → Bool
tests zero p = true
tests (suc n) p = p n && tests n p

tested : (p : ℕ → Bool) (n : ℕ) → tests n p ≡ true → (k : ℕ) → k < n → p k ≡ true
tested p zero h k l = absurd (omega arith)
tested p (suc n) h k l = grind (arith, tested p n)

board_low : tests 64 (λ k. same (stone all_cells k) (inside 7 6 (cell_at k))) ≡ true
unfolding same
board_low = refl

board_is : (k : ℕ) → stone all_cells k ≡ inside 7 6 (cell_at k)
board_is k =
    elim (cases_lt k 64) [
      | inl l ↦ same_is _ _ (tested (λ k. same (stone all_cells k) (inside 7 6 (cell_at k))) 64 board_low k l)
      | inr l ↦ stone_no all_cells k (bit_at_above all_cells 64 k (lit< tt) l) ∙ sym (and_left _ _ (le-ltb (k / 7) 7 (omega arith)))
    ]

stone_not : (w k : ℕ) → OnBoard w → stone (bit_xor all_cells w) k ≡ (inside 7 6 (cell_at k) && not (stone w k))
stone_not w k on =
    elim (cases_Bool (inside 7 6 (cell_at k))) [
      | inl y ↦
          let b = yes_stone all_cells k (board_is k ∙ y) in
          elim (bit_cases w k) [
            | inl e ↦ stone_no (bit_xor all_cells w) k (bit_at_xor all_cells w k ∙ ap₂ (λ (x y : ℕ). (x + y) % 2) b e) ∙ sym (and_right _ _ (ap not (stone_yes w k e)))
            | inr e ↦ stone_yes (bit_xor all_cells w) k (bit_at_xor all_cells w k ∙ ap₂ (λ (x y : ℕ). (x + y) % 2) b e) ∙ sym (and_from _ _ y (ap not (stone_no w k e)))
          ]
      | inr n ↦
          let b = no_stone all_cells k (board_is k ∙ n) in
          elim (bit_cases w k) [
            | inl e ↦ absurd (both_ways _ n (on k (stone_yes w k e)))
            | inr e ↦ stone_no (bit_xor all_cells w) k (bit_at_xor all_cells w k ∙ ap₂ (λ (x y : ℕ). (x + y) % 2) b e) ∙ sym (and_left _ _ n)
          ]
    ]

pub gap_on : (w : ℕ) → OnBoard w → OnBoard (bit_xor 279258638311359 w)
gap_on w on k h = (and_parts _ _ (sym (stone_not w k on) ∙ h)).0

pub gap_is : (w : ℕ) → OnBoard w → four_in_line (has_stone (bit_xor 279258638311359 w)) ≡ four_in_line (λ c. not (has_stone w c))
gap_is w on =
    line_cong _ _
    (λ c i. stone_not w (place c) on ∙ ap (λ (b : Bool). b && not (has_stone w c)) (ap (inside 7 6) (place_at c i) ∙ is_inside c i))
