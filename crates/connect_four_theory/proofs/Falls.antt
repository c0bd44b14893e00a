-- The lowest free cell of a column, a word with one stone more, and how many stones two words have.
use Rattle.std.proofs.Common.{◌≡◌, ℕ, zero, suc, ◌+◌, ◌*◌, ◌/◌, ◌%◌, ◌^◌, ◌<◌, ◌≤◌, Bool, true, false, cond, ◌&&◌, ◌||◌, Some, None, eqb, ◌⊎◌, List, [], map, count_by, sym, refl, ap, ◌∙◌, subst, inl, inr, add-zero, arith}
use lib.Bits.{bit_or}
use lib.Count.{ones}
use Rattle.std.specs.Prelude.{if◌then◌else◌, nat_lt}
use Rattle.std.specs.List.{flat_map}
use Rattle.std.proofs.lemmas.List.{flat_map_more}
use Rattle.std.proofs.lemmas.List.Sums.{sum_by-append}
use Rattle.std.proofs.lemmas.Bool.{or_parts, or_from, cases_Bool, cases_lt}
use Rattle.board.specs.Windows.{Cell, cell, below, grid}
use Rattle.board.specs.Straight.{Inside, inside}
use Rattle.connect_four_theory.specs.Stones.{bit, stone, place, cell_at, has_stone, placed, board, OnBoard}
use Rattle.connect_four_theory.specs.Game.{held, rises, landing, lowest_free, Apart, Settled}
use Rattle.connect_four_theory.proofs.Bits.{bit_shr, bit_cases, some_bit, total, total_add, total_le, total_lt, total_find, ones_total, bit_set_same, bit_set_other, ones_set, stone_yes, stone_no, no_stone}
use Rattle.connect_four_theory.proofs.Lines.{at_place, inside_is, is_inside, place_at}

-- ---- the lowest free cell

module _ (p : Cell → Bool) (c : ℕ) where
  rises_held : (n r j : ℕ) → r ≤ j → j < rises p c n r → p (cell c j) ≡ true
  rises_held zero r j a b = absurd (omega arith)
  rises_held (suc n) r j a b = grind (arith, rises_held n (suc r) j)

  rises_free : (n r : ℕ) → rises p c n r < n + r → p (cell c (rises p c n r)) ≡ false
  rises_free zero r b = absurd (omega arith)
  rises_free (suc n) r b = grind (arith, rises_free n (suc r))

  rises_le : (n r : ℕ) → rises p c n r ≤ n + r
  rises_le zero r = omega arith
  rises_le (suc n) r = grind (arith, rises_le n (suc r))

  pub landing_held : (j : ℕ) → j < landing p c → p (cell c j) ≡ true
  unfolding landing
  landing_held j h = rises_held 6 0 j (omega arith) h

  pub landing_free : landing p c < 6 → p (cell c (landing p c)) ≡ false
  unfolding landing
  landing_free h = rises_free 6 0 h

  pub landing_in : landing p c ≤ 6
  unfolding landing
  landing_in = rises_le 6 0

  pub landing_le : (j : ℕ) → p (cell c j) ≡ false → landing p c ≤ j
  landing_le j e = grind (arith, landing_held j)

  -- a search among the cells of the column, from the bottom up
  pub lowest : lowest_free p c ≡ (if nat_lt c 7 && nat_lt (landing p c) 6 then Some (cell c (landing p c)) else None)
  unfolding landing
  lowest = grind arith

-- ---- the word with one stone more

stone_same : (w k : ℕ) → stone (bit_or w (2 ^ k)) k ≡ true
stone_same w k = stone_yes (bit_or w (2 ^ k)) k (bit_set_same w k)

stone_other : (w k j : ℕ) → (j ≡ k → ⊥) → stone (bit_or w (2 ^ k)) j ≡ stone w j
stone_other w k j d = ap (λ (b : ℕ). eqb b 1) (bit_set_other w k j d)

pub stone_kept : (w k j : ℕ) → stone w j ≡ true → stone (bit_or w (2 ^ k)) j ≡ true
stone_kept w k j h = grind (arith, h, stone_same w k, stone_other w k j)

pub stone_since : (w k j : ℕ) → stone (bit_or w (2 ^ k)) j ≡ true → (j ≡ k) ⊎ (stone w j ≡ true)
stone_since w k j h = grind (arith, h, stone_other w k j)

pub placed_here : (w : ℕ) (c : Cell) → has_stone (placed w c) c ≡ true
placed_here w c = stone_same w (place c)

pub placed_other : (w : ℕ) (c d : Cell) → Inside 7 6 c → Inside 7 6 d → (d ≡ c → ⊥) → has_stone (placed w c) d ≡ has_stone w d
placed_other w c d i j ne = stone_other w (place c) (place d) (λ e. ne (sym (place_at d j) ∙ ap cell_at e ∙ place_at c i))

pub on_more : (w : ℕ) (c : Cell) → OnBoard w → Inside 7 6 c → OnBoard (placed w c)
on_more w c on i j e =
    elim (stone_since w (place c) j e) [
      | inl d ↦ ap (λ (k : ℕ). inside 7 6 (cell_at k)) d ∙ ap (inside 7 6) (place_at c i) ∙ is_inside c i
      | inr y ↦ on j y
    ]

on_below : (w : ℕ) → OnBoard w → w < 2 ^ 49
on_below w on =
    elim (cases_lt 0 (w / 2 ^ 49)) [
      | inl l ↦
          let b = some_bit (w / 2 ^ 49) l in
          let e = stone_yes w (49 + b.0) (sym (bit_shr w 49 b.0) ∙ b.1) in
          let f : (49 + b.0) / 7 < 7 = (inside_is (cell_at (49 + b.0)) (on (49 + b.0) e)).0 in
          absurd (omega arith)
      | inr l ↦ omega arith
    ]

pub one_more : (w : ℕ) (c : Cell) → OnBoard w → Inside 7 6 c → has_stone w c ≡ false → ones (placed w c) ≡ ones w + 1
one_more w c on i z =
    let x = i.0 in
    let y = i.1 in
    ones_set 49 w (place c) (on_below w on) (on_below _ (on_more w c on i)) (omega arith) (no_stone w (place c) z)

-- ---- the number of stones

spot : ℕ → ℕ
spot k = cond (inside 7 6 (cell_at k)) 1 0

spots : total 49 spot ≡ 42
unfolding total spot
spots = refl

spot_yes : (k : ℕ) → inside 7 6 (cell_at k) ≡ true → spot k ≡ 1
unfolding spot
spot_yes k e = ap (λ (b : Bool). cond b 1 0) e

spot_no : (k : ℕ) → inside 7 6 (cell_at k) ≡ false → spot k ≡ 0
unfolding spot
spot_no k e = ap (λ (b : Bool). cond b 1 0) e

pub apart_at : (f s : ℕ) → Apart f s → (k : ℕ) → stone f k ≡ true → stone s k ≡ false
apart_at f s a k h = subst (λ (j : ℕ). stone f j ≡ true → stone s j ≡ false) (at_place k) (a (cell_at k)) h

module _ (f s : ℕ) (ok : Settled f s) where
  two_le : (k : ℕ) → bit f k + bit s k ≤ spot k
  two_le k =
      elim (bit_cases f k) [
        | inl a ↦
            let z = no_stone s k (apart_at f s ok.apart k (stone_yes f k a)) in
            let o = spot_yes k (ok.first_on k (stone_yes f k a)) in omega arith
        | inr a ↦
            elim (bit_cases s k) [
              | inl b ↦ let o = spot_yes k (ok.second_on k (stone_yes s k b)) in omega arith
              | inr b ↦ omega arith
            ]
      ]

  both_ones : ones f + ones s ≡ total 49 (λ k. bit f k + bit s k)
  both_ones =
      let a = ones_total 49 f (on_below f ok.first_on) in
      let b = ones_total 49 s (on_below s ok.second_on) in
      let t = total_add 49 (bit f) (bit s) in
      omega arith

  pub at_most : ones f + ones s ≤ 42
  at_most = let e = both_ones in let u = spots in let t = total_le 49 (λ k. bit f k + bit s k) spot two_le in omega arith

  -- a free cell where there are fewer stones than cells
  pub free_cell : ones f + ones s < 42 → (c : Cell) × Inside 7 6 c × (held f s c ≡ false)
  free_cell l =
      let e = both_ones in
      let u = spots in
      let g = total_find 49 (λ k. bit f k + bit s k) spot (omega arith) in
      let k = g.0 in
      let h = g.2 in
      elim (cases_Bool (inside 7 6 (cell_at k))) [
        | inl y ↦
            let o = spot_yes k y in
            let none : held f s (cell_at k) ≡ false =
            subst (λ (j : ℕ). (stone f j || stone s j) ≡ false) (sym (at_place k)) (or_from _ _ (stone_no f k (omega arith)) (stone_no s k (omega arith))) in
            (cell_at k, inside_is (cell_at k) y, none)
        | inr n ↦ let o = spot_no k n in absurd (omega arith)
      ]

  pub cell_free : (c : Cell) → Inside 7 6 c → held f s c ≡ false → ones f + ones s < 42
  cell_free c i h =
      let x = i.0 in
      let y = i.1 in
      let e = both_ones in
      let u = spots in
      let p = or_parts (has_stone f c) (has_stone s c) h in
      let a = no_stone f (place c) p.0 in
      let b = no_stone s (place c) p.1 in
      let o = spot_yes (place c) (ap (inside 7 6) (place_at c i) ∙ is_inside c i) in
      let t = total_lt 49 (λ k. bit f k + bit s k) spot (place c) (omega arith) two_le (omega arith) in
      omega arith

-- ---- the ones of a word are its stones on the board

total_push : (n : ℕ) (g : ℕ → ℕ) → total (suc n) g ≡ total n g + g n
unfolding total
total_push zero g = omega arith
total_push (suc n) g = let i = total_push n (λ j. g (suc j)) in omega arith

next_total : (g : ℕ → ℕ) (m k : ℕ) → k ≡ suc m → total k g ≡ total m g + g m
next_total g m k e = ap (λ (n : ℕ). total n g) e ∙ total_push m g

-- six cells of a column, and the bit over them
column_total : (g : ℕ → ℕ) (m : ℕ) → total (m + 7) g ≡ total (m + 0) g + ((((((g (m + 0) + g (m + 1)) + g (m + 2)) + g (m + 3)) + g (m + 4)) + g (m + 5)) + g (m + 6))
column_total g m =
    omega (
      arith,
      next_total g (m + 0) (m + 1) (omega arith),
      next_total g (m + 1) (m + 2) (omega arith),
      next_total g (m + 2) (m + 3) (omega arith),
      next_total g (m + 3) (m + 4) (omega arith),
      next_total g (m + 4) (m + 5) (omega arith),
      next_total g (m + 5) (m + 6) (omega arith),
      next_total g (m + 6) (m + 7) (omega arith),
    )

one_bit : (w k : ℕ) → cond (stone w k) 1 0 ≡ bit w k
one_bit w k =
    elim (bit_cases w k) [
      | inl e ↦ ap (λ (b : Bool). cond b 1 0) (stone_yes w k e) ∙ sym e
      | inr e ↦ ap (λ (b : Bool). cond b 1 0) (stone_no w k e) ∙ sym e
    ]

column_count : (w n : ℕ) → count_by (has_stone w) (map (cell n) (below 6))
    ≡ ((((bit w (7 * n + 0) + bit w (7 * n + 1)) + bit w (7 * n + 2)) + bit w (7 * n + 3)) + bit w (7 * n + 4)) + bit w (7 * n + 5)
column_count w n =
    omega (
      arith,
      one_bit w (7 * n + 0),
      one_bit w (7 * n + 1),
      one_bit w (7 * n + 2),
      one_bit w (7 * n + 3),
      one_bit w (7 * n + 4),
      one_bit w (7 * n + 5),
    )

columns_count : (w : ℕ) → OnBoard w → (n : ℕ) → count_by (has_stone w) (grid n 6 cell) ≡ total (7 * n) (bit w)
unfolding total
columns_count w on zero = refl
columns_count w on (suc n) =
    let f : ℕ → List Cell = λ c. map (λ r. cell c r) (below 6) in
    let i = columns_count w on n in
    let a : count_by (has_stone w) (grid (suc n) 6 cell) ≡ count_by (has_stone w) (grid n 6 cell) + count_by (has_stone w) (f n) =
    ap (λ (l : List Cell). count_by (has_stone w) l) (sym (flat_map_more f [] (below n) n)) ∙ sum_by-append (λ c. cond (has_stone w c) 1 0) (flat_map f (below n)) (f n) in
    let b = column_count w n in
    let over : stone w (7 * n + 6) ≡ false =
    elim (cases_Bool (stone w (7 * n + 6))) [
      | inl y ↦ let z : (7 * n + 6) % 7 < 6 = (inside_is (cell_at (7 * n + 6)) (on (7 * n + 6) y)).1 in absurd (omega arith)
      | inr y ↦ y
    ] in
    let c = no_stone w (7 * n + 6) over in
    let d = column_total (bit w) (7 * n) in
    let e : total (7 * suc n) (bit w) ≡ total (7 * n + 7) (bit w) = ap (λ (k : ℕ). total k (bit w)) (omega arith) in
    let z : total (7 * n + 0) (bit w) ≡ total (7 * n) (bit w) = ap (λ (k : ℕ). total k (bit w)) (add-zero (7 * n)) in
    omega (arith, i, a, b, c, d, e, z)

pub ones_are_stones : (w : ℕ) → OnBoard w → ones w ≡ count_by (has_stone w) board
ones_are_stones w on = ones_total 49 w (on_below w on) ∙ sym (columns_count w on 7)
