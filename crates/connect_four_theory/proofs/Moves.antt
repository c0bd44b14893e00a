-- What a code does to a position, and the laws of the game from it.
use Rattle.std.proofs.Common.{◌≡◌, ℕ, ◌+◌, ◌-◌, ◌*◌, ◌^◌, ◌<◌, ◌≤◌, Bool, true, false, cond, not, ◌||◌, eqb, ◌⊎◌, refl, ap, ◌∙◌, inl, inr, arith}
use lib.Bits.{bit_or}
use lib.Count.{ones, ones-ones}
use Rattle.std.proofs.lemmas.Bool.{and_parts, and_from, or_cases, or_left, or_right, or_parts, or_from, eqb-false, ne_eqb, ltb-true, lt-ltb, cases_Bool, cases_lt, both_ways}
use Rattle.side.specs.declared.Side.{Side}
use Rattle.side.specs.declared.Side.TheVariants.{First, Second}
use Rattle.side.specs.TwoSides.{pick}
use Rattle.rules.specs.declared.Status.{Status}
use Rattle.rules.specs.declared.Status.TheVariants.{Open, Won, Drawn}
use Rattle.rules.specs.Plans.{is_open, Lawful}
use Rattle.rules.proofs.Sound.{Sound, lawful}
use Rattle.rules.proofs.Statuses.{status_open}
use Rattle.board.specs.Windows.{Cell, cell, windows, in_line}
use Rattle.board.specs.Straight.{Inside}
use Rattle.connect_four_theory.specs.Stones.{stone, place, has_stone, placed, four_in_line}
use Rattle.connect_four_theory.specs.Game.{Position, start, held, landing, status_of, fits, target, first_after, second_after, chance_of, four, connect_four, Apart, over, Settled}
use Rattle.std.proofs.lemmas.Nat.Bits.{bit_at-zero}
use Rattle.connect_four_theory.proofs.Bits.{stone_no}
use Rattle.connect_four_theory.proofs.Lines.{line_more}
use Rattle.connect_four_theory.proofs.Falls.{landing_held, landing_free, landing_le, stone_kept, stone_since, on_more, one_more, at_most, free_cell, cell_free}

-- ---- a code that fits

pub record Fit (f s c : ℕ) : Type 0 where
  pub opens : status_of f s ≡ Open
  pub column : c < 7
  pub row : landing (held f s) c < 6

pub fit : (f s c : ℕ) → fits f s c ≡ true → Fit f s c
fit f s c h =
    let p = and_parts _ _ h in
    let q = and_parts _ _ p.1 in
    record { opens = status_open (status_of f s) p.0; column = ltb-true c 7 q.0; row = ltb-true (landing (held f s) c) 6 q.1 }

target_in : (f s c : ℕ) → Fit f s c → Inside 7 6 (target f s c)
target_in f s c h = (h.column, h.row)

target_free : (f s c : ℕ) → Fit f s c → (has_stone f (target f s c) ≡ false) × (has_stone s (target f s c) ≡ false)
target_free f s c h = or_parts _ _ (landing_free (held f s) c h.row)

rests_more : (p q : ℕ → Bool) (c : ℕ) → landing (λ d. p (place d)) c < 6
    → ((j : ℕ) → p j ≡ true → q j ≡ true) → ((j : ℕ) → q j ≡ true → (j ≡ 7 * c + landing (λ d. p (place d)) c) ⊎ (p j ≡ true))
    → ((x r : ℕ) → r < 5 → p (7 * x + (r + 1)) ≡ true → p (7 * x + r) ≡ true) → (x r : ℕ) → r < 5 → q (7 * x + (r + 1)) ≡ true → q (7 * x + r) ≡ true
rests_more p q c l up down rest x r h y =
    elim (down (7 * x + (r + 1)) y) [
      | inl e ↦
          let d : 7 * x + r ≡ 7 * c + r = omega arith in
          up (7 * x + r) (ap p d ∙ landing_held (λ d. p (place d)) c r (omega arith))
      | inr o ↦ up (7 * x + r) (rest x r h o)
    ]

module _ (f s c : ℕ) (ok : Settled f s) (h : Fit f s c) where
  pub settled_first : Settled (placed f (target f s c)) s
  settled_first =
      let k = place (target f s c) in
      record {
        first_on = on_more f (target f s c) ok.first_on (target_in f s c h);
        second_on = ok.second_on;
        apart = λ d y.
            elim (stone_since f k (place d) y) [
              | inl e ↦ ap (stone s) e ∙ (target_free f s c h).1
              | inr o ↦ ok.apart d o
            ];
        rests = λ d. rests_more (λ j. stone f j || stone s j) (λ j. stone (placed f (target f s c)) j || stone s j) c h.row
            (λ j y. elim (or_cases _ _ y) [ inl a ↦ or_left _ _ (stone_kept f k j a) | inr b ↦ or_right _ _ b ])
            (λ j y. elim (or_cases _ _ y) [
              | inl a ↦ elim (stone_since f k j a) [ inl e ↦ inl e | inr o ↦ inr (or_left _ _ o) ]
              | inr b ↦ inr (or_right _ _ b)
            ])
            (λ x r. ok.rests (cell x r)) d.column d.row;
      }

  pub settled_second : Settled f (placed s (target f s c))
  settled_second =
      let k = place (target f s c) in
      record {
        first_on = ok.first_on;
        second_on = on_more s (target f s c) ok.second_on (target_in f s c h);
        apart = λ d y.
            elim (cases_Bool (has_stone (placed s (target f s c)) d)) [
              | inl t ↦ elim (stone_since s k (place d) t) [
                | inl e ↦ absurd (both_ways _ (ap (stone f) e ∙ (target_free f s c h).0) y)
                | inr o ↦ absurd (both_ways _ (ok.apart d y) o)
              ]
              | inr t ↦ t
            ];
        rests = λ d. rests_more (λ j. stone f j || stone s j) (λ j. stone f j || stone (placed s (target f s c)) j) c h.row
            (λ j y. elim (or_cases _ _ y) [ inl a ↦ or_left _ _ a | inr b ↦ or_right _ _ (stone_kept s k j b) ])
            (λ j y. elim (or_cases _ _ y) [
              | inl a ↦ inr (or_left _ _ a)
              | inr b ↦ elim (stone_since s k j b) [ inl e ↦ inl e | inr o ↦ inr (or_right _ _ o) ]
            ])
            (λ x r. ok.rests (cell x r)) d.column d.row;
      }

-- ---- the status by its three tests

abbrev tell : Bool → Bool → Bool → Status
tell x y z = cond x (Won First) (cond y (Won Second) (cond z Drawn Open))

abbrev Clear : ℕ → ℕ → Type 0
Clear f s = (four_in_line (has_stone f) ≡ false) × (four_in_line (has_stone s) ≡ false)

open_tests : (x y z : Bool) → tell x y z ≡ Open → (x ≡ false) × (y ≡ false) × (z ≡ false)
open_tests x y z h = grind (arith, h)

pub won_test : (x y z : Bool) (t : Side) → tell x y z ≡ Won t → pick t x y ≡ true
won_test x y z t h = elim t [ First ↦ grind (arith, h) | Second ↦ grind (arith, h) ]

pub drawn_tests : (x y z : Bool) → tell x y z ≡ Drawn → (x ≡ false) × (y ≡ false) × (z ≡ true)
drawn_tests x y z h = grind (arith, h)

pub open_clear : (f s : ℕ) → status_of f s ≡ Open → Clear f s
open_clear f s o = let e = open_tests (four_in_line (has_stone f)) (four_in_line (has_stone s)) (eqb (ones f + ones s) 42) o in (e.0, e.1)

-- ---- the facts of single positions

unfoldable pub Good : Position → ℕ → Type 0
Good p n = Settled p.first p.second × (42 ≤ (ones p.first + ones p.second) + n)

-- a stone more: the words are settled, and have one more one
pub stepped : (f s : ℕ) (t : Side) (c : ℕ) → Settled f s → Fit f s c
    → Settled (first_after f s t (target f s c)) (second_after f s t (target f s c))
    × (ones (first_after f s t (target f s c)) + ones (second_after f s t (target f s c)) ≡ (ones f + ones s) + 1)
stepped f s First c ok h =
    let o = one_more f (target f s c) ok.first_on (target_in f s c h) (target_free f s c h).0 in
    (settled_first f s c ok h, omega arith)
stepped f s Second c ok h =
    let o = one_more s (target f s c) ok.second_on (target_in f s c h) (target_free f s c h).1 in
    (settled_second f s c ok h, omega arith)

step : (p : Position) (n c : ℕ) → Good p n → fits p.first p.second c ≡ true → (m : ℕ) × (m < n) × Good (four.next p c) m
unfolding Good
step p n c g l =
    let f = p.first in
    let s = p.second in
    let h = fit f s c l in
    let free = target_free f s c h in
    let few = cell_free f s g.0 (target f s c) (target_in f s c h) (or_from _ _ free.0 free.1) in
    let e = g.1 in
    let x = stepped f s p.turn c g.0 h in
    let o = x.1 in
    (n - 1, omega arith, (x.0, omega arith))

goes : (f s n : ℕ) → Settled f s → 42 ≤ (ones f + ones s) + n → status_of f s ≡ Open → (c : ℕ) × (fits f s c ≡ true)
goes f s n ok e o =
    let tests = open_tests (four_in_line (has_stone f)) (four_in_line (has_stone s)) (eqb (ones f + ones s) 42) o in
    let ne = eqb-false (ones f + ones s) 42 tests.2 in
    let m = at_most f s ok in
    let g = free_cell f s ok (elim (cases_lt (ones f + ones s) 42) [ inl l ↦ l | inr l ↦ absurd (ne (omega arith)) ]) in
    let c = g.0.column in
    let l = landing_le (held f s) c g.0.row g.2 in
    let r = g.1.1 in
    (c, and_from _ _ (ap is_open o) (and_from _ _ (lt-ltb c 7 g.1.0) (lt-ltb (landing (held f s) c) 6 (omega arith))))

gap_fades : (w k : ℕ) → four_in_line (λ c. not (has_stone w c)) ≡ false → four_in_line (λ c. not (has_stone (bit_or w (2 ^ k)) c)) ≡ false
gap_fades w k h =
    elim (cases_Bool (four_in_line (λ c. not (has_stone (bit_or w (2 ^ k)) c)))) [
      | inl y ↦
          absurd (both_ways _ h (line_more (λ c. not (has_stone (bit_or w (2 ^ k)) c)) (λ c. not (has_stone w c))
          (λ c e. elim (cases_Bool (has_stone w c)) [
            | inl a ↦ absurd (both_ways _ (ap not (stone_kept w k (place c) a)) e)
            | inr a ↦ ap not a
          ]) y))
      | inr y ↦ y
    ]

fade : (f s : ℕ) (t u : Side) (c : Cell) → chance_of f s u ≡ false → chance_of (first_after f s t c) (second_after f s t c) u ≡ false
fade f s First First c h = h
fade f s First Second c h = gap_fades f (place c) h
fade f s Second First c h = gap_fades s (place c) h
fade f s Second Second c h = h

line_gap : (a b : ℕ) → Apart a b → four_in_line (has_stone a) ≡ true → four_in_line (λ c. not (has_stone b c)) ≡ true
line_gap a b ap' h = line_more (has_stone a) (λ c. not (has_stone b c)) (λ c e. ap not (ap' c e)) h

apart_turned : (a b : ℕ) → Apart a b → Apart b a
apart_turned a b h c e = grind (arith, h c, e)

winning : (f s : ℕ) (t : Side) → Settled f s → status_of f s ≡ Won t → chance_of f s t ≡ true
winning f s First ok h = line_gap f s ok.apart (won_test (four_in_line (has_stone f)) (four_in_line (has_stone s)) (eqb (ones f + ones s) 42) First h)
winning f s Second ok h =
    line_gap s f (apart_turned f s ok.apart) (won_test (four_in_line (has_stone f)) (four_in_line (has_stone s)) (eqb (ones f + ones s) 42) Second h)

pub sound : Sound four Good 7
unfolding Good
sound =
    record {
      opens = λ p n c g h. (fit p.first p.second c h).opens;
      step = λ p n c g h. step p n c g h;
      goes_on = λ p n g o. goes p.first p.second n g.0 g.1 o;
      below = λ p n c g h. (fit p.first p.second c h).column;
      fades = λ p n c u g h e. fade p.first p.second p.turn u (target p.first p.second c) e;
      winner = λ p n t g e. winning p.first p.second t g.0 e;
    }

-- ---- the start

no_line : four_in_line (has_stone 0) ≡ false
unfolding in_line windows
no_line = refl

no_stones : (k : ℕ) → stone 0 k ≡ false
no_stones k = stone_no 0 k (bit_at-zero k)

pub settled_start : Settled 0 0
settled_start =
    record {
      first_on = λ k h. absurd (both_ways _ (no_stones k) h);
      second_on = λ k h. absurd (both_ways _ (no_stones k) h);
      apart = λ c h. no_stones (place c);
      rests = λ c l h. absurd (both_ways _ (or_from _ _ (no_stones (place (over c))) (no_stones (place (over c)))) h);
    }

pub no_ones : ones 0 ≡ 0
no_ones = ones-ones 0

good_start : Good start 42
unfolding Good
good_start = let z = no_ones in (settled_start, omega arith)

pub open_start : status_of 0 0 ≡ Open
open_start =
    let z = no_ones in
    let e : eqb (ones 0 + ones 0) 42 ≡ false = ne_eqb (ones 0 + ones 0) 42 (λ d. omega arith) in
    simp (no_line, e)

pub laws : Lawful 7 42 connect_four
laws = lawful four Good 7 sound start 42 (omega arith) good_start open_start
