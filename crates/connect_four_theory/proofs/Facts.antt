-- What is true of Connect Four after each legal list of codes.
use Rattle.std.proofs.Common.{◌≡◌, ℕ, ◌+◌, Bool, true, false, cond, eqb, List, [], ◌∷◌, length, Some, None, Decides, sym, refl, ap, ◌∙◌, subst, inl, inr, add_comm, arith, lit≤}
use mathlib.Core.Logic.{∥∥₁_map, ∥∥₁_elim}
use mathlib.Core.HLevel.{⊥_prop}
use lib.Count.{ones, ones_in}
use Rattle.std.proofs.lemmas.Bool.{and_parts, and_from, lt-ltb, eqb-true, eq-eqb, cases_Bool, cases_lt, both_ways}
use Rattle.side.specs.declared.Side.{Side}
use Rattle.side.specs.declared.Side.TheVariants.{First, Second}
use Rattle.side.specs.declared.PerSide.{PerSide}
use Rattle.side.specs.TwoSides.{opponent, pick, of_side, with_side}
use Rattle.rules.specs.declared.Status.{Status}
use Rattle.rules.specs.Plans.{NoWin, is_open, made}
use Rattle.rules.specs.declared.Status.TheVariants.{Open, Won, Drawn}
use Rattle.rules.specs.Machine.{after, all_legal, plan_of, OnWay}
use Rattle.rules.proofs.Sound.{next_on_way, point_of}
use Rattle.rules.proofs.Dead.{no_win, no_win_after}
use Rattle.std.specs.Prelude.{◌&&◌, if◌then◌else◌, nat_lt}
use Rattle.std.specs.Option.{option_map}
use Rattle.board.specs.Windows.{Cell, cell, windows, in_line}
use Rattle.board.proofs.Straight.{in_line_right}
use Rattle.connect_four_theory.specs.Stones.{has_stone, placed, four_in_line, OnBoard}
use Rattle.connect_four_theory.specs.Game.{Position, position, start, held, landing, lowest_free, status_of, status_since, fits, falls_to, target, first_after, second_after, chance_of, four, connect_four, Settled}
use Rattle.connect_four_theory.specs.Facts.{word_of, HasLine, Full, PlacedRight, LandingRight, StonesRight, SettledRight, Made, MadeRight, FullRight, Judged, StatusRight, LegalRight, ChanceRight, ColumnSample}
use Rattle.connect_four_theory.proofs.Falls.{lowest, landing_in, landing_held, landing_free, landing_le, placed_here, placed_other, at_most, free_cell, cell_free, ones_are_stones}
use Rattle.connect_four_theory.proofs.Moves.{Fit, fit, settled_first, settled_second, stepped, open_clear, won_test, drawn_tests, settled_start, open_start, no_ones, laws}

pub placed_right : PlacedRight
placed_right w c i = (placed_here w c, (λ d j ne. placed_other w c d i j ne))

pub landing_right : LandingRight
landing_right p c = (landing_in p c, landing_held p c, landing_free p c)

pub stones_right : StonesRight
stones_right = ones_are_stones

-- ---- what every legal code keeps

-- at most one side has a line
abbrev Single : ℕ → ℕ → Type 0
Single f s = four_in_line (has_stone f) ≡ true → four_in_line (has_stone s) ≡ false

single_more : (f s : ℕ) (t : Side) (c : ℕ) → Fit f s c → Single (first_after f s t (target f s c)) (second_after f s t (target f s c))
single_more f s First c h = λ y. (open_clear f s h.opens).1
single_more f s Second c h = λ y. absurd (both_ways _ (open_clear f s h.opens).0 y)

abbrev Kept : Position → ℕ → Type 0
Kept p n = Settled p.first p.second × Single p.first p.second × (ones p.first + ones p.second ≡ n)

kept_after : (p : Position) (n : ℕ) (w : List ℕ) → Kept p n → all_legal four p w ≡ true → Kept (after four p w) (n + length w)
kept_after p n [] k h = (k.0, k.1, let e = k.2 in omega arith)
kept_after p n (c ∷ w) k h =
    let q = and_parts _ _ h in
    let f = p.first in
    let s = p.second in
    let ok = fit f s c q.0 in
    let x = stepped f s p.turn c k.0 ok in
    let e : ones (four.next p c).first + ones (four.next p c).second ≡ n + 1 = x.1 ∙ ap (λ (m : ℕ). m + 1) k.2 in
    let r = kept_after (four.next p c) (n + 1) w (x.0, single_more f s p.turn c ok, e) q.1 in
    (r.0, r.1, let d = r.2 in omega arith)

kept : (w : List ℕ) → connect_four.legal w ≡ true → Kept (after four start w) (0 + length w)
kept w h = kept_after start 0 w (settled_start, (λ y. (open_clear 0 0 open_start).1), let z = no_ones in omega arith) h

pub settled_right : SettledRight
settled_right w h = (kept w h).0

pub made_right : MadeRight
made_right w h = let e = (kept w h).2 in omega arith

pub made_so : (p : Position) → OnWay four start p → Made p
made_so p way = ∥∥₁_map way (λ x. (x.0, x.1, x.2, ap (λ (q : Position). ones q.first + ones q.second) x.2 ∙ made_right x.0 x.1))

-- ---- a full board

full_is : (p : Position) → Settled p.first p.second → Decides (eqb (ones p.first + ones p.second) 42) (Full p)
full_is p ok = (
  (λ e c i.
      elim (cases_Bool (held p.first p.second c)) [
        | inl y ↦ y
        | inr n ↦ let l = cell_free p.first p.second ok c i n in let d = eqb-true (ones p.first + ones p.second) 42 e in absurd (omega arith)
      ]),
  (λ full.
      elim (cases_lt (ones p.first + ones p.second) 42) [
        | inl l ↦ let g = free_cell p.first p.second ok l in absurd (both_ways _ g.2 (full g.0 g.1))
        | inr l ↦ let m = at_most p.first p.second ok in eq-eqb (ones p.first + ones p.second) 42 (omega arith)
      ]),
)

pub full_right : FullRight
full_right w h = full_is (after four start w) (kept w h).0

-- ---- who has won

has_line : (w : ℕ) → Decides (four_in_line (has_stone w)) (HasLine w)
has_line w = in_line_right 7 6 4 (lit≤ tt) (has_stone w)

no_line : (w : ℕ) → (HasLine w → ⊥) → four_in_line (has_stone w) ≡ false
no_line w none = grind (arith, none, (has_line w).0)

first_won : (f s : ℕ) → four_in_line (has_stone f) ≡ true → status_of f s ≡ Won First
first_won f s e = simp e

not_first : (f s : ℕ) → four_in_line (has_stone f) ≡ false → status_of f s ≡ cond (four_in_line (has_stone s)) (Won Second) (cond (eqb (ones f + ones s) 42) Drawn Open)
not_first f s e = simp e

second_won : (f s : ℕ) → Single f s → four_in_line (has_stone s) ≡ true → status_of f s ≡ Won Second
second_won f s one e = grind (arith, one, e)

neither : (f s : ℕ) → four_in_line (has_stone f) ≡ false → four_in_line (has_stone s) ≡ false → status_of f s ≡ cond (eqb (ones f + ones s) 42) Drawn Open
neither f s x y = simp (x, y)

won_line : (p : Position) (side : Side) → status_of p.first p.second ≡ Won side → four_in_line (has_stone (word_of side p)) ≡ true
won_line p First e = won_test (four_in_line (has_stone p.first)) (four_in_line (has_stone p.second)) (eqb (ones p.first + ones p.second) 42) First e
won_line p Second e = won_test (four_in_line (has_stone p.first)) (four_in_line (has_stone p.second)) (eqb (ones p.first + ones p.second) 42) Second e

line_won : (p : Position) (side : Side) → Single p.first p.second → four_in_line (has_stone (word_of side p)) ≡ true → status_of p.first p.second ≡ Won side
line_won p First one e = first_won p.first p.second e
line_won p Second one e = second_won p.first p.second one e

side_test : (f s : ℕ) → four_in_line (has_stone f) ≡ false → four_in_line (has_stone s) ≡ false → (side : Side) → four_in_line (has_stone (pick side f s)) ≡ false
side_test f s a b First = a
side_test f s a b Second = b

judged_here : (p : Position) → Settled p.first p.second → Single p.first p.second → Judged p (status_of p.first p.second)
judged_here p ok one =
    let f = p.first in
    let s = p.second in (
      (λ side. ((λ e. (has_line (word_of side p)).0 (won_line p side e)), (λ l. line_won p side one ((has_line (word_of side p)).1 l)))),
      (λ e.
          let t = drawn_tests (four_in_line (has_stone f)) (four_in_line (has_stone s)) (eqb (ones f + ones s) 42) e in
          ((full_is p ok).0 t.2, (λ side l. both_ways _ (side_test f s t.0 t.1 side) ((has_line (word_of side p)).1 l)))),
      (λ full none. neither f s (no_line f (none First)) (no_line s (none Second)) ∙ ap (λ (b : Bool). cond b Drawn Open) ((full_is p ok).1 full)),
    )

pub status_right : StatusRight
status_right w h = let k = kept w h in judged_here (after four start w) k.0 k.1

single_here : (p : Position) → OnWay four start p → Single p.first p.second
single_here p way y =
    elim (cases_Bool (four_in_line (has_stone p.second))) [
      | inl z ↦ absurd (∥∥₁_elim way ⊥_prop (λ x. both_ways _ (subst (λ (q : Position). Single q.first q.second) (sym x.2) (kept x.0 x.1).1 y) z))
      | inr n ↦ n
    ]

pub judged_so : (p : Position) → Settled p.first p.second → OnWay four start p → (status : Status) → status ≡ status_of p.first p.second → Judged p status
judged_so p ok way status e = subst (Judged p) (sym e) (judged_here p ok (single_here p way))

pub legal_right : LegalRight
legal_right p code =
    let taken = held p.first p.second in (
      (λ e.
          let h = fit p.first p.second code e in
          (h.opens, h.column, (landing taken code, h.row, landing_free taken code h.row))),
      (λ g.
          let l = landing_le taken code g.2.0 g.2.2 in
          let r = g.2.1 in
          and_from _ _ (ap is_open g.0) (and_from _ _ (lt-ltb code 7 g.1) (lt-ltb (landing taken code) 6 (omega arith)))),
    )

pub chance_right : ChanceRight
chance_right w side e = no_win_after 7 42 connect_four laws w side e

pub column_wins : ColumnSample
unfolding windows in_line landing ones ones_in
column_wins = (refl, refl)

-- ---- the status after a code that fits: the other side, which had no line, has none

pub since_first : (f s g : ℕ) → status_of f s ≡ Open → status_of g s ≡ status_since First g s
since_first f s g o = let t = (open_clear f s o).1 in simp t

pub since_second : (f s g : ℕ) → status_of f s ≡ Open → status_of f g ≡ status_since Second g f
since_second f s g o = let t = (open_clear f s o).0 in let c = add_comm (ones f) (ones g) in simp (t, c)

-- ---- what a legal code leaves

pub record Laid (p : PerSide ℕ) (turn : Side) (status : Status) : Type 0 where
  pub settled : Settled p.first p.second
  pub judged : status ≡ status_of p.first p.second
  pub way : OnWay four start (position p turn)

pub laid : (p : PerSide ℕ) (turn : Side) (c : ℕ) → Settled p.first p.second → fits p.first p.second c ≡ true → OnWay four start (position p turn)
    → let own = placed (of_side turn p) (target p.first p.second c) in
    Laid (with_side turn own p) (opponent turn) (status_since turn own (of_side (opponent turn) p))
laid p First c ok legal way =
    let h = fit p.first p.second c legal in
    record {
      settled = settled_first p.first p.second c ok h;
      judged = sym (since_first p.first p.second (placed p.first (target p.first p.second c)) h.opens);
      way = next_on_way four start (position p First) c way legal;
    }
laid p Second c ok legal way =
    let h = fit p.first p.second c legal in
    record {
      settled = settled_second p.first p.second c ok h;
      judged = sym (since_second p.first p.second (placed p.second (target p.first p.second c)) h.opens);
      way = next_on_way four start (position p Second) c way legal;
    }

pub laid_line : (p : PerSide ℕ) (turn : Side) (c : ℕ) → fits p.first p.second c ≡ true
    → plan_of four (position (with_side turn (placed (of_side turn p) (target p.first p.second c)) p) (opponent turn)) ≡ made (plan_of four (position p turn)) c
laid_line p First c legal = simp legal
laid_line p Second c legal = simp legal

-- ---- the cell that a stone falls to

open_falls : (a b : Bool) (c r : ℕ) → a ≡ true → (if b then Some (cell c r) else None) ≡ option_map (cell c) (cond (a && b) (Some r) None)
open_falls true true c r e = refl
open_falls true false c r e = refl
open_falls false b c r e = absurd (both_ways false refl e)

pub open_target : (f s c : ℕ) → status_of f s ≡ Open → lowest_free (held f s) c ≡ option_map (cell c) (falls_to f s c)
open_target f s c o = lowest (held f s) c ∙ open_falls (is_open (status_of f s)) (nat_lt c 7 && nat_lt (landing (held f s) c) 6) c (landing (held f s) c) (ap is_open o)

pub falls_none : (f s c : ℕ) → None ≡ falls_to f s c → fits f s c ≡ false
falls_none f s c e =
    elim (cases_Bool (fits f s c)) [
      | inl y ↦ absurd (grind (arith, y, e))
      | inr n ↦ n
    ]

pub some_target : (f s c : ℕ) (d : Cell) → Some d ≡ option_map (cell c) (falls_to f s c) → (fits f s c ≡ true) × (d ≡ target f s c)
some_target f s c d e =
    elim (cases_Bool (fits f s c)) [
      | inl y ↦ (y, grind (arith, y, e))
      | inr n ↦ absurd (grind (arith, n, e))
    ]

-- ---- the side that is meant

pub on_pick : (side : Side) (f s : ℕ) → OnBoard f → OnBoard s → OnBoard (pick side f s)
on_pick First f s a b = a
on_pick Second f s a b = b

pub on_side : (side : Side) (p : PerSide ℕ) → Settled p.first p.second → OnBoard (of_side side p)
on_side First p ok = ok.first_on
on_side Second p ok = ok.second_on

pub other_words : (side : Side) (p : PerSide ℕ) → of_side (opponent side) p ≡ pick side p.second p.first
other_words First p = refl
other_words Second p = refl

-- ---- a side without a chance

pub no_chance : (p : PerSide ℕ) (turn : Side) → OnWay four start (position p turn) → (side : Side)
    → chance_of p.first p.second side ≡ false → NoWin (plan_of four (position p turn)) side
no_chance p turn way side e = no_win 7 42 connect_four (plan_of four (position p turn)) laws (point_of four start (position p turn) way) side e
