-- The start of a game: heaps that are not there may stand as empty ones, and counters are taken, never lost.
use Rattle.std.proofs.Common.{◌≡◌, ℕ, zero, suc, ◌+◌, ◌-◌, ◌*◌, ◌/◌, ◌%◌, ◌<◌, ◌≤◌, Bool, true, if◌then◌else◌, ◌&&◌, nat_lt, nat_le, List, [], ◌∷◌, ◌++◌, length, set, replicate, sym, refl, ap, ◌∙◌, ap₂, arith}
use mathlib.Core.Path.{fun_ext}
use Rattle.std.proofs.lemmas.Bool.{and_parts, and_from, leb-true}
use Rattle.std.proofs.lemmas.List.Sums.{sum_by-cons, sum_by-append}
use Rattle.std.proofs.lemmas.List.Folds.{sum_by-replicate}
use Rattle.std.proofs.lemmas.List.{length-append, length-replicate}
use Rattle.std.proofs.lemmas.Nat.{mod-mul-add}
use Rattle.side.specs.declared.Side.{Side}
use Rattle.side.specs.declared.Side.TheVariants.{First}
use Rattle.side.specs.TwoSides.{opponent}
use Rattle.rules.specs.Plans.{Lawful, Exact}
use Rattle.rules.specs.Machine.{after}
use Rattle.rules.proofs.Sound.{lawful, exact_after}
use Rattle.nim_theory.specs.Nim.{Position, at, counters, filled, take_of, held, fits, taken, status_of, chance_of, nim, plan_at, nim_plan, sizes, allowed, takes, Conserves, Made, MostCodes, OnTheWay, Counted}
use Rattle.nim_theory.proofs.Counts.{Good, sound, kept, some_open, some_heap, code_fits, fit, change}

-- the same heaps, with empty ones after them
abbrev pub padded : List ℕ → ℕ → List ℕ
padded hs n = hs ++ replicate n 0

pub counters_padded : (hs : List ℕ) (n : ℕ) → counters (padded hs n) ≡ counters hs
counters_padded hs n = let a = sum_by-append (λ x. x) hs (replicate n 0) in let z = sum_by-replicate (λ x. x) n 0 in omega arith

filled_padded : (hs : List ℕ) (n : ℕ) → filled (padded hs n) ≡ filled hs
filled_padded hs n =
    let f : ℕ → ℕ = λ h. if nat_lt 0 h then 1 else 0 in
    let a = sum_by-append f hs (replicate n 0) in let z = sum_by-replicate f n 0 in omega arith

held_none : (n i : ℕ) → held (replicate n 0) i ≡ 0
held_none zero i = refl
held_none (suc n) zero = refl
held_none (suc n) (suc i) = held_none n i

held_padded : (hs : List ℕ) (n i : ℕ) → held (padded hs n) i ≡ held hs i
held_padded [] n i = held_none n i
held_padded (h ∷ hs) n zero = refl
held_padded (h ∷ hs) n (suc i) = held_padded hs n i

less_none : (n i t : ℕ) → set (replicate n 0) i (held (replicate n 0) i - t) ≡ replicate n 0
less_none zero i t = refl
less_none (suc n) zero t = let z : 0 - t ≡ 0 = omega arith in ap (λ (x : ℕ). x ∷ replicate n 0) z
less_none (suc n) (suc i) t = ap (λ (xs : List ℕ). 0 ∷ xs) (less_none n i t)

less_padded : (hs : List ℕ) (n i t : ℕ) → set (padded hs n) i (held (padded hs n) i - t) ≡ padded (set hs i (held hs i - t)) n
less_padded [] n i t = less_none n i t
less_padded (h ∷ hs) n zero t = refl
less_padded (h ∷ hs) n (suc i) t = ap (λ (xs : List ℕ). h ∷ xs) (less_padded hs n i t)

-- empty heaps change nothing that the game says
same_legal : (hs : List ℕ) (n : ℕ) (t : Side) (w : List ℕ) → (plan_at (padded hs n) t).legal w ≡ (plan_at hs t).legal w
same_legal hs n t [] = refl
same_legal hs n t (c ∷ w) =
    ap₂ (λ (a b : Bool). a && b)
    (ap (λ (k : ℕ). nat_le 1 (take_of c) && nat_le (take_of c) k) (held_padded hs n (c / 32)))
    (ap (λ (gs : List ℕ). (plan_at gs (opponent t)).legal w) (less_padded hs n (c / 32) (c % 32)) ∙ same_legal (taken hs c) n (opponent t) w)

same_after : (hs : List ℕ) (n : ℕ) (t : Side) (w : List ℕ)
    → after nim (at (padded hs n) t) w ≡ at (padded (after nim (at hs t) w).heaps n) (after nim (at hs t) w).turn
same_after hs n t [] = refl
same_after hs n t (c ∷ w) =
    ap (λ (gs : List ℕ). after nim (at gs (opponent t)) w) (less_padded hs n (c / 32) (c % 32)) ∙ same_after (taken hs c) n (opponent t) w

same_status : (p : Position) (n : ℕ) → status_of (padded p.heaps n) p.turn ≡ status_of p.heaps p.turn
same_status p n = rw counters_padded refl

same_chance : (p : Position) (n : ℕ) (s : Side) → chance_of (padded p.heaps n) p.turn s ≡ chance_of p.heaps p.turn s
same_chance p n s = rw (counters_padded, filled_padded) refl

pub same_plan : (hs : List ℕ) (n : ℕ) (t : Side) → plan_at (padded hs n) t ≡ plan_at hs t
same_plan hs n t = λ i. record {
  legal = fun_ext (same_legal hs n t) i;
  status = fun_ext (λ w. ap nim.status (same_after hs n t w) ∙ same_status (after nim (at hs t) w) n) i;
  chance = fun_ext (λ w. fun_ext (λ s. ap (λ (p : Position). nim.chance p s) (same_after hs n t w) ∙ same_chance (after nim (at hs t) w) n s)) i;
}

-- heaps that are allowed hold 1 to 248 counters
sizes_sum : (hs : List ℕ) → sizes hs ≡ true → (length hs ≤ counters hs) × (counters hs ≤ 31 * length hs)
sizes_sum [] e = (omega arith, omega arith)
sizes_sum (h ∷ hs) e =
    let p = and_parts _ _ e in
    let q = and_parts _ _ p.0 in
    let a = leb-true 1 h q.0 in
    let b = leb-true h 31 q.1 in
    let r = sizes_sum hs p.1 in
    let r0 = r.0 in
    let r1 = r.1 in
    let s : counters (h ∷ hs) ≡ h + counters hs = sum_by-cons _ h hs in
    (omega arith, omega arith)

pub record Sizes (hs : List ℕ) : Type 0 where
  pub at_most : length hs ≤ 8
  pub some : 0 < counters hs
  pub few : counters hs ≤ 248

pub sized : (hs : List ℕ) → allowed hs ≡ true → Sizes hs
sized hs e =
    let p = and_parts _ _ e in
    let q = and_parts _ _ p.0 in
    let a = leb-true 1 (length hs) q.0 in
    let b = leb-true (length hs) 8 q.1 in
    let r = sizes_sum hs p.1 in
    let r0 = r.0 in
    let r1 = r.1 in
    record { at_most = omega arith; some = omega arith; few = omega arith }

-- what is left and what was taken are what there was
conserved : (hs : List ℕ) (t : Side) (w : List ℕ) → (plan_at hs t).legal w ≡ true → counters (after nim (at hs t) w).heaps + takes w ≡ counters hs
conserved hs t [] h = omega arith
conserved hs t (c ∷ w) h =
    let q = and_parts _ _ h in
    let k = (change hs c (fit hs c q.0)).fewer in
    let i = conserved (taken hs c) (opponent t) w q.1 in
    let s : takes (c ∷ w) ≡ c % 32 + takes w = sum_by-cons _ c w in
    omega arith

each_takes : (hs : List ℕ) (t : Side) (w : List ℕ) → (plan_at hs t).legal w ≡ true → length w ≤ takes w
each_takes hs t [] h = omega arith
each_takes hs t (c ∷ w) h =
    let q = and_parts _ _ h in
    let k = (fit hs c q.0).some in
    let i = each_takes (taken hs c) (opponent t) w q.1 in
    let s : takes (c ∷ w) ≡ c % 32 + takes w = sum_by-cons _ c w in
    omega arith

-- one counter at a time
drained : (n : ℕ) (hs : List ℕ) (t : Side) → counters hs ≡ n → (w : List ℕ) × ((plan_at hs t).legal w ≡ true) × (length w ≡ n)
drained zero hs t e = ([], refl, refl)
drained (suc n) hs t e =
    let r = some_heap hs (omega arith) in
    let c = r.0 * 32 + 1 in
    let h = code_fits hs r.0 1 (omega arith) (omega arith) r.2 in
    let k = (change hs c (fit hs c h)).fewer in
    let m = mod-mul-add r.0 32 1 (omega arith) in
    let i = drained n (taken hs c) (opponent t) (omega arith) in
    let l = i.2 in
    (c ∷ i.0, and_from (fits hs c) ((plan_at (taken hs c) (opponent t)).legal i.0) h i.1, omega arith)

pub most_codes : (hs : List ℕ) (t : Side) (n : ℕ) → n ≡ counters hs → MostCodes (plan_at hs t) n
most_codes hs t n e = record {
  some = drained n hs t (sym e);
  most = λ w h. let a = conserved hs t w h in let b = each_takes hs t w h in omega arith;
}

conserves : (hs : List ℕ) → Conserves hs
conserves hs = record {
  counted = λ w h. conserved hs First w h;
  short = λ w h. let a = conserved hs First w h in let b = each_takes hs First w h in omega arith;
}

pub counted_on_way : (start heaps : List ℕ) (t : Side) (left : ℕ) → left ≡ counters heaps → OnTheWay start heaps t → Counted start heaps t left
counted_on_way start heaps t left e way = record {
  some = way;
  each = λ w h x.
      let a = conserved start First w h in
      let b : counters heaps ≡ counters (after nim (at start First) w).heaps = ap (λ (p : Position). counters p.heaps) x in
      omega arith;
}

pub laws : (start : List ℕ) → length start ≡ 8 → 0 < counters start → counters start ≤ 248 → Lawful 256 248 (nim_plan start)
unfolding Good
laws start l s f = lawful nim Good 256 sound (at start First) 248 (omega arith) (omega arith, f) (some_open start First s)

pub plan_exact : (start : List ℕ) → length start ≡ 8 → Exact (nim_plan start)
unfolding Good
plan_exact start l w s h = exact_after nim Good 256 sound kept (at start First) (counters start) s w (omega arith, omega arith) h

-- eight heaps, those past the given ones empty
pub all_eight : (hs : List ℕ) → length hs ≤ 8 → length (padded hs (8 - length hs)) ≡ 8
all_eight hs l = simp (length-append, length-replicate) (omega arith)

pub made : (hs start : List ℕ) → length hs ≤ 8 → start ≡ padded hs (8 - length hs) → Made hs start start First
made hs start l e =
    let p : nim_plan start ≡ nim_plan hs = ap nim_plan e ∙ same_plan hs (8 - length hs) First in
    record {
      plan = p;
      line = p;
      exact = plan_exact start (ap length e ∙ all_eight hs l);
      conserves = conserves hs;
    }
