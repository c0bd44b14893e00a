-- What one code does to the counts of a position of Nim, and the laws from it.
use Rattle.std.proofs.Common.{◌≡◌, ℕ, zero, suc, ◌+◌, ◌-◌, ◌*◌, ◌/◌, ◌%◌, ◌<◌, ◌≤◌, true, false, if◌then◌else◌, nat_lt, ◌↔◌, IsTrue, List, [], ◌∷◌, length, set, sym, refl, ap, ◌∙◌, inl, inr, arith}
use Rattle.std.proofs.lemmas.Bool.{and_parts, and_from, leb-true, le-leb, cases_Bool, cases_lt, cases_eq}
use Rattle.std.proofs.lemmas.List.Sums.{sum_by-cons, sum_by-set}
use Rattle.std.proofs.lemmas.List.{length-set, get_or_past}
use Rattle.std.proofs.lemmas.Nat.{div-mul-add, mod-mul-add}
use Rattle.side.specs.declared.Side.{Side}
use Rattle.side.specs.declared.Side.TheVariants.{First, Second}
use Rattle.rules.specs.declared.Status.TheVariants.{Open, Won}
use Rattle.side.specs.TwoSides.{opponent, same_side}
use Rattle.rules.specs.Plans.{Winnable}
use Rattle.rules.proofs.Sound.{Sound, Kept, exact}
use Rattle.nim_theory.specs.Nim.{Position, at, counters, filled, held, fits, taken, status_of, by_parity, chance_of, nim, plan_at}

-- 1 where a heap holds something
pub one : ℕ → ℕ
one h = if nat_lt 0 h then 1 else 0

one_some : (h : ℕ) → 0 < h → one h ≡ 1
unfolding one
one_some h l = grind arith

one_le : (h : ℕ) → one h ≤ h
unfolding one
one_le h = grind arith

pub filled_le : (hs : List ℕ) → filled hs ≤ counters hs
unfolding one
filled_le [] = omega arith
filled_le (h ∷ hs) =
    let a : filled (h ∷ hs) ≡ one h + filled hs = sum_by-cons _ h hs in
    let b : counters (h ∷ hs) ≡ h + counters hs = sum_by-cons _ h hs in
    let i = filled_le hs in
    let j = one_le h in
    omega arith

-- the counts after a heap is set
counters_set : (hs : List ℕ) (i y : ℕ) → i < length hs → counters (set hs i y) + held hs i ≡ counters hs + y
counters_set hs i y l = sum_by-set (λ x. x) hs i y 0 l

filled_set : (hs : List ℕ) (i y : ℕ) → i < length hs → filled (set hs i y) + one (held hs i) ≡ filled hs + one y
unfolding one
filled_set hs i y l = sum_by-set (λ x. if nat_lt 0 x then 1 else 0) hs i y 0 l

-- some heap has at least one, and some at least two where counters outnumber the heaps that hold some
pub some_heap : (hs : List ℕ) → 0 < counters hs → (i : ℕ) × (i < length hs) × (0 < held hs i)
some_heap [] h = absurd (omega arith)
some_heap (zero ∷ hs) h =
    let b : counters (0 ∷ hs) ≡ 0 + counters hs = sum_by-cons _ 0 hs in
    let r = some_heap hs (omega arith) in
    (suc r.0, (let l = r.1 in omega arith), r.2)
some_heap (suc x ∷ hs) h = (0, omega arith, omega arith)

one_small : (h : ℕ) → h ≤ 1 → one h ≡ h
unfolding one
one_small h l = grind arith

two_heap : (hs : List ℕ) → filled hs < counters hs → (i : ℕ) × (i < length hs) × (1 < held hs i)
unfolding one
two_heap [] h = absurd (omega arith)
two_heap (x ∷ hs) h =
    let a : filled (x ∷ hs) ≡ one x + filled hs = sum_by-cons _ x hs in
    let b : counters (x ∷ hs) ≡ x + counters hs = sum_by-cons _ x hs in
    elim (cases_lt 1 x) [
      | inl l ↦ (0, omega arith, l)
      | inr l ↦
          let r = two_heap hs (let e = one_small x l in omega arith) in
          (suc r.0, (let k = r.1 in omega arith), r.2)
    ]

-- a code that fits
pub record Fit (hs : List ℕ) (c : ℕ) : Type 0 where
  pub some : 0 < c % 32
  pub held : c % 32 ≤ held hs (c / 32)
  pub inside : c / 32 < length hs

pub fit : (hs : List ℕ) (c : ℕ) → fits hs c ≡ true → Fit hs c
fit hs c h =
    let p = and_parts _ _ h in
    let a = leb-true 1 (c % 32) p.0 in
    let b = leb-true (c % 32) (held hs (c / 32)) p.1 in
    let l : c / 32 < length hs =
    elim (cases_lt (c / 32) (length hs)) [ inl l ↦ l | inr l ↦ let e = get_or_past hs (c / 32) 0 l in absurd (omega arith) ] in
    record { some = a; held = b; inside = l }

-- what a code that fits does to the counts
pub record Change (hs : List ℕ) (c : ℕ) : Type 0 where
  pub fewer : counters (taken hs c) + c % 32 ≡ counters hs
  pub heaps : filled (taken hs c) + 1 ≡ filled hs + one (held hs (c / 32) - c % 32)
  pub room : filled (taken hs c) ≤ counters (taken hs c)

pub change : (hs : List ℕ) (c : ℕ) → Fit hs c → Change hs c
change hs c f =
    let i = f.inside in
    let k = f.held in
    let z = f.some in
    let a = counters_set hs (c / 32) (held hs (c / 32) - c % 32) i in
    let b = filled_set hs (c / 32) (held hs (c / 32) - c % 32) i in
    let o = one_some (held hs (c / 32)) (omega arith) in
    record { fewer = omega arith; heaps = omega arith; room = filled_le (taken hs c) }

-- the code that takes t from heap i
pub code_fits : (hs : List ℕ) (i t : ℕ) → t < 32 → 0 < t → t ≤ held hs i → fits hs (i * 32 + t) ≡ true
code_fits hs i t l z h =
    let d = div-mul-add i 32 t l in
    let m = mod-mul-add i 32 t l in
    and_from _ _ (le-leb 1 ((i * 32 + t) % 32) (omega arith))
    (rw (d, m) (le-leb t (held hs i) h))

parity_step : (n : ℕ) (t : Side) → by_parity (suc n) t ≡ by_parity n (opponent t)
parity_step n First = grind arith
parity_step n Second = grind arith

parity_other : (n : ℕ) (t : Side) → by_parity (suc n) t ≡ opponent (by_parity n t)
parity_other n First = grind arith
parity_other n Second = grind arith

pub same_self : (s : Side) → same_side s s ≡ true
same_self First = refl
same_self Second = refl

same_other : (a b : Side) → same_side (opponent a) b ≡ false → same_side a b ≡ true
same_other First First e = refl
same_other First Second e = sym e
same_other Second First e = sym e
same_other Second Second e = refl

pub chance_more : (hs : List ℕ) (t s : Side) → filled hs < counters hs → chance_of hs t s ≡ true
chance_more hs t s l = grind arith

pub chance_even : (hs : List ℕ) (t s : Side) (n : ℕ) → filled hs ≡ n → counters hs ≤ n → chance_of hs t s ≡ same_side (by_parity n t) s
chance_even hs t s n e l = grind arith

-- ---- the facts of single positions

unfoldable pub Good : Position → ℕ → Type 0
Good p n = (length p.heaps ≤ 8) × (counters p.heaps ≤ n)

open_some : (hs : List ℕ) (t : Side) → status_of hs t ≡ Open → 0 < counters hs
open_some hs t e = grind arith

pub some_open : (hs : List ℕ) (t : Side) → 0 < counters hs → status_of hs t ≡ Open
some_open hs t l = grind arith

none_won : (hs : List ℕ) (t : Side) → counters hs ≡ 0 → status_of hs t ≡ Won (opponent t)
none_won hs t z = grind arith

won_none : (hs : List ℕ) (t s : Side) → status_of hs t ≡ Won s → (counters hs ≡ 0) × (opponent t ≡ s)
won_none hs t s e =
    elim (cases_eq (counters hs) 0) [
      | inl z ↦ let f = none_won hs t z in (z, cc)
      | inr z ↦
          let f = some_open hs t (omega arith) in
          cc
    ]

won_chance : (hs : List ℕ) (t s : Side) → status_of hs t ≡ Won s → chance_of hs t s ≡ true
won_chance hs t s e =
    let w = won_none hs t s e in
    let z = w.0 in
    let l = filled_le hs in
    chance_even hs t s 0 (omega arith) (omega arith) ∙ ap (λ (x : Side). same_side x s) w.1 ∙ same_self s

same_is : (a b : Side) → same_side a b ≡ true → a ≡ b
same_is First First e = refl
same_is First Second e = cc
same_is Second First e = cc
same_is Second Second e = refl

even_won : (hs : List ℕ) (t s : Side) → counters hs ≡ 0 → chance_of hs t s ≡ true → status_of hs t ≡ Won s
even_won hs t s z e =
    let l = filled_le hs in
    none_won hs t z ∙ ap Won (same_is (opponent t) s (sym (chance_even hs t s 0 (omega arith) (omega arith)) ∙ e))

-- where every heap holds at most one, a code takes one counter, and the side that wins stays
even_step : (hs : List ℕ) (t s : Side) (c : ℕ) → Fit hs c → counters hs ≤ filled hs → chance_of (taken hs c) (opponent t) s ≡ chance_of hs t s
even_step hs t s c f l =
    let k = change hs c f in
    let a = k.fewer in
    let b = k.heaps in
    let r = k.room in
    let g = f.some in
    let u = filled_le hs in
    chance_even (taken hs c) (opponent t) s (filled (taken hs c)) refl (omega arith)
    ∙ ap (λ (x : Side). same_side x s) (sym (parity_step (filled (taken hs c)) t))
    ∙ sym (chance_even hs t s (suc (filled (taken hs c))) (omega arith) (omega arith))

fade : (hs : List ℕ) (t s : Side) (c : ℕ) → fits hs c ≡ true → chance_of hs t s ≡ false → chance_of (taken hs c) (opponent t) s ≡ false
fade hs t s c h e =
    elim (cases_lt (filled hs) (counters hs)) [
      | inl l ↦ let f = chance_more hs t s l in cc
      | inr l ↦ even_step hs t s c (fit hs c h) l ∙ e
    ]

pub sound : Sound nim Good 256
unfolding Good
sound =
    record {
      opens = λ p n c g h.
          let f = fit p.heaps c h in
          let k = (change p.heaps c f).fewer in
          let z = f.some in
          some_open p.heaps p.turn (omega arith);
      step = λ p n c g h.
          let f = fit p.heaps c h in
          let k = (change p.heaps c f).fewer in
          let z = f.some in
          let a = g.1 in
          (counters (taken p.heaps c), omega arith, (rw length-set g.0, omega arith));
      goes_on = λ p n g o.
          let r = some_heap p.heaps (open_some p.heaps p.turn o) in
          (r.0 * 32 + 1, code_fits p.heaps r.0 1 (omega arith) (omega arith) r.2);
      below = λ p n c g h. let i = (fit p.heaps c h).inside in let l = g.0 in omega arith;
      fades = λ p n c s g h e. fade p.heaps p.turn s c h e;
      winner = λ p n s g e. won_chance p.heaps p.turn s e;
    }

-- ---- a chance is kept by some code

pub Keeps : List ℕ → Side → Side → Type 0
Keeps hs t s = (c : ℕ) × (fits hs c ≡ true) × (chance_of (taken hs c) (opponent t) s ≡ true)

keep_even : (hs : List ℕ) (t s : Side) → 0 < counters hs → counters hs ≤ filled hs → chance_of hs t s ≡ true → Keeps hs t s
unfolding Keeps
keep_even hs t s z l e =
    let r = some_heap hs z in
    let h = code_fits hs r.0 1 (omega arith) (omega arith) r.2 in
    (r.0 * 32 + 1, h, even_step hs t s (r.0 * 32 + 1) (fit hs (r.0 * 32 + 1) h) l ∙ e)

-- at a heap of two or more
keep_more : (hs : List ℕ) (t s : Side) (i : ℕ) → i < length hs → 1 < held hs i → Keeps hs t s
unfolding Keeps
keep_more hs t s i l h =
    let x = held hs i in
    let d1 = div-mul-add i 32 1 (omega arith) in
    let m1 = mod-mul-add i 32 1 (omega arith) in
    let f1 = code_fits hs i 1 (omega arith) (omega arith) (omega arith) in
    let k1 = change hs (i * 32 + 1) (fit hs (i * 32 + 1) f1) in
    let a1 = k1.fewer in
    let b1 = k1.heaps in
    let e1 : held hs ((i * 32 + 1) / 32) ≡ x = ap (λ (j : ℕ). held hs j) d1 in
    let o1 : one (held hs ((i * 32 + 1) / 32) - (i * 32 + 1) % 32) ≡ 1 = one_some (held hs ((i * 32 + 1) / 32) - (i * 32 + 1) % 32) (omega arith) in
    elim (cases_lt (filled (taken hs (i * 32 + 1))) (counters (taken hs (i * 32 + 1)))) [
      | inl q ↦ (i * 32 + 1, f1, chance_more (taken hs (i * 32 + 1)) (opponent t) s q)
      | inr q ↦
          elim (cases_Bool (chance_of (taken hs (i * 32 + 1)) (opponent t) s)) [
            | inl y ↦ (i * 32 + 1, f1, y)
            | inr n ↦
                let d2 = div-mul-add i 32 2 (omega arith) in
                let m2 = mod-mul-add i 32 2 (omega arith) in
                let f2 = code_fits hs i 2 (omega arith) (omega arith) (omega arith) in
                let k2 = change hs (i * 32 + 2) (fit hs (i * 32 + 2) f2) in
                let a2 = k2.fewer in
                let b2 = k2.heaps in
                let r2 = k2.room in
                let e2 : held hs ((i * 32 + 2) / 32) ≡ x = ap (λ (j : ℕ). held hs j) d2 in
                let o2 = one_le (held hs ((i * 32 + 2) / 32) - (i * 32 + 2) % 32) in
                let n1 = sym (chance_even (taken hs (i * 32 + 1)) (opponent t) s (suc (filled (taken hs (i * 32 + 2)))) (omega arith) (omega arith)) ∙ n in
                let n2 = ap (λ (y : Side). same_side y s) (sym (parity_other (filled (taken hs (i * 32 + 2))) (opponent t))) ∙ n1 in (
                  i * 32 + 2,
                  f2,
                  chance_even (taken hs (i * 32 + 2)) (opponent t) s (filled (taken hs (i * 32 + 2))) refl (omega arith)
                      ∙ same_other (by_parity (filled (taken hs (i * 32 + 2))) (opponent t)) s n2,
                )
          ]
    ]

pub kept : Kept nim Good
unfolding Keeps
kept p n s g e =
    elim (cases_eq (counters p.heaps) 0) [
      | inl z ↦ inl (even_won p.heaps p.turn s z e)
      | inr z ↦
          elim (cases_lt (filled p.heaps) (counters p.heaps)) [
            | inl l ↦ let r = two_heap p.heaps l in inr (keep_more p.heaps p.turn s r.0 r.1 r.2)
            | inr l ↦ inr (keep_even p.heaps p.turn s (omega arith) l e)
          ]
    ]

pub chance_exact : (hs : List ℕ) (t s : Side) → length hs ≡ 8 → IsTrue (chance_of hs t s) ↔ Winnable (plan_at hs t) s
unfolding Good
chance_exact hs t s l = exact nim Good 256 sound kept (at hs t) (counters hs) s (omega arith, omega arith)
