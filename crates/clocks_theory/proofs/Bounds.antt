-- Each clock's left is 1 to 1,000,000,000, for settings in range.
use Rattle.std.proofs.Common.{ℕ, ◌+◌, ◌-◌, ◌*◌, ◌/◌, ◌<◌, ◌≤◌, min, nat_lt, List, [], mul-le-mul_right, div-lt_iff_lt-mul, mul-le-mul, arith, ltb-false}
use Rattle.std.proofs.lemmas.Bool.{cond_both}
use Rattle.clocks_theory.specs.Movements.{Lefts, Movement, left_after, InBounds}
use Rattle.clocks_theory.specs.Kinds.{capped, plain, plain_left, fischer, fischer_left, bronstein, bronstein_left, Byoyomi, japanese, japanese_left, delay, delay_left}
use Rattle.clocks_theory.proofs.Runs.{kept}

abbrev pub Bounded : ℕ → Type 0
Bounded t = (1 ≤ t) × (t ≤ 1000000000)

bounds : {S : Type 0} (m : Movement S) (P : S → Type 0) → ((s : S) (u : ℕ) → u < m.left s → P s → P (m.next s u)) → ((s : S) → P s → Bounded (m.left s)) → (s : S) → P s → InBounds (left_after m s)
bounds m P step within s h = record { least = λ us. (within _ (kept m P step s us h)).0; most = λ us. (within _ (kept m P step s us h)).1 }

pub plain_bounds : (main : ℕ) → Bounded main → InBounds (plain_left main)
plain_bounds main h = bounds plain Bounded (λ s u lt b. (omega arith, omega arith)) (λ s b. b) main h

pub fischer_step : (increment t u : ℕ) → u < t → Bounded (capped (t - u + increment))
fischer_step increment t u lt = (omega arith, omega arith)

pub fischer_bounds : (main increment : ℕ) → Bounded main → InBounds (fischer_left main increment)
fischer_bounds main increment h = bounds (fischer increment) Bounded (λ s u lt b. fischer_step increment s u lt) (λ s b. b) main h

pub bronstein_bounds : (main d : ℕ) → 1 ≤ main → InBounds (bronstein_left main d)
bronstein_bounds main d h = bounds (bronstein d) Bounded (λ s u lt b. fischer_step (min u d) s u lt) (λ s b. b) (capped (main + d)) (omega arith, omega arith)

-- an in-time reading leaves a period, and neither main time nor periods nor left rise
pub record Lowered (b : ℕ) (t s : Byoyomi) : Type 0 where
  pub left : s.main + s.periods * b ≤ t.main + t.periods * b
  pub main : s.main ≤ t.main
  pub periods : s.periods ≤ t.periods

pub japanese_lowers : (b : ℕ) (t : Byoyomi) (u : ℕ) → Lowered b t ((japanese b).next t u)
japanese_lowers b t u =
    cond_both (nat_lt u t.main) _ _ (Lowered b t)
    (λ e. record { left = omega arith; main = omega arith; periods = omega arith })
    (λ e. let less = mul-le-mul_right {m = t.periods - (u - t.main) / b} {n = t.periods} b (omega arith) in record { left = omega arith; main = omega arith; periods = omega arith })

-- a time below that of all periods does not cost them all
pub periods_lost : (time periods b : ℕ) → 1 ≤ b → time < periods * b → time / b < periods
periods_lost time periods b long lt = (div-lt_iff_lt-mul {k = b} {x = time} {y = periods} long).1 lt

japanese_goes_on : (b : ℕ) (t : Byoyomi) (u : ℕ) → 1 ≤ b → u < t.main + t.periods * b → 1 ≤ t.periods → 1 ≤ ((japanese b).next t u).periods
japanese_goes_on b t u long lt some =
    cond_both (nat_lt u t.main) _ _ (λ (s : Byoyomi). 1 ≤ s.periods)
    (λ e. some)
    (λ e. let past = ltb-false u t.main e in let fewer = periods_lost (u - t.main) t.periods b long (omega arith) in omega arith)

pub japanese_bounds : (main periods b : ℕ) → 1 ≤ periods → 1 ≤ b → main + periods * b ≤ 1000000000 → InBounds (japanese_left main periods b)
japanese_bounds main periods b some long most =
    bounds (japanese b) (λ (t : Byoyomi). (1 ≤ t.periods) × (t.main + t.periods * b ≤ 1000000000))
    (λ t u lt h. (japanese_goes_on b t u long lt h.0, (let low = (japanese_lowers b t u).left in let top = h.1 in omega arith)))
    (λ t h. ((let one = mul-le-mul_right {m = 1} {n = t.periods} b h.0 in omega arith), h.1))
    (record { main = main; periods = periods }) (some, most)

pub delay_bounds : (d : ℕ) (below : Lefts) → InBounds below → InBounds (delay_left d below)
delay_bounds d below h =
    bounds (delay d) (λ (lefts : Lefts). (us : List ℕ) → 1 ≤ lefts us)
    (λ lefts u lt some us. cond_both (nat_lt (u - d) (lefts [])) _ _ (λ (f : Lefts). 1 ≤ f us) (λ e. some _) (λ e. some us))
    (λ lefts some. let one = some [] in (omega arith, omega arith))
    below h.least

pub overtime_most : (periods length : ℕ) → periods ≤ 100 → length ≤ 600000 → periods * length ≤ 60000000
overtime_most periods length few small = mul-le-mul {n₁ = periods} {m₁ = length} {n₂ = 100} {m₂ = 600000} few small
