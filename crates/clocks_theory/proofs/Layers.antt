-- A reading spent through the delay layer, for both sides.
use Rattle.std.proofs.Common.{◌≡◌, ℕ, ◌+◌, ◌-◌, ◌<◌, Bool, true, false, if◌then◌else◌, nat_lt, [], ◌∷◌, sym, refl, ap, ◌∙◌}
use mathlib.Core.Path.{fun_ext}
use Rattle.std.proofs.lemmas.Bool.{lt-ltb}
use Rattle.side.specs.declared.Side.{Side}
use Rattle.side.specs.declared.Side.TheVariants.{First, Second}
use Rattle.side.specs.declared.PerSide.{PerSide}
use Rattle.side.specs.TwoSides.{pick, of_side}
use Rattle.clock.specs.Times.{Times, past, spent}
use Rattle.clocks_theory.specs.Movements.{Lefts, onward, left_after}
use Rattle.clocks_theory.specs.Kinds.{capped, delay, delay_left, delay_times}

-- one side's times go on past a reading, the other's stay
abbrev moved : Times → Side → ℕ → Times
moved times First u s = pick s (onward (times First) u) (times Second)
moved times Second u s = pick s (times First) (onward (times Second) u)

spent_is : (times : Times) (side : Side) (u : ℕ) → spent times side u ≡ moved times side u
spent_is times First u = fun_ext (by (nat_lt u (times First [])))
  where
    by : (b : Bool) (s : Side) → (if b then past times First u else times) s ≡ pick s (if b then (λ us. times First (u ∷ us)) else times First) (times Second)
    by true First = refl
    by true Second = refl
    by false First = refl
    by false Second = refl
spent_is times Second u = fun_ext (by (nat_lt u (times Second [])))
  where
    by : (b : Bool) (s : Side) → (if b then past times Second u else times) s ≡ pick s (times First) (if b then (λ us. times Second (u ∷ us)) else times Second)
    by true First = refl
    by true Second = refl
    by false First = refl
    by false Second = refl

-- in time, the layer goes on past a reading as what lies below goes on past the reading less the delay
own_side : (d : ℕ) (below : Lefts) (u : ℕ) → u < capped (below [] + d) → delay_left d (onward below (u - d)) ≡ (λ us. delay_left d below (u ∷ us))
own_side d below u lt = ap (λ b. left_after (delay d) (if b then onward below (u - d) else below)) (sym (lt-ltb u (capped (below [] + d)) lt))

each_side : (delays : PerSide ℕ) (below : Times) (u : ℕ) (side : Side) → u < capped (below side [] + of_side side delays) → (s : Side) → delay_times delays (moved below side (u - of_side side delays)) s ≡ past (delay_times delays below) side u s
each_side delays below u First lt First = own_side delays.first (below First) u lt
each_side delays below u First lt Second = refl
each_side delays below u Second lt First = refl
each_side delays below u Second lt Second = own_side delays.second (below Second) u lt

pub delay_goes_on : (delays : PerSide ℕ) (below : Times) (side : Side) (u : ℕ) → u < capped (below side [] + of_side side delays) → delay_times delays (spent below side (u - of_side side delays)) ≡ past (delay_times delays below) side u
delay_goes_on delays below side u lt = ap (delay_times delays) (spent_is below side (u - of_side side delays)) ∙ fun_ext (each_side delays below u side lt)
