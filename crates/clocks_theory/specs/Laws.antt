-- What is true of each clock over every list of readings, whatever its settings.
--   PlainLaw       left and all in-time readings together are main
--   FischerLaw     left and all in-time readings together are main and an increment for each of those readings, but for what the cap takes
--   BronsteinLaw   left never rises; what it has lost is what the in-time readings had over the delay
--   byoyomi_after  the main time and the periods left after a list of readings
--   JapaneseLaw    left never rises, nor do main time and periods
--   spent_below    what the layer spends below for a list of readings
--   DelayLaw       left is what lies below, after each in-time reading less the delay, and the delay; never less than that below
--   Laws           all of them
use Rattle.std.specs.Prelude.{◌≡◌, ℕ, ◌+◌, ◌-◌, ◌*◌, ◌≤◌, List, ◌++◌, map, length, sum}
use Rattle.clocks_theory.specs.Movements.{Lefts, InBounds, after, in_time}
use Rattle.clocks_theory.specs.Kinds.{capped, plain, plain_left, fischer, fischer_left, bronstein, bronstein_left, Byoyomi, japanese, japanese_left, delay, delay_left}

abbrev pub PlainLaw : ℕ → Type 0
PlainLaw main = (us : List ℕ) → plain_left main us + sum (in_time plain main us) ≡ main

pub record FischerLaw (main increment : ℕ) : Type 0 where
  pub most : (us : List ℕ) → fischer_left main increment us + sum (in_time (fischer increment) main us) ≤ main + increment * length (in_time (fischer increment) main us)
  pub uncapped : (us : List ℕ) → main + increment * length (in_time (fischer increment) main us) ≤ 1000000000 → fischer_left main increment us + sum (in_time (fischer increment) main us) ≡ main + increment * length (in_time (fischer increment) main us)

pub record BronsteinLaw (main d : ℕ) : Type 0 where
  pub falls : (us vs : List ℕ) → bronstein_left main d (us ++ vs) ≤ bronstein_left main d us
  pub lost : (us : List ℕ) → bronstein_left main d us + sum (map (λ u. u - d) (in_time (bronstein d) (capped (main + d)) us)) ≡ capped (main + d)

abbrev pub byoyomi_after : ℕ → ℕ → ℕ → List ℕ → Byoyomi
byoyomi_after main periods b us = after (japanese b) (record { main = main; periods = periods }) us

pub record JapaneseLaw (main periods b : ℕ) : Type 0 where
  pub falls : (us vs : List ℕ) → japanese_left main periods b (us ++ vs) ≤ japanese_left main periods b us
  pub main_falls : (us vs : List ℕ) → (byoyomi_after main periods b (us ++ vs)).main ≤ (byoyomi_after main periods b us).main
  pub periods_fall : (us vs : List ℕ) → (byoyomi_after main periods b (us ++ vs)).periods ≤ (byoyomi_after main periods b us).periods

abbrev pub spent_below : ℕ → Lefts → List ℕ → List ℕ
spent_below d below us = map (λ u. u - d) (in_time (delay d) below us)

pub record DelayLaw (d : ℕ) (below : Lefts) : Type 0 where
  pub left : (us : List ℕ) → delay_left d below us ≡ capped (below (spent_below d below us) + d)
  pub more : (us : List ℕ) → below (spent_below d below us) ≤ delay_left d below us

pub record Laws : Type 0 where
  pub plain_law : (main : ℕ) → PlainLaw main
  pub fischer_law : (main increment : ℕ) → FischerLaw main increment
  pub bronstein_law : (main d : ℕ) → BronsteinLaw main d
  pub japanese_law : (main periods b : ℕ) → JapaneseLaw main periods b
  pub delay_law : (d : ℕ) (below : Lefts) → InBounds below → DelayLaw d below
