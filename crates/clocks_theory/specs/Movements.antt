-- How the time of one side goes: reading by reading, and over a whole list of readings.
--   Lefts       what is left after each list of earlier readings
--   onward      the lefts once a reading is spent; one of all that is left or more changes nothing
--   InBounds    law of lefts: 1 to 1,000,000,000
--   Passes      law of lefts: a reading that is not in time is passed over
--   Movement    what is left in a state, and the state that an in-time reading makes of it
--   stepped     the state after a reading; one of all that is left or more is passed over
--   after       the state after a list of readings
--   left_after  what is left then
--   in_time     those of a list of readings that are in time
use Rattle.std.specs.Prelude.{◌≡◌, ℕ, ◌≤◌, if◌then◌else◌, List, [], ◌∷◌, ◌++◌, nat_lt}

abbrev pub Lefts : Type 0
Lefts = List ℕ → ℕ

abbrev pub onward : Lefts → ℕ → Lefts
onward lefts u = if nat_lt u (lefts []) then (λ us. lefts (u ∷ us)) else lefts

pub record InBounds (lefts : Lefts) : Type 0 where
  pub least : (us : List ℕ) → 1 ≤ lefts us
  pub most : (us : List ℕ) → lefts us ≤ 1000000000

pub record Passes (lefts : Lefts) : Type 0 where
  pub over : (us : List ℕ) (u : ℕ) (vs : List ℕ) → lefts us ≤ u → lefts (us ++ u ∷ vs) ≡ lefts (us ++ vs)

pub record Movement (S : Type 0) : Type 0 where
  pub left : S → ℕ
  pub next : S → ℕ → S

abbrev pub stepped : {S : Type 0} → Movement S → S → ℕ → S
stepped m s u = if nat_lt u (m.left s) then m.next s u else s

abbrev pub after : {S : Type 0} → Movement S → S → List ℕ → S
after m s [] = s
after m s (u ∷ us) = after m (stepped m s u) us

abbrev pub left_after : {S : Type 0} → Movement S → S → Lefts
left_after m s us = m.left (after m s us)

abbrev pub in_time : {S : Type 0} → Movement S → S → List ℕ → List ℕ
in_time m s [] = []
in_time m s (u ∷ us) = if nat_lt u (m.left s) then u ∷ in_time m (m.next s u) us else in_time m s us
