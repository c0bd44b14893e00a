-- What a clock's plan and line are, and the laws of a plan.
--   Times     for each side and each list of its earlier readings, what is left for it
--   past      the times once a side has spent a reading: its own go on past it, the other's stay
--   spent     the same, but that a reading of all that is left or more changes nothing
--   Bounded   law: left is 1 to 1,000,000,000
--   Passing   law: a reading that is not in time is passed over
use Rattle.std.specs.Prelude.{◌≡◌, List, [], ◌∷◌, ◌++◌, cond, ℕ, ◌≤◌, nat_lt}
use Rattle.side.specs.declared.Side.{Side}
use Rattle.side.specs.TwoSides.{pick}

abbrev pub Times : Type 0
Times = Side → List ℕ → ℕ

abbrev pub past : Times → Side → ℕ → Times
past times side u s us = times s (pick side (pick s (u ∷ us) us) (pick s us (u ∷ us)))

abbrev pub spent : Times → Side → ℕ → Times
spent times side u = cond (nat_lt u (times side [])) (past times side u) times

pub record Bounded (plan : Times) : Type 0 where
  pub least : (s : Side) (us : List ℕ) → 1 ≤ plan s us
  pub most : (s : Side) (us : List ℕ) → plan s us ≤ 1000000000

pub record Passing (plan : Times) : Type 0 where
  pub over : (s : Side) (us : List ℕ) (u : ℕ) (vs : List ℕ) → plan s us ≤ u → plan s (us ++ u ∷ vs) ≡ plan s (us ++ vs)
