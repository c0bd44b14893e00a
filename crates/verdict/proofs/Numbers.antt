-- The listed numbers are those of the verdicts and 0.
use Rattle.std.proofs.Common.{◌≡◌, ℕ, true, eqb, List, [], ◌∷◌, Some, None, Option, sym, refl, subst, inl, inr, arith, eqb-true}
use Rattle.std.specs.List.{AllByRecursion as All}
use Rattle.std.proofs.lemmas.Bool.{or_cases}
use Rattle.side.specs.declared.Side.TheVariants.{First, Second}
use Rattle.verdict.specs.declared.Outcome.TheVariants.{WonBy, Drawn}
use Rattle.verdict.specs.declared.Verdict.{Verdict}
use Rattle.verdict.specs.declared.Verdict.TheVariants.{Rules, Flag, Illegal, Resignation, TurnLimit, Ruling}
use Rattle.verdict.specs.Verdicts.{among, listed, is_listed, standing_number, standing_of, NumbersRight}

-- what holds of each number of a list holds of one that is among them
each : (P : ℕ → Type 0) (ns : List ℕ) → All P ns → (n : ℕ) → among n ns ≡ true → P n
each P [] a n h = let z : ◌≡◌ {A = ℕ} 0 1 = cc in absurd (omega arith)
each P (m ∷ ms) a n h =
    elim (or_cases (eqb n m) (among n ms) h) [
      | inl e ↦ subst P (sym (eqb-true n m e)) a.0
      | inr k ↦ each P ms a.1 n k
    ]

pub of_listed : (n : ℕ) → is_listed n ≡ true → standing_number (standing_of n) ≡ n
of_listed = each (λ n. standing_number (standing_of n) ≡ n) listed (refl, (refl, (refl, (refl, (refl, (refl, (refl, (refl, (refl, (refl, (refl, (refl, (refl, (refl, tt))))))))))))))

pub of_standing : (s : Option Verdict) → (is_listed (standing_number s) ≡ true) × (standing_of (standing_number s) ≡ s)
of_standing None = (refl, refl)
of_standing (Some (Rules (WonBy First))) = (refl, refl)
of_standing (Some (Rules (WonBy Second))) = (refl, refl)
of_standing (Some (Rules Drawn)) = (refl, refl)
of_standing (Some (Flag (WonBy First))) = (refl, refl)
of_standing (Some (Flag (WonBy Second))) = (refl, refl)
of_standing (Some (Flag Drawn)) = (refl, refl)
of_standing (Some (Illegal First)) = (refl, refl)
of_standing (Some (Illegal Second)) = (refl, refl)
of_standing (Some (Resignation First)) = (refl, refl)
of_standing (Some (Resignation Second)) = (refl, refl)
of_standing (Some TurnLimit) = (refl, refl)
of_standing (Some (Ruling First)) = (refl, refl)
of_standing (Some (Ruling Second)) = (refl, refl)

pub numbers_right : NumbersRight
numbers_right = record { of_listed = of_listed; of_standing = of_standing }
