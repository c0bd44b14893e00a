-- A side without a chance wins by no series, for every rules that keep their laws.
use Rattle.std.proofs.Common.{◌≡◌, ℕ, true, false, List, [], ◌++◌, sym, ap, ◌∙◌, subst, append-nil}
use mathlib.Core.Logic.{∥∥₁_elim}
use mathlib.Core.HLevel.{⊥_prop}
use Rattle.std.proofs.lemmas.Bool.{both_ways}
use Rattle.side.specs.declared.Side.{Side}
use Rattle.rules.specs.declared.Status.TheVariants.{Won}
use Rattle.rules.specs.Plans.{RulesPlan, Lawful, PointOf, NoWin, after_codes}

-- from any point of a game
pub no_win_after : (codes longest : ℕ) (plan : RulesPlan) → Lawful codes longest plan → (w : List ℕ) (s : Side) → plan.chance w s ≡ false → NoWin (after_codes plan w) s
no_win_after codes longest plan law w s f win =
    let v = win.0 in
    both_ways _ (law.fades w v s win.1 f) (law.winner (w ++ v) s win.1 win.2)

pub no_win : (codes longest : ℕ) (plan line : RulesPlan) → Lawful codes longest plan → PointOf plan line → (s : Side) → line.chance [] s ≡ false → NoWin line s
no_win codes longest plan line law point s f win =
    ∥∥₁_elim point ⊥_prop (λ x.
    let w = x.0 in
    let e : plan.chance (w ++ []) s ≡ false = sym (ap (λ (p : RulesPlan). p.chance [] s) x.2) ∙ f in
    let g : plan.chance w s ≡ false = subst (λ (v : List ℕ). plan.chance v s ≡ false) (append-nil w) e in
    no_win_after codes longest plan law w s g (subst (λ (p : RulesPlan). (v : List ℕ) × (p.legal v ≡ true) × (p.status v ≡ Won s)) x.2 win))
