-- A line of rules after so many legal codes, as codes are made.
use Rattle.std.proofs.Common.{◌≡◌, ℕ, ◌+◌, ◌≤◌, true, false, List, [], ◌∷◌, ◌++◌, sym, refl, ap, ◌∙◌, arith}
use mathlib.Core.Logic.{∥∥₁_elim, ∥∥₁_map}
use mathlib.Core.HLevel.{⊥_prop}
use Rattle.std.proofs.lemmas.Bool.{false_from_ne_true, cond-true, cond-false}
use Rattle.std.proofs.lemmas.List.{length_push}
use Rattle.rules.specs.Plans.{RulesPlan, Lawful, after_codes, made}
use Rattle.meaning.proofs.Walks.{after_after}
use Rattle.desk.specs.Lines.{Way}

pub way_start : (codes longest : ℕ) (plan line : RulesPlan) → Lawful codes longest plan → line ≡ plan → Way plan line 0
way_start codes longest plan line law e = ∣ ([], law.starts, e, refl) ∣₁

-- what the line says of a code, its plan says of it after the codes before
legal_next : (plan p : RulesPlan) (w : List ℕ) (c : ℕ) → p ≡ after_codes plan w → p.legal (c ∷ []) ≡ true → plan.legal (w ++ (c ∷ [])) ≡ true
legal_next plan p w c e ok = sym (ap (λ (q : RulesPlan). q.legal (c ∷ [])) e) ∙ ok

pub way_more : (plan p : RulesPlan) (c count : ℕ) → p.legal (c ∷ []) ≡ true → Way plan p count → Way plan (made p c) (count + 1)
way_more plan p c count ok way =
    ∥∥₁_map way (λ x. (
      x.0 ++ (c ∷ []),
      legal_next plan p x.0 c x.2 ok,
      cond-true _ _ _ ok ∙ ap (λ (q : RulesPlan). after_codes q (c ∷ [])) x.2 ∙ after_after plan x.0 (c ∷ []),
      length_push x.0 c ∙ ap (λ (n : ℕ). n + 1) x.3,
    ))

pub made_not : (p : RulesPlan) (c : ℕ) → p.legal (c ∷ []) ≡ false → made p c ≡ p
made_not p c bad = cond-false _ _ _ bad

-- after the longest game nothing is legal
pub way_full : (codes longest : ℕ) (plan p : RulesPlan) (c count : ℕ) → Lawful codes longest plan → Way plan p count → longest ≤ count → p.legal (c ∷ []) ≡ false
way_full codes longest plan p c count law way h =
    false_from_ne_true _ (λ ok. ∥∥₁_elim way ⊥_prop (λ x.
    let short = law.short (x.0 ++ (c ∷ [])) (legal_next plan p x.0 c x.2 ok) in
    let n = x.3 in
    omega (arith, length_push x.0 c)))
