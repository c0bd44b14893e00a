-- The lowest legal code, for every rules that keep their laws.
use Rattle.std.specs.Prelude.{◌≡◌, ℕ, zero, suc, ◌+◌, ◌-◌, ◌<◌, ◌≤◌, Bool, true, false, if◌then◌else◌, List, [], ◌∷◌, ◌++◌, Some, None, Option, MatchOption, refl}
use Rattle.std.proofs.Common.{sym, ap, ◌∙◌, inl, inr, append_assoc, arith, lit≤}
use Rattle.std.proofs.Math.Path.{fun_ext}
use Rattle.std.proofs.Math.Logic.{∥∥₁_elim, ∥∥₁_map}
use mathlib.Core.HLevel.{⊥_prop}
use Rattle.std.specs.List.{AllByRecursion, find, range_with_len}
use Rattle.std.specs.Option.{unwrap_or}
use Rattle.std.proofs.lemmas.Bool.{cases_lt, cases_eq, cases_Bool}
use Rattle.player.specs.Answers.{AreCodes}
use Rattle.rules.specs.Plans.{RulesPlan, Lawful, PointOf, after_codes, made}
use Rattle.players_theory.specs.Steps.{shown_to, lowest, stepped, stepper_answers, LowestFrom, NoneFrom, Steps, PlaysLowest}

-- what a search of n codes found
abbrev pub Found : RulesPlan → ℕ → ℕ → Option ℕ → Type 0
Found p from n o = MatchOption o ((d : ℕ) → from ≤ d → d < from + n → p.legal (d ∷ []) ≡ false) (λ c. (c < from + n) × LowestFrom p from c)

not_below : (p : RulesPlan) (from end : ℕ) → p.legal (from ∷ []) ≡ false → ((d : ℕ) → from + 1 ≤ d → d < end → p.legal (d ∷ []) ≡ false) → (d : ℕ) → from ≤ d → d < end → p.legal (d ∷ []) ≡ false
not_below p from end e f d l h = elim (cases_eq d from) [ inl s ↦ ap (λ (c : ℕ). p.legal (c ∷ [])) s ∙ e | inr s ↦ f d (omega arith) h ]

found_step : (p : RulesPlan) (from n : ℕ) (b : Bool) → p.legal (from ∷ []) ≡ b → (o : Option ℕ) → Found p (from + 1) n o → Found p from (suc n) (if b then Some from else o)
found_step p from n true e o f = (omega arith, (omega arith, e, λ d l h. absurd (omega arith)))
found_step p from n false e None f = λ d l h. not_below p from (from + 1 + n) e f d l (omega arith)
found_step p from n false e (Some c) f = let lt = f.0 in let low = f.1.0 in (omega arith, (omega arith, f.1.1, not_below p from c e f.1.2))

pub found : (p : RulesPlan) (from n : ℕ) → Found p from n (find (λ code. p.legal (code ∷ [])) (range_with_len from n))
found p from zero = λ d l h. absurd (omega arith)
found p from (suc n) = found_step p from n (p.legal (from ∷ [])) refl _ (found p (from + 1) n)

-- how the search goes on, and where it ends
pub lowest_more : (p : RulesPlan) (code codes : ℕ) → code < codes → lowest codes p code ≡ (if p.legal (code ∷ []) then Some code else lowest codes p (code + 1))
lowest_more p code codes h = let a : codes - code ≡ suc (codes - (code + 1)) = omega arith in ap (λ (n : ℕ). find (λ c. p.legal (c ∷ [])) (range_with_len code n)) a

pub lowest_none : (p : RulesPlan) (code codes : ℕ) → codes ≤ code → lowest codes p code ≡ None
lowest_none p code codes h = let a : codes - code ≡ 0 = omega arith in ap (λ (n : ℕ). find (λ c. p.legal (c ∷ [])) (range_with_len code n)) a

-- answers are codes

code_of : (codes from : ℕ) (p : RulesPlan) (o : Option ℕ) (d : ℕ) → codes ≤ 65534 → Found p from (codes - from) o → d ≤ 65535 → unwrap_or o d ≤ 65535
code_of codes from p None d few f l = l
code_of codes from p (Some c) d few f l =
    let a = f.0 in
    let b = f.1.0 in
    omega arith

pub stepped_code : (codes step : ℕ) (p : RulesPlan) → codes ≤ 65534 → stepped codes step p ≤ 65535
stepped_code codes step p few =
    code_of codes step p (lowest codes p step) _ few (found p step (codes - step))
    (code_of codes 0 p (lowest codes p 0) 65534 few (found p 0 (codes - 0)) (lit≤ tt))

pub stepper_coded : {codes longest : ℕ} (step : ℕ) {plan : RulesPlan} → Lawful codes longest plan → AreCodes (stepper_answers codes step plan)
stepper_coded {codes} step {plan} law w = stepped_code codes step (shown_to plan w) law.few

-- a line of the rules as codes are shown

point_made : (plan p : RulesPlan) (c : ℕ) (b : Bool) → p.legal (c ∷ []) ≡ b → PointOf plan p → PointOf plan (if b then after_codes p (c ∷ []) else p)
point_made plan p c false e point = point
point_made plan p c true e point =
    ∥∥₁_map point (λ x.
    let w = x.0 in
    let F : (List ℕ → List ℕ) → RulesPlan = λ f. record { legal = λ v. plan.legal (f v); status = λ v. plan.status (f v); chance = λ v. plan.chance (f v) } in
    let legal : plan.legal (w ++ (c ∷ [])) ≡ true = sym (ap (λ (q : RulesPlan). q.legal (c ∷ [])) x.2) ∙ e in
    (w ++ (c ∷ []), legal, ap (λ (q : RulesPlan). after_codes q (c ∷ [])) x.2 ∙ ap F (fun_ext (λ v. sym (append_assoc w (c ∷ []) v)))))

pub point_shown : (plan p : RulesPlan) (w : List ℕ) → PointOf plan p → PointOf plan (shown_to p w)
point_shown plan p [] point = point
point_shown plan p (c ∷ w) point = point_shown plan (made p c) w (point_made plan p c (p.legal (c ∷ [])) refl point)

last_of : (Q : ℕ → Type 0) (w : List ℕ) (c : ℕ) → AllByRecursion Q (w ++ (c ∷ [])) → Q c
last_of Q [] c h = h.0
last_of Q (d ∷ w) c h = last_of Q w c h.1

-- no legal code lies past the codes
none_past : (codes longest : ℕ) (plan p : RulesPlan) → Lawful codes longest plan → PointOf plan p → (d : ℕ) → codes ≤ d → p.legal (d ∷ []) ≡ false
none_past codes longest plan p law point d h =
    elim (cases_Bool (p.legal (d ∷ []))) [
      | inr no' ↦ no'
      | inl yes' ↦ absurd (∥∥₁_elim point ⊥_prop (λ x.
          let legal : plan.legal (x.0 ++ (d ∷ [])) ≡ true = sym (ap (λ (q : RulesPlan). q.legal (d ∷ [])) x.2) ∙ yes' in
          let below = last_of (λ c. c < codes) x.0 d (law.below (x.0 ++ (d ∷ [])) legal) in
          omega arith))
    ]

-- the search's answer is the one that is meant

module _ (codes : ℕ) (p : RulesPlan) (past : (d : ℕ) → codes ≤ d → p.legal (d ∷ []) ≡ false) where
  none_from : (from : ℕ) → Found p from (codes - from) None → NoneFrom p from
  none_from from f d l = elim (cases_lt d codes) [ inl h ↦ f d l (omega arith) | inr h ↦ past d h ]

  steps_by : (step : ℕ) (o u : Option ℕ) → Found p step (codes - step) o → Found p 0 (codes - 0) u → Steps p step (unwrap_or o (unwrap_or u 65534))
  steps_by step (Some c) u f g = inl f.1
  steps_by step None (Some c) f g = inr (inl (none_from step f, g.1))
  steps_by step None None f g = inr (inr (none_from 0 g, refl))

pub plays_lowest : (codes longest step : ℕ) (plan p : RulesPlan) → Lawful codes longest plan → PointOf plan p → PlaysLowest p step (stepper_answers codes step p)
plays_lowest codes longest step plan p law point w =
    let q = shown_to p w in
    steps_by codes q (none_past codes longest plan q law (point_shown plan p w point)) step (lowest codes q step) (lowest codes q 0)
    (found q step (codes - step)) (found q 0 (codes - 0))

-- the plan itself is at the point where nothing is made
pub point_start : (codes longest : ℕ) (plan : RulesPlan) → Lawful codes longest plan → PointOf plan plan
point_start codes longest plan law = ∣ ([], law.starts, refl) ∣₁
