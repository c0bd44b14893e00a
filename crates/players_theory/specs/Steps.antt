-- What a stepper answers, over any rules.
--   shown_to         the rest of the rules' plan once some codes are shown; illegal ones are passed over
--   lowest           the lowest legal code from one on, below the rules' number of codes
--   stepped          the lowest legal code from the step on, else the lowest legal code, else 65,534
--   stepper_answers  what a stepper answers after each list of codes shown
--   stepper_refusal  the refusal's number where a step is out of range
--   LowestFrom       a code is the lowest legal one from another on
--   NoneFrom         no code from one on is legal
--   Steps            the answer is the lowest legal code from the step on; or there is none, and it is the lowest legal one; or none is legal, and it is 65,534
--   PlaysLowest      such is each answer, after each list of codes shown
use Rattle.std.specs.Prelude.{◌≡◌, ℕ, ◌-◌, ◌<◌, ◌≤◌, true, false, if◌then◌else◌, ◌⊎◌, List, [], ◌∷◌, Some, None, Option, nat_lt}
use Rattle.std.specs.List.{find, range_with_len}
use Rattle.std.specs.Option.{unwrap_or}
use Rattle.player.specs.Answers.{Answers}
use Rattle.rules.specs.Plans.{RulesPlan, made}

abbrev pub shown_to : RulesPlan → List ℕ → RulesPlan
shown_to p [] = p
shown_to p (c ∷ w) = shown_to (made p c) w

abbrev pub lowest : ℕ → RulesPlan → ℕ → Option ℕ
lowest codes p from = find (λ code. p.legal (code ∷ [])) (range_with_len from (codes - from))

abbrev pub stepped : ℕ → ℕ → RulesPlan → ℕ
stepped codes step p = unwrap_or (lowest codes p step) (unwrap_or (lowest codes p 0) 65534)

abbrev pub stepper_answers : ℕ → ℕ → RulesPlan → Answers
stepper_answers codes step p w = stepped codes step (shown_to p w)

abbrev pub stepper_refusal : ℕ → Option ℕ
stepper_refusal step = if nat_lt 65533 step then Some 10 else None

abbrev pub LowestFrom : RulesPlan → ℕ → ℕ → Type 0
LowestFrom p from c = (from ≤ c) × (p.legal (c ∷ []) ≡ true) × ((d : ℕ) → from ≤ d → d < c → p.legal (d ∷ []) ≡ false)

abbrev pub NoneFrom : RulesPlan → ℕ → Type 0
NoneFrom p from = (d : ℕ) → from ≤ d → p.legal (d ∷ []) ≡ false

abbrev pub Steps : RulesPlan → ℕ → ℕ → Type 0
Steps p step r = LowestFrom p step r ⊎ ((NoneFrom p step × LowestFrom p 0 r) ⊎ (NoneFrom p 0 × (r ≡ 65534)))

abbrev pub PlaysLowest : RulesPlan → ℕ → Answers → Type 0
PlaysLowest p step answers = (w : List ℕ) → Steps (shown_to p w) step (answers w)
