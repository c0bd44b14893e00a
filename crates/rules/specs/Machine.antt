-- A game by its positions, and the plan that it has from a position on.
--   Machine    which codes are legal in a position, what each makes of it, its status, who has a chance
--   after      the position after some codes
--   all_legal  whether each of some codes is legal where it is made
--   plan_of    what the game says of each list of codes from a position on
--   OnWay      some legal codes lead from one position to another
use Rattle.std.specs.Prelude.{◌≡◌, ℕ, Bool, true, ◌&&◌, List, [], ◌∷◌}
use Rattle.side.specs.declared.Side.{Side}
use Rattle.rules.specs.declared.Status.{Status}
use Rattle.rules.specs.Plans.{RulesPlan}

pub record Machine (S : Type 0) : Type 0 where
  pub legal : S → ℕ → Bool
  pub next : S → ℕ → S
  pub status : S → Status
  pub chance : S → Side → Bool

abbrev pub after : {S : Type 0} → Machine S → S → List ℕ → S
after m s [] = s
after m s (c ∷ w) = after m (m.next s c) w

abbrev pub all_legal : {S : Type 0} → Machine S → S → List ℕ → Bool
all_legal m s [] = true
all_legal m s (c ∷ w) = m.legal s c && all_legal m (m.next s c) w

abbrev pub plan_of : {S : Type 0} → Machine S → S → RulesPlan
plan_of m s = record { legal = all_legal m s; status = λ w. m.status (after m s w); chance = λ w. m.chance (after m s w) }

abbrev pub OnWay : {S : Type 0} → Machine S → S → S → Type 0
OnWay m s t = ∥ ((w : List ℕ) × (all_legal m s w ≡ true) × (t ≡ after m s w)) ∥₁
