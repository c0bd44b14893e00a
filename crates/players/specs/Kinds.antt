-- A player of either kind answers as the one inside.
--   kind_plan  the plan of the player inside
--   kind_line  its line
use Rattle.std.specs.Prelude.{ℕ, vec_items}
use Rattle.side.specs.declared.Side.{Side}
use Rattle.player.specs.Answers.{Answers}
use Rattle.rules.specs.Plans.{RulesPlan}
use Rattle.players_theory.specs.Scripts.{scripted, scripted_from}
use Rattle.players_theory.specs.Steps.{stepper_answers}
use Rattle.players.specs.declared.kinds.Kind.{Kind}
use Rattle.players.specs.declared.kinds.Kind.TheVariants.{Script, Stepper}

abbrev pub kind_plan : {R : Type 0} → ℕ → (R → RulesPlan) → Kind R → Side → Answers
kind_plan codes of (Script s) seat = scripted (vec_items s.codes)
kind_plan codes of (Stepper s) seat = stepper_answers codes s.step (of s.rules)

abbrev pub kind_line : {R : Type 0} → ℕ → (R → RulesPlan) → Kind R → Answers
kind_line codes of (Script s) = scripted_from (vec_items s.codes) s.shown
kind_line codes of (Stepper s) = stepper_answers codes s.step (of s.rules)
