-- A desk as the definitions of games take it. What its rules, clock and bank have, by the plans or the lines of each.
--   plans_of   the plans of its parts
--   lines_of   the lines of its rules and clock, and of two players in its bank
use Rattle.std.specs.Prelude.{ℕ}
use Rattle.side.specs.declared.Side.{Side}
use Rattle.clock.specs.Times.{Times}
use Rattle.rules.specs.Plans.{RulesPlan}
use Rattle.player.specs.Answers.{Answers}
use Rattle.meaning.specs.Games.{Plans}
use Rattle.desk.specs.declared.desk.Desk.{Desk}
use Rattle.desk.specs.declared.opponents.Opponents.{Opponents}
use Rattle.desk.specs.Lines.{Lines}

abbrev pub plans_of : {R C B : Type 0} → (R → RulesPlan) → (C → Times) → (B → ℕ → Side → Answers) → Desk R C B → Plans
plans_of rules clock bank d = record { rules = rules d.rules; clock = clock d.clock; bank = bank d.bank }

abbrev pub lines_of : {R C B : Type 0} → (R → RulesPlan) → (C → Times) → (B → ℕ → Answers) → Desk R C B → Opponents → Lines
lines_of rules clock bank d both = record {
  point = record { rules = rules d.rules; clock = clock d.clock };
  first = bank d.bank both.numbers.first;
  second = bank d.bank both.numbers.second;
}
