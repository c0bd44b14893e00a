-- The lines of a game's rules, clock and two players, and how its turns move them.
--   Lines       what rules and clock say, and both players answer, from the present point on
--   at_start    every line is its plan
--   followed    a turn as it stands is spent, made and shown to both
--   walked      the same for several, the sides taking turns
--   answer      the answer of the side to move
--   made_of     a turn, and what happens in it, by its reading
--   Way         a line of rules is their plan after so many legal codes
use Rattle.std.specs.Prelude.{◌≡◌, ℕ, true, List, [], ◌∷◌, length}
use Rattle.side.specs.declared.Side.{Side}
use Rattle.side.specs.declared.Side.TheVariants.{First, Second}
use Rattle.side.specs.TwoSides.{opponent, pick}
use Rattle.rules.specs.Plans.{RulesPlan, after_codes}
use Rattle.player.specs.Answers.{Answers, shown}
use Rattle.verdict.specs.declared.Turn.{Turn}
use Rattle.meaning.specs.Turns.{Point, event_of, turn_of, past_turn}
use Rattle.meaning.specs.Games.{Plans}
use Rattle.desk.specs.declared.desk.Made.{Made}
use Rattle.desk.specs.declared.opponents.Opponents.{Opponents}

pub record Lines : Type 0 where
  pub point : Point
  pub first : Answers
  pub second : Answers

abbrev pub at_start : Plans → Opponents → Lines
at_start p both = record { point = record { rules = p.rules; clock = p.clock }; first = p.bank both.numbers.first First; second = p.bank both.numbers.second Second }

abbrev pub followed : Lines → Side → Turn → Lines
followed x side t = record { point = past_turn x.point side t; first = shown x.first t.code; second = shown x.second t.code }

abbrev pub walked : Lines → Side → List Turn → Lines
walked x side [] = x
walked x side (t ∷ ts) = walked (followed x side t) (opponent side) ts

abbrev pub answer : Lines → Side → ℕ
answer x side = pick side (x.first []) (x.second [])

abbrev pub made_of : Lines → Side → ℕ → Made
made_of x side u = record { turn = turn_of x.point side u (answer x side); event = event_of x.point side u (answer x side) }

abbrev pub Way : RulesPlan → RulesPlan → ℕ → Type 0
Way plan line count = ∥ ((w : List ℕ) × (plan.legal w ≡ true) × (line ≡ after_codes plan w) × (length w ≡ count)) ∥₁
