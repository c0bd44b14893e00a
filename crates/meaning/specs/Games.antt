-- A game of an event: what readings and rulings make of it.
--   Plans        what rules, clock and bank of players are, whatever was made, spent and shown
--   Terms        what an event is made from
--   Game         the turns so far, and the verdict, none while the game is open
--   new_game     the game at the start
--   start_point  where every line is its plan
--   point_at     the point after some turns
--   to_move      the side then to move
--   codes_of     the codes of some turns
--   answer_at    the answer of that side's player, to whom the codes so far were shown
--   is_last      whether one turn more is the last that is allowed
--   turned       the game after one turn more
--   one          what a reading makes of a game: of an ended one nothing
--   several      what readings make of it, in their order
--   ruled        what a ruling makes of it
--   lefts_at     what is left for each side after some turns
--   told_of      what is told of it
--   content_of_game   what its record says
use Rattle.std.specs.Prelude.{ℕ, ◌+◌, Bool, if◌then◌else◌, List, [], ◌∷◌, ◌++◌, map, length, fold, None, Option, nat_le}
use Rattle.side.specs.declared.Side.{Side}
use Rattle.side.specs.declared.Side.TheVariants.{First, Second}
use Rattle.side.specs.declared.PerSide.{PerSide}
use Rattle.side.specs.TwoSides.{of_side}
use Rattle.clock.specs.Times.{Times}
use Rattle.rules.specs.Plans.{RulesPlan}
use Rattle.player.specs.Answers.{Answers}
use Rattle.verdict.specs.declared.Turn.{Turn}
use Rattle.verdict.specs.declared.Verdict.{Verdict}
use Rattle.entry.specs.declared.Event.TheVariants.{Ruling}
use Rattle.entry.specs.Entries.{noted, is_going}
use Rattle.seating.specs.Pairs.{seats_of}
use Rattle.format.specs.Layout.{Content}
use Rattle.meaning.specs.declared.Told.{Told}
use Rattle.meaning.specs.Turns.{Point, event_of, turn_of, past_turns, mover}

pub record Plans : Type 0 where
  pub rules : RulesPlan
  pub clock : Times
  pub bank : ℕ → Side → Answers

pub record Terms : Type 0 where
  pub entrants : ℕ
  pub limit : ℕ
  pub text : List ℕ
  pub plans : Plans

pub record Game : Type 0 where
  pub turns : List Turn
  pub verdict : Option Verdict

abbrev pub new_game : Game
new_game = record { turns = []; verdict = None }

abbrev pub start_point : Terms → Point
start_point T = record { rules = T.plans.rules; clock = T.plans.clock }

abbrev pub point_at : Terms → List Turn → Point
point_at T ts = past_turns (start_point T) First ts

abbrev pub to_move : List Turn → Side
to_move ts = mover First ts

abbrev pub codes_of : List Turn → List ℕ
codes_of ts = map (λ t. t.code) ts

abbrev pub answer_at : Terms → ℕ → List Turn → ℕ
answer_at T g ts = T.plans.bank (of_side (to_move ts) (seats_of T.entrants g)) (to_move ts) (codes_of ts)

abbrev pub is_last : Terms → List Turn → Bool
is_last T ts = nat_le T.limit (length ts + 1)

abbrev pub turned : Terms → ℕ → Game → ℕ → Game
turned T g x u = record {
  turns = x.turns ++ (turn_of (point_at T x.turns) (to_move x.turns) u (answer_at T g x.turns) ∷ []);
  verdict = noted (is_last T x.turns) x.verdict (event_of (point_at T x.turns) (to_move x.turns) u (answer_at T g x.turns));
}

abbrev pub one : Terms → ℕ → Game → ℕ → Game
one T g x u = if is_going x.verdict then turned T g x u else x

abbrev pub several : Terms → ℕ → Game → List ℕ → Game
several T g x us = fold (one T g) x us

-- no turn is made, so no limit is reached by it
abbrev pub ruled : Terms → Game → Side → Game
ruled T x loser = record { turns = x.turns; verdict = noted (is_last T x.turns) x.verdict (Ruling loser) }

abbrev pub lefts_at : Terms → List Turn → PerSide ℕ
lefts_at T ts = record { first = (point_at T ts).clock First []; second = (point_at T ts).clock Second [] }

abbrev pub told_of : Terms → Game → Told
told_of T x = record { verdict = x.verdict; turns = length x.turns; lefts = lefts_at T x.turns }

abbrev pub content_of_game : Terms → ℕ → Game → Content
content_of_game T g x = record {
  first = (seats_of T.entrants g).first;
  second = (seats_of T.entrants g).second;
  standing = x.verdict;
  limit = T.limit;
  text = T.text;
  turns = x.turns;
  first_left = (lefts_at T x.turns).first;
  second_left = (lefts_at T x.turns).second;
}
