-- One turn of a game, and the point of play after some turns.
--   Point        what the rules and the clock say from the present point on
--   in_time      whether a reading is below what is left for a side
--   fallen       the outcome where a side's flag falls: the other wins if it has a chance, else it is a draw
--   answered     what an answer in time is: a resignation, a legal move or an illegal one
--   event_of     what happens in a turn, by its reading and the player's answer
--   turn_of      the turn as it is written: "no move" where the flag fell
--   past_turn    the point after a turn as it stands: spent, and made
--   past_turns   the same for several, the sides taking turns
--   mover        the side to move after some turns
use Rattle.std.specs.Prelude.{ℕ, Bool, if◌then◌else◌, List, [], ◌∷◌, ◌==◌, nat_lt}
use Rattle.side.specs.declared.Side.{Side}
use Rattle.side.specs.TwoSides.{opponent}
use Rattle.clock.specs.Times.{Times, spent}
use Rattle.rules.specs.Plans.{RulesPlan, made}
use Rattle.verdict.specs.declared.Turn.{Turn}
use Rattle.verdict.specs.declared.Outcome.{Outcome}
use Rattle.verdict.specs.declared.Outcome.TheVariants.{WonBy, Drawn}
use Rattle.entry.specs.declared.Event.{Event}
use Rattle.entry.specs.declared.Event.TheVariants.{Flag, Resignation, Illegal, Move}

pub record Point : Type 0 where
  pub rules : RulesPlan
  pub clock : Times

abbrev pub in_time : Point → Side → ℕ → Bool
in_time x side u = nat_lt u (x.clock side [])

abbrev pub fallen : Point → Side → Outcome
fallen x side = if x.rules.chance [] (opponent side) then WonBy (opponent side) else Drawn

abbrev pub answered : Point → Side → ℕ → Event
answered x side code =
    if code == 65534 then Resignation (opponent side)
    else if x.rules.legal (code ∷ []) then Move (x.rules.status (code ∷ []))
    else Illegal (opponent side)

abbrev pub event_of : Point → Side → ℕ → ℕ → Event
event_of x side u code = if in_time x side u then answered x side code else Flag (fallen x side)

abbrev pub turn_of : Point → Side → ℕ → ℕ → Turn
turn_of x side u code = record { code = if in_time x side u then code else 65535; reading = u }

abbrev pub past_turn : Point → Side → Turn → Point
past_turn x side t = record { rules = made x.rules t.code; clock = spent x.clock side t.reading }

abbrev pub past_turns : Point → Side → List Turn → Point
past_turns x side [] = x
past_turns x side (t ∷ ts) = past_turns (past_turn x side t) (opponent side) ts

abbrev pub mover : Side → List Turn → Side
mover side [] = side
mover side (t ∷ ts) = mover (opponent side) ts
