-- What the judge makes of a record, by rules and clock alone.
--   written_event   what a written turn is; none where a fallen flag has a code other than 65,535
--   Run             where going through turns ended: the point and the verdict after them, or the number of the first turn that cannot stand
--   judged          the run over some turns
--   is_ruling       whether a game was ruled on
--   follows         whether a record's verdict follows: that of the turns, or, where they leave the game open, none or a ruling
--   Verdicted       what the judge answers
--   told_by         what is told of a game whose record is right
--   weighed         what is made of a record, by where the run over its turns ended
--   judge_content   by what a record says
--   lefts_place     where a record's lefts are
--   judge_of        by its bytes
use Rattle.std.specs.Prelude.{ℕ, ◌+◌, ◌*◌, Bool, true, false, if◌then◌else◌, not, List, [], ◌∷◌, length, Some, None, Option, ◌==◌, nat_le}
use Rattle.side.specs.declared.Side.{Side}
use Rattle.side.specs.declared.Side.TheVariants.{First, Second}
use Rattle.side.specs.TwoSides.{opponent}
use Rattle.clock.specs.Times.{Times}
use Rattle.rules.specs.Plans.{RulesPlan}
use Rattle.verdict.specs.declared.Turn.{Turn}
use Rattle.verdict.specs.declared.Verdict.{Verdict}
use Rattle.verdict.specs.declared.Verdict.TheVariants.{Ruling}
use Rattle.verdict.specs.Verdicts.{standing_number}
use Rattle.entry.specs.declared.Event.{Event}
use Rattle.entry.specs.declared.Event.TheVariants.{Flag}
use Rattle.entry.specs.Entries.{noted}
use Rattle.format.specs.Layout.{Content}
use Rattle.format.specs.Requirements.{Found, found, first_fault, requirements, content_of}
use Rattle.meaning.specs.declared.Told.{Told}
use Rattle.meaning.specs.Turns.{Point, in_time, fallen, answered, past_turn}

abbrev pub written_event : Point → Side → Turn → Option Event
written_event x side t =
    if in_time x side t.reading then Some (answered x side t.code)
    else if t.code == 65535 then Some (Flag (fallen x side))
    else None

pub data Run : Type 0 where
  stands : Point → Option Verdict → Run
  broken : ℕ → Run

-- i is the next turn's number
abbrev pub judged : ℕ → Point → Side → Option Verdict → ℕ → List Turn → Run
judged limit x side s i [] = stands x s
judged limit x side None i (t ∷ ts) = elim (written_event x side t) [
  | Some event ↦ judged limit (past_turn x side t) (opponent side) (noted (nat_le limit (i + 1)) None event) (i + 1) ts
  | None ↦ broken i
]
judged limit x side (Some v) i (t ∷ ts) = broken i

abbrev pub is_ruling : Option Verdict → Bool
is_ruling (Some (Ruling s)) = true
is_ruling standing = false

abbrev pub follows : Option Verdict → Option Verdict → Bool
follows None None = true
follows None (Some v) = is_ruling (Some v)
follows (Some v) standing = standing_number (Some v) == standing_number standing

pub data Verdicted : Type 0 where
  accepts : Told → Verdicted
  refuses : Found → Verdicted

abbrev pub told_by : Content → Told
told_by c = record { verdict = c.standing; turns = length c.turns; lefts = record { first = c.first_left; second = c.second_left } }

-- place is that of the first left
abbrev pub weighed : Content → ℕ → Run → Verdicted
weighed c place (broken i) = refuses (found 14 i)
weighed c place (stands x s) =
    if not (follows s c.standing) then refuses (found 15 6)
    else if not (x.clock First [] == c.first_left) then refuses (found 15 place)
    else if not (x.clock Second [] == c.second_left) then refuses (found 15 (place + 4))
    else accepts (told_by c)

abbrev pub judge_content : RulesPlan → Times → Content → ℕ → Verdicted
judge_content rules clock c place = weighed c place (judged c.limit (record { rules = rules; clock = clock }) First None 0 c.turns)

abbrev pub lefts_place : Content → ℕ
lefts_place c = 36 + length c.text + 6 * length c.turns

unfoldable pub judge_of : RulesPlan → Times → List ℕ → Verdicted
judge_of rules clock b = elim (first_fault (requirements b)) [
  | Some f ↦ refuses f
  | None ↦ judge_content rules clock (content_of b) (lefts_place (content_of b))
]
