-- What an event makes of a game.
--   fresh        the entry of a new game
--   is_going     whether a game is open: it has no verdict
--   moved        the verdict after a legal move, by the status it leads to; `last` is that no further turn is allowed
--   in_open      the verdict that an event makes in an open game, none where that goes on
--   noted        the same of any game: what comes after the end changes nothing
use Rattle.std.specs.Prelude.{Bool, if◌then◌else◌, is_none, Some, None, Option}
use Rattle.side.specs.TwoSides.{opponent}
use Rattle.rules.specs.declared.Status.{Status}
use Rattle.rules.specs.declared.Status.TheVariants.{Open, Won, Drawn}
use Rattle.verdict.specs.declared.Outcome.TheVariants.{WonBy, Drawn as NoWinner}
use Rattle.verdict.specs.declared.Verdict.{Verdict}
use Rattle.verdict.specs.declared.Verdict.TheVariants.{Rules, Flag as ByFlag, Illegal as ByIllegal, Resignation as ByResignation, TurnLimit, Ruling as ByRuling}
use Rattle.entry.specs.declared.Entry.{Entry}
use Rattle.entry.specs.declared.Event.{Event}
use Rattle.entry.specs.declared.Event.TheVariants.{Flag, Resignation, Illegal, Move, Ruling}

abbrev pub fresh : Entry
fresh = record { turns = 0; verdict = None }

abbrev pub is_going : Option Verdict → Bool
is_going verdict = is_none verdict

abbrev pub moved : Bool → Status → Option Verdict
moved last Open = if last then Some TurnLimit else None
moved last (Won s) = Some (Rules (WonBy s))
moved last Drawn = Some (Rules NoWinner)

abbrev pub in_open : Bool → Event → Option Verdict
in_open last (Flag outcome) = Some (ByFlag outcome)
in_open last (Resignation winner) = Some (ByResignation winner)
in_open last (Illegal winner) = Some (ByIllegal winner)
in_open last (Move status) = moved last status
in_open last (Ruling loser) = Some (ByRuling (opponent loser))

abbrev pub noted : Bool → Option Verdict → Event → Option Verdict
noted last None event = in_open last event
noted last (Some v) event = Some v
