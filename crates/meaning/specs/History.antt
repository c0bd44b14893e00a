-- Any mix of calls on an arena, and what they feed a game.
--   Call         a call, with what it was lent where that matters
--   called       the hall after a call
--   Reached      the calls, the last of them first, by which a newly made arena came to a hall
--   Item         a reading or a ruling
--   fed, feed    what a call, and what all calls, feed a game: which count follows from terms and call alone
--   item         what the rules make of one item of a feed
--   game_from, game_of   what they make of a feed, from a game and from the start
--   Alike        events that are alike but for one entrant
--   Without      an entrant plays in neither seat
--   made_from, made_codes   the codes made by some turns, after others and from the start: the legal ones, in their order
--   FlagDraws    where a flag fall is drawn, no series from there wins for the other side
--   FlagExact    and where it is not, some series does
use Rattle.std.specs.Prelude.{◌≡◌, ℕ, ◌*◌, ◌≤◌, if◌then◌else◌, ◌&&◌, ◌≢◌, List, [], ◌∷◌, ◌++◌, map, length, fold, replicate, Some, ◌==◌, nat_le}
use Rattle.side.specs.declared.Side.{Side}
use Rattle.side.specs.declared.PerSide.{PerSide}
use Rattle.rules.specs.Plans.{RulesPlan, Winnable, NoWin, after_codes}
use Rattle.verdict.specs.declared.Turn.{Turn}
use Rattle.verdict.specs.declared.Outcome.TheVariants.{WonBy, Drawn}
use Rattle.verdict.specs.declared.Verdict.TheVariants.{Flag}
use Rattle.entry.specs.Entries.{fresh}
use Rattle.seating.specs.Pairs.{games_of}
use Rattle.meaning.specs.Games.{Terms, Game, new_game, one, ruled, to_move}
use Rattle.meaning.specs.Calls.{Hall, known, in_range, played, ruled_entries}

-- a play, tell or record that is lent too short a space is refused and leaves all as it was, whatever else it names
pub data Call : Type 0 where
  playing : (game : ℕ) (readings : List ℕ) → Call
  ruling : (game : ℕ) (loser : Side) → Call
  telling : (game : ℕ) → Call
  recording : (game buffer : ℕ) → Call
  tabling : (buffer : ℕ) → Call
  cramped : Call

abbrev pub called : Terms → Hall → Call → Hall
called T hall (playing g us) = played T hall g us
called T hall (ruling g loser) = record { entries = ruled_entries T hall.entries g loser; space = hall.space }
called T hall call = hall

pub data Reached (T : Terms) : List Call → Hall → Type 0 where
  made : (space : List Turn) → games_of T.entrants * T.limit ≤ length space → Reached T [] (record { entries = replicate 120 fresh; space = space })
  then : {h : List Call} {hall hall' : Hall} (call : Call) → Reached T h hall → hall' ≡ called T hall call → Reached T (call ∷ h) hall'

pub data Item : Type 0 where
  reading : ℕ → Item
  lost_by : Side → Item

abbrev pub fed : Terms → ℕ → Call → List Item
fed T g (playing g' us) = if g' == g && (known T g' && (nat_le (length us) 64 && in_range us)) then map reading us else []
fed T g (ruling g' loser) = if g' == g && known T g' then lost_by loser ∷ [] else []
fed T g call = []

abbrev pub feed : Terms → ℕ → List Call → List Item
feed T g [] = []
feed T g (call ∷ h) = feed T g h ++ fed T g call

abbrev pub item : Terms → ℕ → Game → Item → Game
item T g x (reading u) = one T g x u
item T g x (lost_by loser) = ruled T x loser

abbrev pub game_from : Terms → ℕ → Game → List Item → Game
game_from T g x is = fold (item T g) x is

abbrev pub game_of : Terms → ℕ → List Item → Game
game_of T g is = game_from T g new_game is

pub record Alike (k : ℕ) (T U : Terms) : Type 0 where
  pub entrants : T.entrants ≡ U.entrants
  pub limit : T.limit ≡ U.limit
  pub text : T.text ≡ U.text
  pub rules : T.plans.rules ≡ U.plans.rules
  pub clock : T.plans.clock ≡ U.plans.clock
  pub bank : (j : ℕ) → j ≢ k → T.plans.bank j ≡ U.plans.bank j

pub record Without (k : ℕ) (seats : PerSide ℕ) : Type 0 where
  pub first : seats.first ≢ k
  pub second : seats.second ≢ k

abbrev pub made_from : RulesPlan → List ℕ → List Turn → List ℕ
made_from p w ts = fold (λ v t. if p.legal (v ++ (t.code ∷ [])) then v ++ (t.code ∷ []) else v) w ts

abbrev pub made_codes : RulesPlan → List Turn → List ℕ
made_codes p ts = made_from p [] ts

-- after the fallen flag's turn the other side is to move
abbrev pub FlagDraws : Terms → Game → Type 0
FlagDraws T x = x.verdict ≡ Some (Flag Drawn) → NoWin (after_codes T.plans.rules (made_codes T.plans.rules x.turns)) (to_move x.turns)

abbrev pub FlagExact : Terms → Game → Type 0
FlagExact T x = (winner : Side) → x.verdict ≡ Some (Flag (WonBy winner)) → Winnable (after_codes T.plans.rules (made_codes T.plans.rules x.turns)) winner
