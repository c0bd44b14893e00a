-- What the calls on an arena refuse, answer and leave.
--   Hall          the table of games and the turn space
--   entry_at      the entry of a game
--   game_at       the game that lies in them
--   entry_of      the entry that a game has
--   put           the hall once a game lies in them
--   known         whether there is a game of that number
--   short         whether the space is below games × limit
--   in_range      whether each reading is at most 86,400,000
--   making_refusal, play_refusal, rule_refusal, tell_refusal, record_refusal, table_refusal
--                 the number of the first check that fails, in the call's order
--   after_play    the game after some readings
--   turns_made    how many turns they made
--   played        the hall after play
--   ruled_entry, ruled_entries   a game's entry, and the table, after rule
--   record_bytes  the bytes that record writes
--   meeting       the game of two entrants
--   points        what an outcome is to a side: 1 lost, 2 drawn, 3 won
--   result_for    the same of a game's verdict, 0 while it has none
--   side_in       the side that an entrant plays in it
--   cell          a cell of the crosstable: 0 no ended game, 1 the row's entrant lost, 2 drawn, 3 won
--   table_bytes   the cells by rows
use Rattle.std.specs.Prelude.{ℕ, ◌-◌, ◌*◌, min, max, Bool, if◌then◌else◌, not, ◌&&◌, List, [], map, length, take, drop, Some, None, Option, ◌==◌, nat_le, nat_lt, slice_index_or, slice_set}
use Rattle.std.specs.List.{range_with_len, flat_map, list_all}
use Rattle.side.specs.declared.Side.{Side}
use Rattle.side.specs.declared.Side.TheVariants.{First, Second}
use Rattle.side.specs.TwoSides.{same_side}
use Rattle.verdict.specs.declared.Turn.{Turn}
use Rattle.verdict.specs.declared.Outcome.{Outcome}
use Rattle.verdict.specs.declared.Outcome.TheVariants.{WonBy, Drawn}
use Rattle.verdict.specs.declared.Verdict.{Verdict}
use Rattle.verdict.specs.Verdicts.{outcome_of}
use Rattle.entry.specs.declared.Entry.{Entry}
use Rattle.entry.specs.Entries.{fresh, is_going}
use Rattle.seating.specs.Pairs.{games_of, number_of, seats_of}
use Rattle.format.specs.Layout.{encode}
use Rattle.format.specs.Laid.{laid}
use Rattle.meaning.specs.Games.{Terms, Game, several, ruled, content_of_game}

pub record Hall : Type 0 where
  pub entries : List Entry
  pub space : List Turn

abbrev pub entry_at : Hall → ℕ → Entry
entry_at hall g = slice_index_or hall.entries g fresh

abbrev pub game_at : Terms → Hall → ℕ → Game
game_at T hall g = record {
  turns = take (entry_at hall g).turns (drop (g * T.limit) hall.space);
  verdict = (entry_at hall g).verdict;
}

abbrev pub entry_of : Game → Entry
entry_of x = record { turns = length x.turns; verdict = x.verdict }

abbrev pub put : Terms → Hall → ℕ → Game → Hall
put T hall g x = record { entries = slice_set hall.entries g (entry_of x); space = laid hall.space (g * T.limit) x.turns }

abbrev pub known : Terms → ℕ → Bool
known T g = nat_lt g (games_of T.entrants)

abbrev pub short : Terms → ℕ → Bool
short T size = nat_lt size (games_of T.entrants * T.limit)

abbrev pub in_range : List ℕ → Bool
in_range us = list_all (λ u. nat_le u 86400000) us

abbrev pub making_refusal : ℕ → ℕ → ℕ → ℕ → Option ℕ
making_refusal entrants limit text size =
    if not (nat_le 2 entrants && nat_le entrants 16) then Some 1
    else if not (nat_le 1 limit && nat_le limit 256) then Some 2
    else if not (nat_le 1 text && nat_le text 64) then Some 4
    else if nat_lt size (games_of entrants * limit) then Some 3
    else None

abbrev pub play_refusal : Terms → Hall → ℕ → List ℕ → Option ℕ
play_refusal T hall g us =
    if short T (length hall.space) then Some 3
    else if not (known T g) then Some 5
    else if not (nat_le (length us) 64) then Some 6
    else if not (in_range us) then Some 7
    else if not (is_going (entry_at hall g).verdict) then Some 8
    else None

abbrev pub rule_refusal : Terms → List Entry → ℕ → Option ℕ
rule_refusal T entries g =
    if not (known T g) then Some 5
    else if not (is_going (slice_index_or entries g fresh).verdict) then Some 8
    else None

abbrev pub tell_refusal : Terms → ℕ → ℕ → Option ℕ
tell_refusal T size g =
    if short T size then Some 3
    else if not (known T g) then Some 5
    else None

abbrev pub after_play : Terms → Hall → ℕ → List ℕ → Game
after_play T hall g us = several T g (game_at T hall g) us

abbrev pub turns_made : Terms → Hall → ℕ → List ℕ → ℕ
turns_made T hall g us = length (after_play T hall g us).turns - (entry_at hall g).turns

abbrev pub played : Terms → Hall → ℕ → List ℕ → Hall
played T hall g us = elim (play_refusal T hall g us) [ Some n ↦ hall | None ↦ put T hall g (after_play T hall g us) ]

-- a ruling writes no turn
abbrev pub ruled_entry : Terms → Entry → Side → Entry
ruled_entry T e loser = record { turns = e.turns; verdict = (ruled T (record { turns = []; verdict = e.verdict }) loser).verdict }

abbrev pub ruled_entries : Terms → List Entry → ℕ → Side → List Entry
ruled_entries T entries g loser = elim (rule_refusal T entries g) [ Some n ↦ entries | None ↦ slice_set entries g (ruled_entry T (slice_index_or entries g fresh) loser) ]

abbrev pub record_bytes : Terms → Hall → ℕ → List ℕ
record_bytes T hall g = encode (content_of_game T g (game_at T hall g))

abbrev pub record_refusal : Terms → Hall → ℕ → ℕ → Option ℕ
record_refusal T hall g size =
    if short T (length hall.space) then Some 3
    else if not (known T g) then Some 5
    else if not (nat_le (length (record_bytes T hall g)) size) then Some 9
    else None

-- by the outcome, for the entrant of a side
abbrev pub points : Side → Outcome → ℕ
points side Drawn = 2
points side (WonBy winner) = if same_side side winner then 3 else 1

abbrev pub result_for : Side → Option Verdict → ℕ
result_for side None = 0
result_for side (Some v) = points side (outcome_of v)

-- the game of two entrants, whichever is named first
abbrev pub meeting : Terms → ℕ → ℕ → ℕ
meeting T a b = number_of T.entrants (min a b) (max a b)

-- the side that an entrant plays in a game of its own
abbrev pub side_in : Terms → ℕ → ℕ → Side
side_in T g a = if (seats_of T.entrants g).first == a then First else Second

abbrev pub cell : Terms → List Entry → ℕ → ℕ → ℕ
cell T entries a b = if a == b then 0 else result_for (side_in T (meeting T a b) a) (slice_index_or entries (meeting T a b) fresh).verdict

abbrev pub table_bytes : Terms → List Entry → List ℕ
table_bytes T entries = flat_map (λ a. map (cell T entries a) (range_with_len 0 T.entrants)) (range_with_len 0 T.entrants)

abbrev pub table_refusal : Terms → ℕ → Option ℕ
table_refusal T size = if not (nat_le (T.entrants * T.entrants) size) then Some 9 else None
