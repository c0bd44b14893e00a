-- What the calls decline and leave, from what their code knows at each exit.
use Rattle.std.proofs.Common.{◌≡◌, ℕ, ◌*◌, ◌<◌, ◌≤◌, true, false, List, length, Some, None, arith}
use Rattle.std.proofs.lemmas.Bool.Decides.{nat_tests}
use Rattle.std.specs.Prelude.{slice_index_or, slice_set}
use Rattle.side.specs.declared.Side.{Side}
use Rattle.entry.specs.declared.Entry.{Entry}
use Rattle.entry.specs.Entries.{fresh, is_going}
use Rattle.seating.specs.Pairs.{games_of}
use Rattle.meaning.specs.Games.{Terms}
use Rattle.meaning.specs.Calls.{Hall, entry_at, put, in_range, play_refusal, rule_refusal, tell_refusal, after_play, played, ruled_entry, ruled_entries}

module _ (T : Terms) (hall : Hall) (g : ℕ) (us : List ℕ) where
  module _ (roomy : games_of T.entrants * T.limit ≤ length hall.space) (is_game : g < games_of T.entrants) (few : length us ≤ 64) (ranged : in_range us ≡ true) where
    pub play_ended : is_going (entry_at hall g).verdict ≡ false → play_refusal T hall g us ≡ Some 8
    play_ended e = grind (arith, nat_tests)

    pub play_allowed : is_going (entry_at hall g).verdict ≡ true → play_refusal T hall g us ≡ None
    play_allowed e = grind (arith, nat_tests)

  pub played_refused : (n : ℕ) → play_refusal T hall g us ≡ Some n → played T hall g us ≡ hall
  played_refused n e = grind (arith, nat_tests)

  pub played_allowed : play_refusal T hall g us ≡ None → played T hall g us ≡ put T hall g (after_play T hall g us)
  played_allowed e = grind (arith, nat_tests)

module _ (T : Terms) (entries : List Entry) (g : ℕ) where
  pub rule_allowed : g < games_of T.entrants → is_going (slice_index_or entries g fresh).verdict ≡ true → rule_refusal T entries g ≡ None
  rule_allowed h e = grind (arith, nat_tests)

  pub ruled_refused : (loser : Side) (n : ℕ) → rule_refusal T entries g ≡ Some n → ruled_entries T entries g loser ≡ entries
  ruled_refused loser n e = grind (arith, nat_tests)

  pub ruled_allowed : (loser : Side) → rule_refusal T entries g ≡ None → ruled_entries T entries g loser ≡ slice_set entries g (ruled_entry T (slice_index_or entries g fresh) loser)
  ruled_allowed loser e = grind (arith, nat_tests)

pub tell_allowed : (T : Terms) (size g : ℕ) → games_of T.entrants * T.limit ≤ size → g < games_of T.entrants → tell_refusal T size g ≡ None
tell_allowed T size g roomy h = grind (arith, nat_tests)
