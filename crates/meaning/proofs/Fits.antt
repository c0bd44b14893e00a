-- What the rules make of any feed within range fits a record.
use Rattle.std.proofs.Common.{◌≡◌, ℕ, ◌+◌, ◌<◌, ◌≤◌, Bool, true, false, cond, ◌&&◌, eqb, leb, ◌≢◌, List, [], ◌∷◌, ◌++◌, map, length, Some, None, Option, refl, arith, length-append, ltb-true, leb-false, leb-true}
use Rattle.std.specs.List.{AllByRecursion as All}
use Rattle.std.proofs.ByRecursion.{All-append, All-push}
use Rattle.std.proofs.lemmas.Bool.{and_parts, cond_both}
use Rattle.std.proofs.lemmas.Bool.Decides.{nat_tests}
use Rattle.side.specs.declared.Side.{Side}
use Rattle.side.specs.declared.Side.TheVariants.{First, Second}
use Rattle.side.specs.declared.PerSide.{PerSide}
use Rattle.verdict.specs.declared.Turn.{Turn}
use Rattle.verdict.specs.declared.Verdict.{Verdict}
use Rattle.entry.specs.declared.Event.{Event}
use Rattle.entry.specs.Entries.{in_open}
use Rattle.seating.specs.Pairs.{seats_of, low_of, high_of, games_of}
use Rattle.seating.proofs.Computed.{seating_right}
use Rattle.format.specs.Layout.{WellFormed, TurnFits}
use Rattle.meaning.specs.Turns.{in_time, event_of, turn_of}
use Rattle.meaning.specs.Games.{Terms, Game, new_game, point_at, to_move, answer_at, is_last, one, ruled, content_of_game}
use Rattle.meaning.specs.Calls.{known, in_range}
use Rattle.meaning.specs.History.{Call, playing, ruling, Item, reading, lost_by, fed, feed, game_from, game_of}
use Rattle.meaning.specs.Promises.{KeptTerms}
use Rattle.meaning.proofs.Lefts.{left_in_law}

abbrev ItemInRange : Item → Type 0
ItemInRange (reading u) = u ≤ 86400000
ItemInRange (lost_by loser) = Unit {0}

-- each reading of a feed is one that a call may bring
abbrev pub InRange : List Item → Type 0
InRange is = All ItemInRange is

readings_in_range : (us : List ℕ) → in_range us ≡ true → InRange (map reading us)
readings_in_range [] e = tt
readings_in_range (u ∷ us) e = let p = and_parts (leb u 86400000) (in_range us) e in (leb-true _ _ p.0, readings_in_range us p.1)

fed_in_range : (T : Terms) (g : ℕ) (call : Call) → InRange (fed T g call)
fed_in_range T g (playing j us) =
    cond_both (eqb j g && (known T j && (leb (length us) 64 && in_range us))) _ _ InRange
    (λ e. readings_in_range us (and_parts (leb (length us) 64) _ (and_parts (known T j) _ (and_parts (eqb j g) _ e).1).1).1)
    (λ e. tt)
fed_in_range T g (ruling j loser) = cond_both (eqb j g && known T j) _ _ InRange (λ e. (tt, tt)) (λ e. tt)
fed_in_range T g call = tt

pub feed_in_range : (T : Terms) (g : ℕ) (h : List Call) → InRange (feed T g h)
feed_in_range T g [] = tt
feed_in_range T g (call ∷ h) = All-append ItemInRange (feed T g h) (fed T g call) (feed_in_range T g h) (fed_in_range T g call)

-- what a known game's seats are
record Seated (seats : PerSide ℕ) : Type 0 where
  first_entrant : seats.first ≤ 15
  second_entrant : seats.second ≤ 15
  two_entrants : seats.second ≢ seats.first

seats_fit : (a b : ℕ) (lower : Bool) → a < b → b ≤ 15 → Seated (cond lower (record { first = a; second = b }) (record { first = b; second = a }))
seats_fit a b lower l m = record { first_entrant = grind (arith, nat_tests); second_entrant = grind (arith, nat_tests); two_entrants = λ q. grind (arith, nat_tests) }

seats_right : (n g : ℕ) → n ≤ 16 → g < games_of n → Seated (seats_of n g)
seats_right n g few within =
    let p = seating_right.pair n g few within in
    let most : high_of n g ≤ 15 = omega (arith, p.1) in
    seats_fit (low_of n g) (high_of n g) _ p.0 most

-- a game goes on only where its turn was not the last
open_not_last : (last : Bool) (event : Event) → in_open last event ≡ None → last ≡ false
open_not_last last event e = grind (arith, nat_tests)

-- an open game has room for a turn
record Fit (limit : ℕ) (ts : List Turn) (s : Option Verdict) : Type 0 where
  within : length ts ≤ limit
  room : s ≡ None → length ts + 1 ≤ limit
  turns_fit : All TurnFits ts

module _ (codes longest : ℕ) (T : Terms) (kept : KeptTerms codes longest T) (g : ℕ) where
  turn_fits : (ts : List Turn) (u : ℕ) → u ≤ 86400000 → TurnFits (turn_of (point_at T ts) (to_move ts) u (answer_at T g ts))
  turn_fits ts u h = record {
    code_fits = cond_both (in_time (point_at T ts) (to_move ts) u) _ _ (λ c. c ≤ 65535) (λ e. kept.coded _ (to_move ts) _) (λ e. omega arith);
    reading_fits = h;
  }

  fit_one : (ts : List Turn) (s : Option Verdict) (u : ℕ) → u ≤ 86400000 → Fit T.limit ts s
      → Fit T.limit (one T g (record { turns = ts; verdict = s }) u).turns (one T g (record { turns = ts; verdict = s }) u).verdict
  fit_one ts None u h fit =
      let t : Turn = turn_of (point_at T ts) (to_move ts) u (answer_at T g ts) in
      let r : length ts + 1 ≤ T.limit = fit.room refl in
      let l : length (ts ++ (t ∷ [])) ≡ length ts + 1 = length-append ts (t ∷ []) in
      record {
        within = omega arith;
        room = λ e.
            let b : length ts + 1 < T.limit = leb-false T.limit (length ts + 1) (open_not_last (is_last T ts) (event_of (point_at T ts) (to_move ts) u (answer_at T g ts)) e) in
            omega arith;
        turns_fit = All-push TurnFits ts t fit.turns_fit (turn_fits ts u h);
      }
  fit_one ts (Some v) u h fit = fit

  fit_ruled : (ts : List Turn) (s : Option Verdict) (loser : Side) → Fit T.limit ts s → Fit T.limit ts (ruled T (record { turns = ts; verdict = s }) loser).verdict
  fit_ruled ts None loser fit = record { within = fit.within; room = λ e. fit.room refl; turns_fit = fit.turns_fit }
  fit_ruled ts (Some v) loser fit = fit

  fit_from : (x : Game) (is : List Item) → InRange is → Fit T.limit x.turns x.verdict → Fit T.limit (game_from T g x is).turns (game_from T g x is).verdict
  fit_from x [] r fit = fit
  fit_from x (reading u ∷ is) r fit = fit_from (one T g x u) is r.1 (fit_one x.turns x.verdict u r.0 fit)
  fit_from x (lost_by loser ∷ is) r fit = fit_from (ruled T x loser) is r.1 (fit_ruled x.turns x.verdict loser fit)

  game_fit : (is : List Item) → InRange is → Fit T.limit (game_of T g is).turns (game_of T g is).verdict
  game_fit is r = fit_from new_game is r (record { within = omega arith; room = λ e. omega (arith, kept.limit_least); turns_fit = tt })

  pub game_fits : known T g ≡ true → (is : List Item) → InRange is → WellFormed (content_of_game T g (game_of T g is))
  game_fits k is r =
      let seats = seats_right T.entrants g kept.entrants_most (ltb-true _ _ k) in
      let fit = game_fit is r in
      record {
        first_entrant = seats.first_entrant;
        second_entrant = seats.second_entrant;
        two_entrants = seats.two_entrants;
        limit_least = kept.limit_least;
        limit_most = kept.limit_most;
        text_least = kept.text_least;
        text_most = kept.text_most;
        text_bytes = kept.text_bytes;
        within_limit = fit.within;
        turns_fit = fit.turns_fit;
        first_in_law = left_in_law T kept.bounded (game_of T g is).turns First;
        second_in_law = left_in_law T kept.bounded (game_of T g is).turns Second;
      }
