-- The judge's run over a game's turns stands where the game does.
use Rattle.std.proofs.Common.{◌≡◌, ℕ, ◌+◌, true, leb, List, [], ◌∷◌, ◌++◌, length, Some, None, Option, refl, ap, ◌∙◌, arith, eq-eqb}
use Rattle.std.proofs.lemmas.Bool.Decides.{nat_tests}
use Rattle.side.specs.declared.Side.{Side}
use Rattle.side.specs.declared.Side.TheVariants.{First}
use Rattle.side.specs.TwoSides.{opponent}
use Rattle.clock.specs.Times.{Times}
use Rattle.rules.specs.Plans.{RulesPlan}
use Rattle.verdict.specs.declared.Turn.{Turn}
use Rattle.verdict.specs.declared.Verdict.{Verdict}
use Rattle.verdict.specs.declared.Verdict.TheVariants.{Ruling}
use Rattle.verdict.specs.Verdicts.{verdict_number}
use Rattle.entry.specs.declared.Event.{Event}
use Rattle.entry.specs.Entries.{noted}
use Rattle.format.specs.Layout.{Content, encode}
use Rattle.format.specs.Promises.{Reads}
use Rattle.format.proofs.Back.{reads_back}
use Rattle.meaning.specs.Turns.{Point, event_of, turn_of, past_turn, mover}
use Rattle.meaning.specs.Games.{Terms, Game, new_game, start_point, point_at, to_move, answer_at, one, ruled, told_of, content_of_game}
use Rattle.meaning.specs.Calls.{Hall, known}
use Rattle.meaning.specs.History.{Item, reading, lost_by, feed, game_from, game_of}
use Rattle.meaning.specs.Judging.{Run, stands, broken, judged, written_event, follows, accepts, weighed, judge_content, judge_of, lefts_place}
use Rattle.meaning.specs.Promises.{KeptTerms, LiesTrue, Agrees}
use Rattle.meaning.proofs.Walks.{past_push}
use Rattle.meaning.proofs.Fits.{InRange, feed_in_range, game_fits}

-- where a run stands it goes on
abbrev pub on_run : Run → (Point → Option Verdict → Run) → Run
on_run (stands x s) more = more x s
on_run (broken i) more = broken i

pub judged_append : (limit : ℕ) (x : Point) (side : Side) (s : Option Verdict) (i : ℕ) (ts us : List Turn) → judged limit x side s i (ts ++ us) ≡ on_run (judged limit x side s i ts) (λ y r. judged limit y (mover side ts) r (i + length ts) us)
judged_append limit x side s i [] us = let e : i ≡ i + 0 = omega arith in ap (λ (n : ℕ). judged limit x side s n us) e
judged_append limit x side None i (t ∷ ts) us =
    let e : i + 1 + length ts ≡ i + length (t ∷ ts) = omega arith in
    let more : ℕ → Point → Option Verdict → Run = λ n y r. judged limit y (mover side (t ∷ ts)) r n us in
    let go : Event → List Turn → Run = λ event rest. judged limit (past_turn x side t) (opponent side) (noted (leb limit (i + 1)) None event) (i + 1) rest in
    let ran : Option Event → List Turn → Run = λ o rest. elim o as (λ p. Run) [ None ↦ broken i | Some event ↦ go event rest ] in
    elim (written_event x side t) as (λ o. ran o (ts ++ us) ≡ on_run (ran o ts) (more (i + length (t ∷ ts)))) [
      | None ↦ refl
      | Some event ↦
          judged_append limit (past_turn x side t) (opponent side) (noted (leb limit (i + 1)) None event) (i + 1) ts us
          ∙ ap (λ (n : ℕ). on_run (go event ts) (more n)) e
    ]
judged_append limit x side (Some v) i (t ∷ ts) us = refl

-- a turn of the game is read as what happened in it
written_back : (x : Point) (side : Side) (u code : ℕ) → written_event x side (turn_of x side u code) ≡ Some (event_of x side u code)
written_back x side u code = grind (arith, nat_tests)

abbrev run_of : Terms → List Turn → Run
run_of T ts = judged T.limit (start_point T) First None 0 ts

-- one turn more of an open game
run_turn : (T : Terms) (g : ℕ) (ts : List Turn) (u : ℕ) → run_of T ts ≡ stands (point_at T ts) None
    → run_of T (one T g (record { turns = ts; verdict = None }) u).turns
    ≡ stands (point_at T (one T g (record { turns = ts; verdict = None }) u).turns) (one T g (record { turns = ts; verdict = None }) u).verdict
run_turn T g ts u e =
    let t : Turn = turn_of (point_at T ts) (to_move ts) u (answer_at T g ts) in
    grind (arith, nat_tests, e, judged_append T.limit (start_point T) First None 0 ts (t ∷ []), written_back (point_at T ts) (to_move ts) u (answer_at T g ts), past_push (start_point T) First ts t)

-- how the game stands is what its turns make of it, or a ruling where they leave it open
data Stood (T : Terms) (ts : List Turn) : Option Verdict → Type 0 where
  by_turns : {s : Option Verdict} → run_of T ts ≡ stands (point_at T ts) s → Stood T ts s
  by_ruling : (winner : Side) → run_of T ts ≡ stands (point_at T ts) None → Stood T ts (Some (Ruling winner))

stood_one : (T : Terms) (g : ℕ) (ts : List Turn) (s : Option Verdict) (u : ℕ) → Stood T ts s → Stood T (one T g (record { turns = ts; verdict = s }) u).turns (one T g (record { turns = ts; verdict = s }) u).verdict
stood_one T g ts None u (by_turns e) = by_turns (run_turn T g ts u e)
stood_one T g ts (Some v) u h = h

stood_ruled : (T : Terms) (ts : List Turn) (s : Option Verdict) (loser : Side) → Stood T ts s → Stood T ts (ruled T (record { turns = ts; verdict = s }) loser).verdict
stood_ruled T ts None loser (by_turns e) = by_ruling (opponent loser) e
stood_ruled T ts (Some v) loser h = h

stood_from : (T : Terms) (g : ℕ) (x : Game) (is : List Item) → Stood T x.turns x.verdict → Stood T (game_from T g x is).turns (game_from T g x is).verdict
stood_from T g x [] h = h
stood_from T g x (reading u ∷ is) h = stood_from T g (one T g x u) is (stood_one T g x.turns x.verdict u h)
stood_from T g x (lost_by loser ∷ is) h = stood_from T g (ruled T x loser) is (stood_ruled T x.turns x.verdict loser h)

game_stood : (T : Terms) (g : ℕ) (is : List Item) → Stood T (game_of T g is).turns (game_of T g is).verdict
game_stood T g is = stood_from T g new_game is (by_turns refl)

-- a verdict that the turns led to follows from them
follows_own : (s : Option Verdict) → follows s s ≡ true
follows_own None = refl
follows_own (Some v) = eq-eqb (verdict_number v) (verdict_number v) refl

-- where the verdict follows, the lefts are the point's own
accepted : (T : Terms) (g : ℕ) (x : Game) (place : ℕ) (s : Option Verdict) → run_of T x.turns ≡ stands (point_at T x.turns) s → follows s x.verdict ≡ true
    → weighed (content_of_game T g x) place (run_of T x.turns) ≡ accepts (told_of T x)
accepted T g x place s e f = grind (arith, nat_tests)

stood_accepted : (T : Terms) (g : ℕ) (ts : List Turn) (s : Option Verdict) (place : ℕ) → Stood T ts s
    → weighed (content_of_game T g (record { turns = ts; verdict = s })) place (run_of T ts) ≡ accepts (told_of T (record { turns = ts; verdict = s }))
stood_accepted T g ts s place (by_turns e) = accepted T g (record { turns = ts; verdict = s }) place s e (follows_own s)
stood_accepted T g ts s place (by_ruling winner e) = accepted T g (record { turns = ts; verdict = Some (Ruling winner) }) place None e refl

judge_reads : (rules : RulesPlan) (clock : Times) (b : List ℕ) (c : Content) → Reads b c → judge_of rules clock b ≡ judge_content rules clock c (lefts_place c)
unfolding judge_of
judge_reads rules clock b c r = rw (r.faultless, judge_of) (ap (λ (d : Content). judge_content rules clock d (lefts_place d)) r.says)

-- the judge, given the record of what the rules make of a feed, answers what is told of that game
pub agreed : (codes longest : ℕ) (T : Terms) → KeptTerms codes longest T → (g : ℕ) → known T g ≡ true → (is : List Item) → InRange is
    → judge_of T.plans.rules T.plans.clock (encode (content_of_game T g (game_of T g is))) ≡ accepts (told_of T (game_of T g is))
agreed codes longest T kept g k is r =
    let x : Game = game_of T g is in
    let c : Content = content_of_game T g x in
    judge_reads T.plans.rules T.plans.clock (encode c) c (reads_back c (game_fits codes longest T kept g k is r))
    ∙ stood_accepted T g x.turns x.verdict (lefts_place c) (game_stood T g is)

-- so it does of the game that lies in a hall, where that is what the rules make of its feed
pub agrees : (codes longest : ℕ) (T : Terms) → KeptTerms codes longest T → (hall : Hall) (g : ℕ) → LiesTrue T hall g → Agrees T hall g
agrees codes longest T kept hall g lies h reached k =
    ap (λ (x : Game). judge_of T.plans.rules T.plans.clock (encode (content_of_game T g x))) (lies h reached k)
    ∙ agreed codes longest T kept g k (feed T g h) (feed_in_range T g h)
