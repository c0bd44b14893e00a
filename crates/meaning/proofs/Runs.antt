-- Whatever calls were made, the game that lies in the hall is what the rules make of its feed.
use Rattle.std.proofs.Common.{◌≡◌, ℕ, ◌*◌, ◌<◌, ◌≤◌, Bool, false, cond, ◌≢◌, List, [], ◌∷◌, length, take, drop, sym, refl, ap, ◌∙◌, subst, arith, inl, inr}
use Rattle.std.proofs.lemmas.List.{get_or-set_same, get_or-set_other}
use Rattle.std.proofs.lemmas.List.Folds.{fold-map}
use Rattle.std.proofs.lemmas.List.Sums.{fold-append}
use Rattle.std.proofs.lemmas.Bool.{ltb-true, cases_eq}
use Rattle.std.proofs.lemmas.Bool.Decides.{nat_tests}
use Rattle.side.specs.declared.Side.{Side}
use Rattle.entry.specs.declared.Entry.{Entry}
use Rattle.entry.specs.Entries.{fresh, is_going}
use Rattle.seating.specs.Pairs.{games_of}
use Rattle.meaning.specs.Games.{Terms, Game, new_game, turned, one, several}
use Rattle.meaning.specs.Calls.{Hall, entry_at, game_at, put, after_play, played, ruled_entry}
use Rattle.meaning.specs.History.{Call, playing, ruling, called, Reached, made, then, reading, fed, feed, item, game_from, game_of}
use Rattle.meaning.specs.Promises.{KeptTerms, LiesTrue}
use Rattle.meaning.proofs.Rooms.{Roomy, all_fresh, roomy_made, in_table, turns_lie, room_at, room_after, put_same, put_other, roomy_played, roomy_ruled}

-- no reading changes an ended game
pub several_ended : (T : Terms) (g : ℕ) (x : Game) (us : List ℕ) → is_going x.verdict ≡ false → several T g x us ≡ x
several_ended T g x [] e = refl
several_ended T g x (u ∷ us) e =
    let same : one T g x u ≡ x = ap (λ (b : Bool). cond b (turned T g x u) x) e in
    ap (λ (y : Game). several T g y us) same ∙ several_ended T g x us e

module _ (T : Terms) (most : T.entrants ≤ 16) (hall : Hall) (ok : Roomy T hall) where
  play_here : (g : ℕ) (us : List ℕ) → g < games_of T.entrants → game_at T (played T hall g us) g ≡ game_from T g (game_at T hall g) (fed T g (playing g us))
  play_here g us h =
      grind (arith, nat_tests, ok.wide, put_same T most hall ok g (after_play T hall g us) h, fold-map (item T g) reading (game_at T hall g) us, several_ended T g (game_at T hall g) us)

  play_elsewhere : (g j : ℕ) (us : List ℕ) → j ≢ g → g < games_of T.entrants → game_at T (played T hall j us) g ≡ game_from T g (game_at T hall g) (fed T g (playing j us))
  play_elsewhere g j us ne h =
      let other : j < games_of T.entrants → game_at T (put T hall j (after_play T hall j us)) g ≡ game_at T hall g =
      λ k. put_other T most hall ok g j (after_play T hall j us) (λ p. ne (sym p)) h k (room_after T most hall ok j us k) in
      grind (arith, nat_tests, other)

  rule_here : (g : ℕ) (loser : Side) → g < games_of T.entrants → game_at T (called T hall (ruling g loser)) g ≡ game_from T g (game_at T hall g) (fed T g (ruling g loser))
  rule_here g loser h = grind (arith, nat_tests, get_or-set_same hall.entries g (ruled_entry T (entry_at hall g) loser) fresh (in_table T most hall ok g h))

  rule_elsewhere : (g j : ℕ) (loser : Side) → j ≢ g → game_at T (called T hall (ruling j loser)) g ≡ game_from T g (game_at T hall g) (fed T g (ruling j loser))
  rule_elsewhere g j loser ne = grind (arith, nat_tests, get_or-set_other hall.entries j g (ruled_entry T (entry_at hall j) loser) fresh (λ p. ne (sym p)))

  -- a call does to each game what it feeds it
  pub call_step : (call : Call) (g : ℕ) → g < games_of T.entrants → game_at T (called T hall call) g ≡ game_from T g (game_at T hall g) (fed T g call)
  call_step (playing j us) g h =
      elim (cases_eq j g) [
        | inl is ↦ subst (λ (k : ℕ). game_at T (played T hall k us) g ≡ game_from T g (game_at T hall g) (fed T g (playing k us))) (sym is) (play_here g us h)
        | inr ne ↦ play_elsewhere g j us ne h
      ]
  call_step (ruling j loser) g h =
      elim (cases_eq j g) [
        | inl is ↦ subst (λ (k : ℕ). game_at T (called T hall (ruling k loser)) g ≡ game_from T g (game_at T hall g) (fed T g (ruling k loser))) (sym is) (rule_here g loser h)
        | inr ne ↦ rule_elsewhere g j loser ne
      ]
  call_step call g h = refl

  pub call_roomy : (call : Call) → Roomy T (called T hall call)
  call_roomy (playing j us) = roomy_played T most hall ok j us
  call_roomy (ruling j loser) = roomy_ruled T most hall ok j loser
  call_roomy call = ok

module _ (T : Terms) (most : T.entrants ≤ 16) (least : 1 ≤ T.limit) where
  pub reached_roomy : {h : List Call} {hall : Hall} → Reached T h hall → Roomy T hall
  reached_roomy (made space wide) = roomy_made T space least wide
  reached_roomy (then {h} {hall} call r e) = subst (Roomy T) (sym e) (call_roomy T most hall (reached_roomy r) call)

  -- a game has as many turns as its entry says
  pub reached_turns : {h : List Call} {hall : Hall} → Reached T h hall → (g : ℕ) → g < games_of T.entrants → length (game_at T hall g).turns ≡ (entry_at hall g).turns
  reached_turns {h} {hall} r g k = turns_lie T most hall (reached_roomy r) g k

  -- and no more than the limit
  pub reached_few : {h : List Call} {hall : Hall} → Reached T h hall → (g : ℕ) → g < games_of T.entrants → length (game_at T hall g).turns ≤ T.limit
  reached_few {h} {hall} r g k = let f = room_at T most hall (reached_roomy r) g k in omega arith

  pub reached_game : {h : List Call} {hall : Hall} → Reached T h hall → (g : ℕ) → g < games_of T.entrants → game_at T hall g ≡ game_of T g (feed T g h)
  reached_game (made space wide) g k =
      let lies : Entry → Game = λ e. record { turns = take e.turns (drop (g * T.limit) space); verdict = e.verdict } in
      ap lies (all_fresh 120 g)
  reached_game (then {h} {hall} call r e) g k =
      ap (λ (l : Hall). game_at T l g) e
      ∙ call_step T most hall (reached_roomy r) call g k
      ∙ ap (λ (x : Game). game_from T g x (fed T g call)) (reached_game r g k)
      ∙ sym (fold-append (item T g) new_game (feed T g h) (fed T g call))

pub lies_true : (codes longest : ℕ) (T : Terms) → KeptTerms codes longest T → (hall : Hall) (g : ℕ) → LiesTrue T hall g
lies_true codes longest T kept hall g h r e = reached_game T kept.entrants_most kept.limit_least r g (ltb-true g (games_of T.entrants) e)
