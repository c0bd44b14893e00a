-- The loop of play: one turn more of a game that lies in a hall, and where the loop stands between two turns.
use Rattle.std.proofs.Common.{◌≡◌, ℕ, ◌+◌, ◌*◌, ◌<◌, ◌≤◌, Bool, true, false, cond, leb, List, [], ◌∷◌, ◌++◌, length, get_or, drop, set, Option, sym, refl, ap, ◌∙◌, subst, ap₂, append_assoc, arith}
use mathlib.Core.Path.{fun_ext}
use Rattle.std.proofs.lemmas.List.{length-append, length-take, length-drop, length_push, map_push, set-set, set-get_or, at_drop_more, at_drop_all}
use Rattle.std.proofs.lemmas.Bool.Decides.{nat_tests}
use Rattle.side.specs.declared.Side.{Side}
use Rattle.side.specs.declared.Side.TheVariants.{First}
use Rattle.side.specs.TwoSides.{opponent, of_side}
use Rattle.player.specs.Answers.{Answers, shown}
use Rattle.verdict.specs.declared.Turn.{Turn}
use Rattle.verdict.specs.declared.Verdict.{Verdict}
use Rattle.entry.specs.declared.Event.{Event}
use Rattle.entry.specs.Entries.{fresh, is_going, noted}
use Rattle.seating.specs.Pairs.{games_of, seats_of}
use Rattle.format.specs.Laid.{laid}
use Rattle.meaning.specs.Turns.{Point, event_of, turn_of, past_turn}
use Rattle.meaning.specs.Games.{Terms, Game, start_point, point_at, to_move, codes_of, answer_at, is_last, turned, one, several}
use Rattle.meaning.specs.Calls.{Hall, entry_at, game_at, entry_of, put, after_play, turns_made}
use Rattle.meaning.proofs.Walks.{past_push, mover_push}
use Rattle.meaning.proofs.Space.{laid_same, laid_push, laid_over}
use Rattle.meaning.proofs.Rooms.{wants, room, Roomy, in_space, turns_lie, room_at, room_one, put_same, roomy_put}
use Rattle.meaning.proofs.Runs.{several_ended}

-- the answers that are left once codes were shown
abbrev pub after_shown : Answers → List ℕ → Answers
after_shown plan codes w = plan (codes ++ w)

pub shown_push : (plan : Answers) (codes : List ℕ) (code : ℕ) → shown (after_shown plan codes) code ≡ after_shown plan (codes ++ (code ∷ []))
shown_push plan codes code = fun_ext (λ w. ap plan (sym (append_assoc codes (code ∷ []) w)))

-- the answer of the side to move, by the codes shown
abbrev pub answer_of : Terms → ℕ → Side → List ℕ → ℕ
answer_of T g side codes = T.plans.bank (of_side side (seats_of T.entrants g)) side codes

-- the hall after a turn is written: the game's entry counts it, and it stands at the game's next place
abbrev pub stepped : Terms → ℕ → Hall → Event → Turn → Hall
stepped T g hall event t = record {
  entries = set hall.entries g (record { turns = (entry_at hall g).turns + 1; verdict = noted (leb T.limit ((entry_at hall g).turns + 1)) (entry_at hall g).verdict event });
  space = set hall.space (g * T.limit + (entry_at hall g).turns) t;
}

-- where the loop of play stands: i readings are done and count turns made; point, side to move and codes shown are those of the game that lies there
pub record Standing (T : Terms) (g : ℕ) (hall₀ hall : Hall) (us : List ℕ) (i : ℕ) (x : Point) (side : Side) (codes : List ℕ) (count : ℕ) : Type 0 where
  pub rest : several T g (game_at T hall g) (drop i us) ≡ several T g (game_at T hall₀ g) us
  pub at : x ≡ point_at T (game_at T hall g).turns
  pub moves : side ≡ to_move (game_at T hall g).turns
  pub seen : codes ≡ codes_of (game_at T hall g).turns
  pub lies : hall ≡ put T hall₀ g (game_at T hall g)
  pub since : (entry_at hall g).turns ≡ (entry_at hall₀ g).turns + count
  pub few : count ≤ i
  pub roomy : Roomy T hall

-- an open game has one turn to come
going_wants : (s : Option Verdict) → is_going s ≡ true → wants s ≡ 1
going_wants s e = grind (arith, nat_tests)

-- a later game of the same number takes the place of an earlier
put_over : (T : Terms) (hall : Hall) (g : ℕ) (x y : Game) → length x.turns ≤ length y.turns → g * T.limit + length x.turns ≤ length hall.space → put T (put T hall g x) g y ≡ put T hall g y
put_over T hall g x y h k = λ i. record {
  entries = set-set hall.entries g (entry_of x) (entry_of y) i;
  space = laid_over hall.space (g * T.limit) x.turns y.turns h k i;
}

-- a list over which another was laid up to a place within it was as long
long_before : (sp ts : List Turn) (base : ℕ) → base + length ts < length (laid sp base ts) → base + length ts ≤ length sp
long_before sp ts base h = let k = simp (length-append, length-take, length-drop) at h in omega (arith, k)

module _ (T : Terms) (most : T.entrants ≤ 16) (g : ℕ) (named : g < games_of T.entrants) where
  -- an open game has a place for one turn more
  pub next_place : (hall : Hall) → Roomy T hall → is_going (entry_at hall g).verdict ≡ true → g * T.limit + (entry_at hall g).turns < length hall.space
  next_place hall ok e =
      let w = ok.within g in
      let o = going_wants (entry_at hall g).verdict e in
      let p = in_space T most hall ok g ((entry_at hall g).turns + 1) named (omega arith) in
      omega arith

  -- to write a turn is to put the game with that turn
  pub stepped_put : (hall : Hall) (event : Event) (t : Turn) → Roomy T hall → is_going (entry_at hall g).verdict ≡ true
      → stepped T g hall event t ≡ put T hall g (record { turns = (game_at T hall g).turns ++ (t ∷ []); verdict = noted (is_last T (game_at T hall g).turns) (entry_at hall g).verdict event })
  stepped_put hall event t ok e =
      let base : ℕ = g * T.limit in
      let n : ℕ = (entry_at hall g).turns in
      let ts : List Turn = (game_at T hall g).turns in
      let long : n ≡ length ts = sym (turns_lie T most hall ok g named) in
      let place : base + n < length hall.space = next_place hall ok e in
      let count : n + 1 ≡ length (ts ++ (t ∷ [])) = omega (arith, length_push ts t) in
      let laying : set hall.space (base + n) t ≡ laid hall.space base (ts ++ (t ∷ [])) =
      ap₂ (λ (l : List Turn) (m : ℕ). set l (base + m) t) (sym (laid_same hall.space base n (omega arith))) long ∙ laid_push hall.space base ts t (omega arith) in
      λ i. record {
        entries = set hall.entries g (record { turns = count i; verdict = noted (leb T.limit (long i + 1)) (entry_at hall g).verdict event });
        space = laying i;
      }

  pub standing_start : (hall : Hall) (us : List ℕ) (x : Point) (side : Side) (codes : List ℕ) → Roomy T hall
      → x ≡ point_at T (game_at T hall g).turns → side ≡ to_move (game_at T hall g).turns → codes ≡ codes_of (game_at T hall g).turns → Standing T g hall hall us 0 x side codes 0
  standing_start hall us x side codes ok ex es ec =
      let n : ℕ = (entry_at hall g).turns in
      let long : length (game_at T hall g).turns ≡ n = turns_lie T most hall ok g named in
      let w = ok.within g in
      let entry : set hall.entries g (entry_of (game_at T hall g)) ≡ hall.entries =
      (λ i. set hall.entries g (record { turns = long i; verdict = (entry_at hall g).verdict })) ∙ set-get_or hall.entries g fresh in
      let same : laid hall.space (g * T.limit) (game_at T hall g).turns ≡ hall.space =
      laid_same hall.space (g * T.limit) n (in_space T most hall ok g n named (omega arith)) in
      record {
        rest = refl;
        at = ex;
        moves = es;
        seen = ec;
        lies = sym (λ i. record { entries = entry i; space = same i });
        since = omega arith;
        few = omega arith;
        roomy = ok;
      }

  -- one turn more, by the next reading and the answer of the side to move
  pub standing_more : {hall₀ hall : Hall} {us : List ℕ} {i : ℕ} {x : Point} {side : Side} {codes : List ℕ} {count : ℕ} (u code : ℕ) → Standing T g hall₀ hall us i x side codes count
      → is_going (entry_at hall g).verdict ≡ true → i < length us → u ≡ get_or us i 0 → code ≡ answer_of T g side codes
      → Standing T g hall₀ (stepped T g hall (event_of x side u code) (turn_of x side u code)) us (i + 1) (past_turn x side (turn_of x side u code)) (opponent side) (codes ++ ((turn_of x side u code).code ∷ [])) (count + 1)
  standing_more {hall₀} {hall} {us} {i} {x} {side} {codes} {count} u code s going within eu answers =
      let base : ℕ = g * T.limit in
      let n : ℕ = (entry_at hall g).turns in
      let G : Game = game_at T hall g in
      let ts : List Turn = G.turns in
      let t : Turn = turn_of x side u code in
      let event : Event = event_of x side u code in
      let hall' : Hall = stepped T g hall event t in
      let G' : Game = record { turns = ts ++ (t ∷ []); verdict = noted (is_last T ts) G.verdict event } in
      let long : length ts ≡ n = turns_lie T most hall s.roomy g named in
      let pushed : length (ts ++ (t ∷ [])) ≡ length ts + 1 = length_push ts t in
      let place : base + n < length hall.space = next_place hall s.roomy going in
      let answer : code ≡ answer_at T g ts = answers ∙ ap₂ (answer_of T g) s.moves s.seen in
      let is_turned : G' ≡ turned T g G u = λ j. record {
        turns = ts ++ (turn_of (s.at j) (s.moves j) u (answer j) ∷ []);
        verdict = noted (is_last T ts) G.verdict (event_of (s.at j) (s.moves j) u (answer j));
      } in
      let is_one : G' ≡ one T g G u = is_turned ∙ ap (λ (b : Bool). cond b (turned T g G u) G) (sym going) in
      let put' : hall' ≡ put T hall g G' = stepped_put hall event t s.roomy going in
      let game : game_at T hall' g ≡ G' = ap (λ (h : Hall). game_at T h g) put' ∙ put_same T most hall s.roomy g G' named in
      let fits : room (entry_of G') ≤ T.limit = subst (λ (y : Game). room (entry_of y) ≤ T.limit) (sym is_one) (room_one T g ts G.verdict u (room_at T most hall s.roomy g named)) in
      let roomy' : Roomy T hall' = subst (Roomy T) (sym put') (roomy_put T most hall s.roomy g G' named fits) in
      let wide : length hall.space ≡ length (laid hall₀.space base ts) = ap (λ (h : Hall). length h.space) s.lies in
      let before : base + length ts ≤ length hall₀.space = long_before hall₀.space ts base (omega arith) in
      let count' : (entry_at hall' g).turns ≡ n + 1 = sym (turns_lie T most hall' roomy' g named) ∙ ap (λ (y : Game). length y.turns) game ∙ pushed ∙ ap (λ (m : ℕ). m + 1) long in
      record {
        rest = ap (λ (y : Game). several T g y (drop (i + 1) us)) (game ∙ is_one)
            ∙ ap (λ (v : ℕ). several T g (one T g G v) (drop (i + 1) us)) eu
            ∙ sym (at_drop_more (several T g G) us i 0 within) ∙ s.rest;
        at = ap₂ (λ (y : Point) (m : Side). past_turn y m t) s.at s.moves ∙ sym (past_push (start_point T) First ts t) ∙ ap (λ (y : Game). point_at T y.turns) (sym game);
        moves = ap opponent s.moves ∙ sym (mover_push First ts t) ∙ ap (λ (y : Game). to_move y.turns) (sym game);
        seen = ap (λ (l : List ℕ). l ++ (t.code ∷ [])) s.seen ∙ sym (map_push (λ (y : Turn). y.code) ts t) ∙ ap (λ (y : Game). codes_of y.turns) (sym game);
        lies = put' ∙ ap (λ (h : Hall). put T h g G') s.lies ∙ put_over T hall₀ g G G' (omega arith) before ∙ ap (put T hall₀ g) (sym game);
        since = let q = s.since in omega arith;
        few = let q = s.few in omega arith;
        roomy = roomy';
      }

  -- the same, of what the code holds after the turn
  pub standing_next : {hall₀ hall : Hall} {us : List ℕ} {i : ℕ} {x : Point} {side : Side} {codes : List ℕ} {count : ℕ} (hall' : Hall) (x' : Point) (side' : Side) (codes' : List ℕ) (u code : ℕ) (event : Event) (t : Turn)
      → Standing T g hall₀ hall us i x side codes count → is_going (entry_at hall g).verdict ≡ true → i < length us → u ≡ get_or us i 0 → code ≡ answer_of T g side codes
      → event ≡ event_of x side u code → t ≡ turn_of x side u code
      → hall'.entries ≡ (stepped T g hall event t).entries → hall'.space ≡ (stepped T g hall event t).space
      → x' ≡ past_turn x side t → side' ≡ opponent side → codes' ≡ codes ++ (t.code ∷ [])
      → Standing T g hall₀ hall' us (i + 1) x' side' codes' (count + 1)
  standing_next {hall₀} {hall} {us} {i} {x} {side} {codes} {count} hall' x' side' codes' u code event t s going within eu answers ev et ee es ex ed ec =
      let more = standing_more u code s going within eu answers in
      let e₁ : event_of x side u code ≡ event = sym ev in
      let e₂ : turn_of x side u code ≡ t = sym et in
      let halls : stepped T g hall (event_of x side u code) (turn_of x side u code) ≡ hall' =
      ap₂ (stepped T g hall) e₁ e₂ ∙ (λ j. record { entries = sym ee j; space = sym es j }) in
      let points : past_turn x side (turn_of x side u code) ≡ x' = ap (past_turn x side) e₂ ∙ sym ex in
      let codes_are : codes ++ ((turn_of x side u code).code ∷ []) ≡ codes' = ap (λ (y : Turn). codes ++ (y.code ∷ [])) e₂ ∙ sym ec in
      subst (λ (P : Type 0). P) (λ j. Standing T g hall₀ (halls j) us (i + 1) (points j) (sym ed j) (codes_are j) (count + 1)) more

  -- the end of the loop, once nothing that is left changes the game
  pub standing_all : {hall₀ hall : Hall} {us : List ℕ} {i : ℕ} {x : Point} {side : Side} {codes : List ℕ} {count : ℕ} → Standing T g hall₀ hall us i x side codes count
      → several T g (game_at T hall g) (drop i us) ≡ game_at T hall g → (hall ≡ put T hall₀ g (after_play T hall₀ g us)) × (count ≡ turns_made T hall₀ g us)
  standing_all {hall₀} {hall} {us} s done =
      let same : game_at T hall g ≡ after_play T hall₀ g us = sym done ∙ s.rest in
      let a : length (game_at T hall g).turns ≡ length (after_play T hall₀ g us).turns = ap (λ (y : Game). length y.turns) same in
      let b = turns_lie T most hall s.roomy g named in
      let c = s.since in
      (s.lies ∙ ap (put T hall₀ g) same, omega arith)

  -- the readings are used up
  pub standing_used : {hall₀ hall : Hall} {us : List ℕ} {i : ℕ} {x : Point} {side : Side} {codes : List ℕ} {count : ℕ} → Standing T g hall₀ hall us i x side codes count
      → length us ≤ i → (hall ≡ put T hall₀ g (after_play T hall₀ g us)) × (count ≡ turns_made T hall₀ g us)
  standing_used {hall₀} {hall} {us} {i} s h = standing_all s (at_drop_all (several T g (game_at T hall g)) us i h)

  -- the game has ended
  pub standing_over : {hall₀ hall : Hall} {us : List ℕ} {i : ℕ} {x : Point} {side : Side} {codes : List ℕ} {count : ℕ} → Standing T g hall₀ hall us i x side codes count
      → is_going (entry_at hall g).verdict ≡ false → (hall ≡ put T hall₀ g (after_play T hall₀ g us)) × (count ≡ turns_made T hall₀ g us)
  standing_over {hall₀} {hall} {us} {i} s e = standing_all s (several_ended T g (game_at T hall g) (drop i us) e)
