-- A game, its record and its cells depend on the two players of that game only.
use Rattle.std.specs.List.{fold}
use Rattle.std.proofs.Common.{◌≡◌, ℕ, ◌+◌, ◌≤◌, min, max, true, cond, eqb, ltb, leb, ◌≢◌, List, [], ◌∷◌, ◌++◌, length, get_or, Option, sym, ap, ◌∙◌, subst}
use mathlib.Core.Path.{fun_ext}
use Rattle.side.specs.declared.Side.{Side}
use Rattle.side.specs.declared.Side.TheVariants.{First, Second}
use Rattle.side.specs.declared.PerSide.{PerSide}
use Rattle.side.specs.TwoSides.{of_side}
use Rattle.verdict.specs.declared.Verdict.{Verdict}
use Rattle.entry.specs.declared.Event.TheVariants.{Ruling}
use Rattle.entry.specs.Entries.{fresh, noted, is_going}
use Rattle.seating.specs.Pairs.{games_of, seats_of, number_of}
use Rattle.format.specs.Layout.{encode}
use Rattle.meaning.specs.Turns.{event_of, turn_of, past_turns}
use Rattle.meaning.specs.Games.{Terms, Game, new_game, start_point, to_move, codes_of, answer_at, content_of_game}
use Rattle.meaning.specs.Calls.{Hall, game_at, known, result_for, record_bytes, meeting, cell}
use Rattle.meaning.specs.History.{Call, Reached, Item, reading, lost_by, feed, item, game_of, Alike, Without}
use Rattle.meaning.specs.Promises.{KeptTerms, LiesTrue, SameRecord, SameCells}

start_same : (k : ℕ) (T U : Terms) → Alike k T U → start_point T ≡ start_point U
start_same k T U alike = λ i. record { rules = alike.rules i; clock = alike.clock i }

neither : (k : ℕ) (seats : PerSide ℕ) → Without k seats → (s : Side) → of_side s seats ≢ k
neither k seats without First = without.first
neither k seats without Second = without.second

-- the two players of the game answer alike
answers_same : (k : ℕ) (T U : Terms) (g : ℕ) → Alike k T U → Without k (seats_of T.entrants g) → answer_at T g ≡ answer_at U g
answers_same k T U g alike without = fun_ext (λ ts.
    let s : Side = to_move ts in
    let seats : PerSide ℕ = seats_of T.entrants g in
    ap (λ (p : Side → List ℕ → ℕ). p s (codes_of ts)) (alike.bank (of_side s seats) (neither k seats without s))
    ∙ ap (λ n. U.plans.bank (of_side s (seats_of n g)) s (codes_of ts)) alike.entrants)

-- so each item makes the same of a game
item_same : (k : ℕ) (T U : Terms) (g : ℕ) → Alike k T U → Without k (seats_of T.entrants g) → (x : Game) (i : Item) → item T g x i ≡ item U g x i
item_same k T U g alike without x (reading u) = λ j. cond (is_going x.verdict) (record {
  turns = x.turns ++ (turn_of (past_turns (start_same k T U alike j) First x.turns) (to_move x.turns) u (answers_same k T U g alike without j x.turns) ∷ []);
  verdict = noted (leb (alike.limit j) (length x.turns + 1)) x.verdict (event_of (past_turns (start_same k T U alike j) First x.turns) (to_move x.turns) u (answers_same k T U g alike without j x.turns));
}) x
item_same k T U g alike without x (lost_by loser) = λ j. record { turns = x.turns; verdict = noted (leb (alike.limit j) (length x.turns + 1)) x.verdict (Ruling loser) }

pub alike_games : (k : ℕ) (T U : Terms) (g : ℕ) → Alike k T U → Without k (seats_of T.entrants g) → (is : List Item) → game_of T g is ≡ game_of U g is
alike_games k T U g alike without is = λ j. fold (λ x i. item_same k T U g alike without x i j) new_game is

pub alike_content : (k : ℕ) (T U : Terms) → Alike k T U → (g : ℕ) (x : Game) → content_of_game T g x ≡ content_of_game U g x
alike_content k T U alike g x = λ i. record {
  first = (seats_of (alike.entrants i) g).first;
  second = (seats_of (alike.entrants i) g).second;
  standing = x.verdict;
  limit = alike.limit i;
  text = alike.text i;
  turns = x.turns;
  first_left = (past_turns (start_same k T U alike i) First x.turns).clock First [];
  second_left = (past_turns (start_same k T U alike i) First x.turns).clock Second [];
}

-- where what lies in two halls is the same game, so are its record and the cells of its two entrants
pub bytes_same : (k : ℕ) (T U : Terms) → Alike k T U → (hall other : Hall) (g : ℕ) → game_at T hall g ≡ game_at U other g → record_bytes T hall g ≡ record_bytes U other g
bytes_same k T U alike hall other g same =
    ap (λ (x : Game). encode (content_of_game T g x)) same ∙ ap encode (alike_content k T U alike g (game_at U other g))

pub cell_same : (k : ℕ) (T U : Terms) → Alike k T U → (hall other : Hall) (a b : ℕ) → game_at T hall (meeting T a b) ≡ game_at U other (meeting T a b) → cell T hall.entries a b ≡ cell U other.entries a b
cell_same k T U alike hall other a b same =
    let by : ℕ → Option Verdict → ℕ = λ n s. cond (eqb a b) 0 (result_for (cond (eqb (seats_of n (number_of n (min a b) (max a b))).first a) First Second) s) in
    ap (λ (x : Game). by T.entrants x.verdict) same
    ∙ ap (λ n. by n (get_or other.entries (number_of n (min a b) (max a b)) fresh).verdict) alike.entrants

-- of the terms, lying true asks the ranges alone, so that it holds for every event that is alike
module _ (lies : (T : Terms) → T.entrants ≤ 16 → 1 ≤ T.limit → (hall : Hall) (g : ℕ) → LiesTrue T hall g)
    (codes longest : ℕ) (T : Terms) (kept : KeptTerms codes longest T) where
  same_game : (k : ℕ) (U : Terms) → Alike k T U → (g : ℕ) → Without k (seats_of T.entrants g) → known T g ≡ true → (h j : List Call) (hall other : Hall)
      → Reached T h hall → Reached U j other → feed T g h ≡ feed U g j → game_at T hall g ≡ game_at U other g
  same_game k U alike g without is_known h j hall other reached reached' fed_same =
      let most : U.entrants ≤ 16 = subst (λ n. n ≤ 16) alike.entrants kept.entrants_most in
      let least : 1 ≤ U.limit = subst (λ n. 1 ≤ n) alike.limit kept.limit_least in
      let is_known' : known U g ≡ true = subst (λ n. ltb g (games_of n) ≡ true) alike.entrants is_known in
      lies T kept.entrants_most kept.limit_least hall g h reached is_known
      ∙ alike_games k T U g alike without (feed T g h)
      ∙ ap (game_of U g) fed_same
      ∙ sym (lies U most least other g j reached' is_known')

  pub same_record : (hall : Hall) (g : ℕ) → SameRecord T hall g
  same_record hall g k U h j other alike without is_known reached reached' fed_same =
      bytes_same k T U alike hall other g (same_game k U alike g without is_known h j hall other reached reached' fed_same)

  pub same_cells : (hall : Hall) → SameCells T hall
  same_cells hall g k U h j other alike without is_known reached reached' fed_same a b meets =
      cell_same k T U alike hall other a b
      (subst (λ n. game_at T hall n ≡ game_at U other n) (sym meets) (same_game k U alike g without is_known h j hall other reached reached' fed_same))
