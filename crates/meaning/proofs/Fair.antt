-- What a fallen flag decides: drawn where the other side has no chance, so that no series wins for it; won where it has one.
use Rattle.std.proofs.Common.{◌≡◌, ℕ, ◌<◌, Bool, true, false, cond, List, [], ◌∷◌, ◌++◌, Some, None, Option, sym, refl, ap, ◌∙◌, subst, inl, inr, append-nil, arith}
use Rattle.std.specs.List.{AllByRecursion as All}
use Rattle.std.proofs.lemmas.Bool.{cases_Bool, cond_both}
use Rattle.std.proofs.lemmas.Bool.Decides.{nat_tests}
use Rattle.side.specs.declared.Side.{Side}
use Rattle.side.specs.declared.Side.TheVariants.{First}
use Rattle.rules.specs.Plans.{RulesPlan, Lawful, Exact}
use Rattle.rules.proofs.Dead.{no_win_after}
use Rattle.verdict.specs.declared.Turn.{Turn}
use Rattle.verdict.specs.declared.Outcome.{Outcome}
use Rattle.verdict.specs.declared.Outcome.TheVariants.{WonBy, Drawn}
use Rattle.verdict.specs.declared.Verdict.{Verdict}
use Rattle.verdict.specs.declared.Verdict.TheVariants.{Flag as ByFlag}
use Rattle.entry.specs.Entries.{in_open}
use Rattle.meaning.specs.Turns.{Point, answered, turn_of}
use Rattle.meaning.specs.Games.{Terms, Game, new_game, start_point, point_at, to_move, answer_at, is_last, turned}
use Rattle.meaning.specs.Calls.{Hall}
use Rattle.meaning.specs.History.{Item, reading, lost_by, item, game_from, game_of, feed, made_from, made_codes, FlagDraws, FlagExact}
use Rattle.meaning.specs.Promises.{KeptTerms, LiesTrue, DeadDraws, DeadExactly}
use Rattle.meaning.proofs.Walks.{past_push, mover_push, rules_after}

last_of : (P : ℕ → Type 0) (w : List ℕ) (c : ℕ) → All P (w ++ (c ∷ [])) → P c
last_of P [] c h = h.0
last_of P (x ∷ w) c h = last_of P w c h.1

-- a code that is not legal is not made, so those made are legal
made_legal_from : (p : RulesPlan) (w : List ℕ) (ts : List Turn) → p.legal w ≡ true → p.legal (made_from p w ts) ≡ true
made_legal_from p w [] h = h
made_legal_from p w (t ∷ ts) h =
    let more : List ℕ = w ++ (t.code ∷ []) in
    made_legal_from p (cond (p.legal more) more w) ts (cond_both (p.legal more) more w (λ (v : List ℕ). p.legal v ≡ true) (λ e. e) (λ e. h))

pub made_legal : (codes longest : ℕ) (p : RulesPlan) → Lawful codes longest p → (ts : List Turn) → p.legal (made_codes p ts) ≡ true
made_legal codes longest p law ts = made_legal_from p [] ts law.starts

-- only a fallen flag ends a game by flag
abbrev OtherEnd : Option Verdict → Type 0
OtherEnd s = (o : Outcome) → s ≡ Some (ByFlag o) → ⊥

answered_other : (last : Bool) (x : Point) (side : Side) (code : ℕ) → OtherEnd (in_open last (answered x side code))
answered_other last x side code o e = grind (arith, nat_tests)

-- what a flag fall means for the side then to move
abbrev for_mover : RulesPlan → Side → Outcome
for_mover p s = cond (p.chance [] s) (WonBy s) Drawn

abbrev FlagRight : Terms → Game → Type 0
FlagRight T x = (o : Outcome) → x.verdict ≡ Some (ByFlag o) → o ≡ for_mover (point_at T x.turns).rules (to_move x.turns)

-- the code of a fallen flag is never legal
no_move : (codes longest : ℕ) (T : Terms) → Lawful codes longest T.plans.rules → (ts : List Turn) → (point_at T ts).rules.legal (65535 ∷ []) ≡ false
no_move codes longest T law ts =
    let p : RulesPlan = T.plans.rules in
    let w : List ℕ = made_codes p ts in
    let is : (point_at T ts).rules.legal (65535 ∷ []) ≡ p.legal (w ++ (65535 ∷ [])) = ap (λ (l : RulesPlan). l.legal (65535 ∷ [])) (rules_after p (start_point T) First [] ts refl) in
    elim (cases_Bool (p.legal (w ++ (65535 ∷ [])))) [
      | inl e ↦ (let b = last_of (λ c. c < codes) w 65535 (law.below (w ++ (65535 ∷ [])) e) in let f = law.few in absurd (omega arith))
      | inr e ↦ is ∙ e
    ]

module _ (codes longest : ℕ) (T : Terms) (law : Lawful codes longest T.plans.rules) (g : ℕ) where
  right_turn : (ts : List Turn) (u : ℕ) → FlagRight T (turned T g (record { turns = ts; verdict = None }) u)
  right_turn ts u o e =
      let x : Point = point_at T ts in
      let s : Side = to_move ts in
      let t : Turn = turn_of x s u (answer_at T g ts) in
      grind (arith, nat_tests, answered_other (is_last T ts) x s (answer_at T g ts) o, no_move codes longest T law ts, past_push (start_point T) First ts t, mover_push First ts t)

  right_item : (ts : List Turn) (s : Option Verdict) (i : Item) → FlagRight T (record { turns = ts; verdict = s }) → FlagRight T (item T g (record { turns = ts; verdict = s }) i)
  right_item ts None (reading u) h = right_turn ts u
  right_item ts (Some v) (reading u) h = h
  right_item ts None (lost_by side) h = λ o e. cc
  right_item ts (Some v) (lost_by side) h = h

  right_from : (x : Game) (is : List Item) → FlagRight T x → FlagRight T (game_from T g x is)
  right_from x [] h = h
  right_from x (i ∷ is) h = right_from (item T g x i) is (right_item x.turns x.verdict i h)

  -- by the plan, after the codes made
  right_of : (is : List Item) (o : Outcome) → (game_of T g is).verdict ≡ Some (ByFlag o)
      → o ≡ cond (T.plans.rules.chance (made_codes T.plans.rules (game_of T g is).turns) (to_move (game_of T g is).turns)) (WonBy (to_move (game_of T g is).turns)) Drawn
  right_of is o e =
      let p : RulesPlan = T.plans.rules in
      let ts : List Turn = (game_of T g is).turns in
      let w : List ℕ = made_codes p ts in
      right_from new_game is (λ o d. cc) o e
      ∙ ap (λ (l : RulesPlan). for_mover l (to_move ts)) (rules_after p (start_point T) First [] ts refl)
      ∙ ap (λ (v : List ℕ). cond (p.chance v (to_move ts)) (WonBy (to_move ts)) Drawn) (append-nil w)

none_of : (b : Bool) (s : Side) → Drawn ≡ cond b (WonBy s) Drawn → b ≡ false
none_of b s e = grind (arith, nat_tests)

some_of : (b : Bool) (s winner : Side) → WonBy winner ≡ cond b (WonBy s) Drawn → (b ≡ true) × (s ≡ winner)
some_of b s winner e = (grind (arith, nat_tests), grind (arith, nat_tests))

pub flag_draws : (codes longest : ℕ) (T : Terms) → KeptTerms codes longest T → (g : ℕ) (is : List Item) → FlagDraws T (game_of T g is)
flag_draws codes longest T kept g is e =
    let p : RulesPlan = T.plans.rules in
    let ts : List Turn = (game_of T g is).turns in
    no_win_after codes longest p kept.lawful (made_codes p ts) (to_move ts) (none_of (p.chance (made_codes p ts) (to_move ts)) (to_move ts) (right_of codes longest T kept.lawful g is Drawn e))

pub flag_exact : (codes longest : ℕ) (T : Terms) → KeptTerms codes longest T → Exact T.plans.rules → (g : ℕ) (is : List Item) → FlagExact T (game_of T g is)
flag_exact codes longest T kept exact g is winner e =
    let p : RulesPlan = T.plans.rules in
    let ts : List Turn = (game_of T g is).turns in
    let w : List ℕ = made_codes p ts in
    let has = some_of (p.chance w (to_move ts)) (to_move ts) winner (right_of codes longest T kept.lawful g is (WonBy winner) e) in
    (exact w winner (made_legal codes longest p kept.lawful ts)).0 (subst (λ (s : Side). p.chance w s ≡ true) has.1 has.0)

module _ (lies : (codes longest : ℕ) (T : Terms) → KeptTerms codes longest T → (hall : Hall) (g : ℕ) → LiesTrue T hall g) where
  pub dead_draws : (codes longest : ℕ) (T : Terms) → KeptTerms codes longest T → (hall : Hall) (g : ℕ) → DeadDraws T hall g
  dead_draws codes longest T kept hall g h reached known =
      subst (FlagDraws T) (sym (lies codes longest T kept hall g h reached known)) (flag_draws codes longest T kept g (feed T g h))

  pub dead_exactly : (codes longest : ℕ) (T : Terms) → KeptTerms codes longest T → (hall : Hall) (g : ℕ) → DeadExactly T hall g
  dead_exactly codes longest T kept hall g exact h reached known =
      subst (FlagExact T) (sym (lies codes longest T kept hall g h reached known)) (flag_exact codes longest T kept exact g (feed T g h))
