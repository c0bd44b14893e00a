-- Halls in which every game has the room it asks for.
--   wants    an open game has one turn to come
--   room     the turns that an entry asks room for
--   Roomy    as many entries as there can be games, a space as long as all games may be, and each entry within the limit
use Rattle.std.proofs.Common.{◌≡◌, ℕ, zero, suc, ◌+◌, ◌-◌, ◌*◌, ◌<◌, ◌≤◌, Bool, leb, ◌≢◌, List, [], ◌∷◌, ◌++◌, length, get_or, take, drop, set, replicate, Some, None, Option, sym, refl, ap, ◌∙◌, inl, inr, mul-le-mul, arith}
use Rattle.std.proofs.lemmas.List.{get_or-set_same, get_or-set_other, length-set, length_push, length-replicate}
use Rattle.std.proofs.lemmas.Bool.{cases_eq, cases_lt}
use Rattle.std.proofs.lemmas.Bool.Decides.{nat_tests}
use Rattle.side.specs.declared.Side.{Side}
use Rattle.verdict.specs.declared.Turn.{Turn}
use Rattle.verdict.specs.declared.Verdict.{Verdict}
use Rattle.entry.specs.declared.Entry.{Entry}
use Rattle.entry.specs.declared.Event.{Event}
use Rattle.entry.specs.declared.Event.TheVariants.{Ruling}
use Rattle.entry.specs.Entries.{fresh, noted}
use Rattle.seating.specs.Pairs.{games_of}
use Rattle.format.specs.Laid.{laid}
use Rattle.format.proofs.LaidOut.{length_laid}
use Rattle.meaning.specs.Turns.{turn_of, event_of}
use Rattle.meaning.specs.Games.{Terms, Game, point_at, to_move, answer_at, is_last, turned, one, several}
use Rattle.meaning.specs.Calls.{Hall, entry_at, game_at, entry_of, put, play_refusal, rule_refusal, after_play, played, ruled_entry, ruled_entries}
use Rattle.meaning.proofs.Space.{apart, part_length, part_laid, part_before, rest_after}

abbrev pub wants : Option Verdict → ℕ
wants None = 1
wants (Some v) = 0

abbrev pub room : Entry → ℕ
room e = e.turns + wants e.verdict

abbrev pub Within : ℕ → List Entry → Type 0
Within limit entries = (g : ℕ) → room (get_or entries g fresh) ≤ limit

pub record Roomy (T : Terms) (hall : Hall) : Type 0 where
  pub size : length hall.entries ≡ 120
  pub wide : games_of T.entrants * T.limit ≤ length hall.space
  pub within : Within T.limit hall.entries

-- sixteen entrants have the most games
pub games_most : (n : ℕ) → n ≤ 16 → games_of n ≤ 120
games_most n h =
    let a : n * (n - 1) ≤ 16 * 15 = mul-le-mul {n₂ = 16} {m₂ = 15} (omega arith) (omega arith) in
    omega arith

pub all_fresh : (n g : ℕ) → get_or (replicate n fresh) g fresh ≡ fresh
all_fresh zero g = refl
all_fresh (suc n) zero = refl
all_fresh (suc n) (suc g) = all_fresh n g

within_fresh : (limit : ℕ) → 1 ≤ limit → Within limit (replicate 120 fresh)
within_fresh limit h g = rw (all_fresh 120 g) h

pub roomy_made : (T : Terms) (space : List Turn) → 1 ≤ T.limit → games_of T.entrants * T.limit ≤ length space → Roomy T (record { entries = replicate 120 fresh; space = space })
roomy_made T space least wide = record { size = length-replicate 120 fresh; wide = wide; within = within_fresh T.limit least }

within_set : (limit : ℕ) (entries : List Entry) (g : ℕ) (e : Entry) → g < length entries → Within limit entries → room e ≤ limit → Within limit (set entries g e)
within_set limit entries g e h w b k =
    elim (cases_eq k g) [
      | inl p ↦ rw (p, get_or-set_same entries g e fresh h) b
      | inr p ↦ rw (get_or-set_other entries g k e fresh p) (w k)
    ]

-- one turn more: the game is open only where another may follow
wants_open : (limit n : ℕ) (event : Event) → n ≤ limit → n + wants (noted (leb limit n) None event) ≤ limit
wants_open limit n event h = grind (arith, nat_tests)

wants_ruled : (last : Bool) (s : Option Verdict) (loser : Side) → wants (noted last s (Ruling loser)) ≤ wants s
wants_ruled last s loser = grind (arith, nat_tests)

room_turned : (T : Terms) (g : ℕ) (ts : List Turn) (u : ℕ) → room (entry_of (record { turns = ts; verdict = None })) ≤ T.limit → room (entry_of (turned T g (record { turns = ts; verdict = None }) u)) ≤ T.limit
room_turned T g ts u h =
    let x = point_at T ts in
    let t : Turn = turn_of x (to_move ts) u (answer_at T g ts) in
    let event : Event = event_of x (to_move ts) u (answer_at T g ts) in
    let l : length (ts ++ (t ∷ [])) ≡ length ts + 1 = length_push ts t in
    let k : length ts + 1 + wants (noted (leb T.limit (length ts + 1)) None event) ≤ T.limit = wants_open T.limit (length ts + 1) event h in
    omega arith

pub room_one : (T : Terms) (g : ℕ) (ts : List Turn) (s : Option Verdict) (u : ℕ) → room (entry_of (record { turns = ts; verdict = s })) ≤ T.limit → room (entry_of (one T g (record { turns = ts; verdict = s }) u)) ≤ T.limit
room_one T g ts None u h = room_turned T g ts u h
room_one T g ts (Some v) u h = h

room_several : (T : Terms) (g : ℕ) (x : Game) (us : List ℕ) → room (entry_of x) ≤ T.limit → room (entry_of (several T g x us)) ≤ T.limit
room_several T g x [] h = h
room_several T g x (u ∷ us) h = room_several T g (one T g x u) us (room_one T g x.turns x.verdict u h)

-- what holds of both outcomes of a call holds of what it leaves
pub by_refusal : {A : Type 0} (P : A → Type 0) (r : Option ℕ) {x y : A} → P x → (r ≡ None → P y) → P (elim r [ Some n ↦ x | None ↦ y ])
by_refusal P (Some n) h k = h
by_refusal P None h k = k refl

-- a play that is not refused was lent a space that is wide enough, and names a game
pub play_known : (T : Terms) (hall : Hall) (g : ℕ) (us : List ℕ) → play_refusal T hall g us ≡ None → (games_of T.entrants * T.limit ≤ length hall.space) × (g < games_of T.entrants)
play_known T hall g us e = (grind (arith, nat_tests), grind (arith, nat_tests))

rule_known : (T : Terms) (entries : List Entry) (g : ℕ) → rule_refusal T entries g ≡ None → g < games_of T.entrants
rule_known T entries g e = grind (arith, nat_tests)

-- a ruling asks for no room
pub table_ruled : (T : Terms) → T.entrants ≤ 16 → (entries : List Entry) → length entries ≡ 120 → Within T.limit entries → (g : ℕ) (loser : Side)
    → (length (ruled_entries T entries g loser) ≡ 120) × Within T.limit (ruled_entries T entries g loser)
table_ruled T most entries size within g loser =
    by_refusal (λ (es : List Entry). (length es ≡ 120) × Within T.limit es) (rule_refusal T entries g) (size, within)
    (λ e.
    let after : Entry = ruled_entry T (get_or entries g fresh) loser in
    let w = within g in
    let r = wants_ruled (is_last T []) (get_or entries g fresh).verdict loser in
    let m = games_most T.entrants most in
    let k = rule_known T entries g e in
    (length-set entries g after ∙ size, within_set T.limit entries g after (omega arith) within (omega arith)))

module _ (T : Terms) (most : T.entrants ≤ 16) (hall : Hall) (ok : Roomy T hall) where
  pub in_table : (g : ℕ) → g < games_of T.entrants → g < length hall.entries
  in_table g h = let m = games_most T.entrants most in let z = ok.size in omega arith

  -- a place of a game lies in the space
  pub in_space : (g n : ℕ) → g < games_of T.entrants → n ≤ T.limit → g * T.limit + n ≤ length hall.space
  in_space g n h k = let a = apart g (games_of T.entrants) T.limit n h k in let b = ok.wide in omega arith

  -- a game has as many turns as its entry says
  pub turns_lie : (g : ℕ) → g < games_of T.entrants → length (game_at T hall g).turns ≡ (entry_at hall g).turns
  turns_lie g h = let k = ok.within g in part_length hall.space (g * T.limit) (entry_at hall g).turns (in_space g (entry_at hall g).turns h (omega arith))

  pub room_at : (g : ℕ) → g < games_of T.entrants → room (entry_of (game_at T hall g)) ≤ T.limit
  room_at g h = let a = turns_lie g h in let k = ok.within g in omega arith

  pub room_after : (g : ℕ) (us : List ℕ) → g < games_of T.entrants → room (entry_of (after_play T hall g us)) ≤ T.limit
  room_after g us h = room_several T g (game_at T hall g) us (room_at g h)

  -- the game put there is the game that lies there
  pub put_same : (g : ℕ) (x : Game) → g < games_of T.entrants → game_at T (put T hall g x) g ≡ x
  put_same g x h =
      let base : ℕ = g * T.limit in
      let start : base + 0 ≤ length hall.space = in_space g 0 h (omega arith) in
      let lying : Entry → Game = λ e. record { turns = take e.turns (drop base (laid hall.space base x.turns)); verdict = e.verdict } in
      ap lying (get_or-set_same hall.entries g (entry_of x) fresh (in_table g h))
      ∙ (λ i. record { turns = part_laid hall.space base x.turns (omega arith) i; verdict = x.verdict })

  -- and every other game lies as it did
  pub put_other : (g k : ℕ) (x : Game) → g ≢ k → g < games_of T.entrants → k < games_of T.entrants → room (entry_of x) ≤ T.limit → game_at T (put T hall k x) g ≡ game_at T hall g
  put_other g k x ne hg hk fits =
      let base : ℕ = k * T.limit in
      let from : ℕ = g * T.limit in
      let e : Entry = entry_at hall g in
      let w = ok.within g in
      let fit : length x.turns ≤ T.limit = omega arith in
      let inside : e.turns ≤ T.limit = omega arith in
      let long : base + length x.turns ≤ length hall.space = in_space k (length x.turns) hk fit in
      let lying : Entry → Game = λ d. record { turns = take d.turns (drop from (laid hall.space base x.turns)); verdict = d.verdict } in
      let same : take e.turns (drop from (laid hall.space base x.turns)) ≡ take e.turns (drop from hall.space) =
      elim (cases_lt g k) [
        | inl lt ↦ part_before hall.space base x.turns from e.turns (apart g k T.limit e.turns lt inside) (omega arith)
        | inr ge ↦ ap (take e.turns) (rest_after hall.space base x.turns from (apart k g T.limit (length x.turns) (let n : k ≢ g = λ p. ne (sym p) in omega arith) fit) long)
      ] in
      ap lying (get_or-set_other hall.entries k g (entry_of x) fresh ne)
      ∙ (λ i. record { turns = same i; verdict = e.verdict })

  pub roomy_put : (g : ℕ) (x : Game) → g < games_of T.entrants → room (entry_of x) ≤ T.limit → Roomy T (put T hall g x)
  roomy_put g x h fits =
      let q = length_laid hall.space (g * T.limit) x.turns (in_space g (length x.turns) h (omega arith)) in
      let r = ok.wide in
      record {
        size = length-set hall.entries g (entry_of x) ∙ ok.size;
        wide = omega arith;
        within = within_set T.limit hall.entries g (entry_of x) (in_table g h) ok.within fits;
      }

  pub roomy_played : (g : ℕ) (us : List ℕ) → Roomy T (played T hall g us)
  roomy_played g us =
      by_refusal (Roomy T) (play_refusal T hall g us) ok
      (λ e. let h = (play_known T hall g us e).1 in roomy_put g (after_play T hall g us) h (room_after g us h))

  pub roomy_ruled : (g : ℕ) (loser : Side) → Roomy T (record { entries = ruled_entries T hall.entries g loser; space = hall.space })
  roomy_ruled g loser =
      let after = table_ruled T most hall.entries ok.size ok.within g loser in
      record { size = after.0; wide = ok.wide; within = after.1 }

-- what a play leaves of the table, whatever space it is lent
pub table_played : (T : Terms) → T.entrants ≤ 16 → (hall : Hall) → length hall.entries ≡ 120 → Within T.limit hall.entries → (g : ℕ) (us : List ℕ)
    → (length (played T hall g us).entries ≡ 120) × Within T.limit (played T hall g us).entries
table_played T most hall size within g us =
    by_refusal (λ (l : Hall). (length l.entries ≡ 120) × Within T.limit l.entries) (play_refusal T hall g us) (size, within)
    (λ e.
    let h = play_known T hall g us e in
    let ok : Roomy T hall = record { size = size; wide = h.0; within = within } in
    let after = roomy_put T most hall ok g (after_play T hall g us) h.1 (room_after T most hall ok g us h.1) in
    (after.size, after.within))
