-- What a code does to a position of Gomoku, and the laws from it.
use Rattle.std.specs.Prelude.{◌≡◌, ℕ, suc, ◌+◌, ◌-◌, ◌*◌, ◌/◌, ◌%◌, ◌<◌, Bool, true, false, cond, not, ◌&&◌, List, [], ◌∷◌, length, get_or, set, Some, None, Option, ◌==◌, ◌≢◌, nat_eq, nat_lt, slice_index_or, slice_set, refl}
use Rattle.std.proofs.Common.{sym, ap, ap₂, subst, ◌∙◌, inl, inr, arith}
use Rattle.std.proofs.lemmas.Bool.{false_from_ne_true, and_parts, and_from, ltb-true, lt-ltb, eq-eqb, eqb-true, ne_eqb, cases_Bool, cases_eq, true≢false, both_ways}
use Rattle.std.proofs.lemmas.List.Sums.{sum_by-set, sum_by-cons, count_by-le-length}
use Rattle.std.proofs.lemmas.List.{length-set, get_or-set_same, get_or-set_other, get_or-replicate}
use Rattle.side.specs.declared.Side.{Side}
use Rattle.side.specs.declared.Side.TheVariants.{First, Second}
use Rattle.side.specs.TwoSides.{opponent, same_side}
use Rattle.rules.specs.declared.Status.{Status}
use Rattle.rules.specs.declared.Status.TheVariants.{Open, Won, Drawn}
use Rattle.rules.specs.Plans.{is_open, Lawful, NoWin}
use Rattle.rules.specs.Machine.{after, all_legal, OnWay}
use Rattle.rules.proofs.Sound.{Sound, lawful, point_of, next_on_way}
use Rattle.rules.proofs.Dead.{no_win}
use Rattle.rules.proofs.Statuses.{status_open}
use Rattle.board.specs.Windows.{in_line, windows}
use Rattle.gomoku_theory.specs.declared.Point.{Point}
use Rattle.gomoku_theory.specs.declared.Point.TheVariants.{Free, Stone}
use Rattle.gomoku_theory.specs.Gomoku.{Position, at, empty, start, is_free, taken, is_of, code_of, on_cell, five_of, full, stones_on, status_of, fits, chance_of, gomoku, gomoku_from, shown, Counted, OneWinner, MadeBy, stone_by, ShownBy}
use Rattle.gomoku_theory.specs.Search.{won_at, judged_by}
use Rattle.gomoku_theory.proofs.Tests.{same_test}
use Rattle.gomoku_theory.proofs.Lines.{line_more, line_near}

-- ---- a code that fits

pub record Fit (ps : List Point) (c : ℕ) : Type 0 where
  pub opens : status_of ps ≡ Open
  pub place : c < 225
  pub free : is_free (slice_index_or ps c Free) ≡ true

pub fit : (ps : List Point) (c : ℕ) → fits ps c ≡ true → Fit ps c
fit ps c h =
    let p = and_parts _ _ h in
    let q = and_parts _ _ p.1 in
    record { opens = status_open (status_of ps) p.0; place = ltb-true c 225 q.0; free = q.1 }

-- what an open game lacks
abbrev none_yet : Bool → Bool → Bool → Type 0
none_yet x y z = (x ≡ false) × (y ≡ false) × (z ≡ false)

open_none : (x y z : Bool) → cond x (Won First) (cond y (Won Second) (cond z Drawn Open)) ≡ Open → none_yet x y z
open_none true y z h = let bad : ◌≡◌ {A = ℕ} 0 1 = cc in absurd (omega arith)
open_none false true z h = let bad : ◌≡◌ {A = ℕ} 0 1 = cc in absurd (omega arith)
open_none false false true h = let bad : ◌≡◌ {A = ℕ} 0 1 = cc in absurd (omega arith)
open_none false false false h = (refl, refl, refl)

pub none_open : (ps : List Point) → status_of ps ≡ Open → none_yet (five_of ps First) (five_of ps Second) (full ps)
none_open ps h = open_none (five_of ps First) (five_of ps Second) (full ps) h

no_five : (ps : List Point) (t : Side) → status_of ps ≡ Open → five_of ps t ≡ false
no_five ps First h = (none_open ps h).0
no_five ps Second h = (none_open ps h).1

-- ---- the stones

pub one_more : (ps : List Point) (c : ℕ) (t : Side) → length ps ≡ 225 → Fit ps c → stones_on (slice_set ps c (Stone t)) ≡ stones_on ps + 1
one_more ps c t l h =
    let p = h.place in
    let e = sum_by-set (λ x. cond (taken x) 1 0) ps c (Stone t) Free (omega arith) in
    let o : ◌≡◌ {A = ℕ} (cond (taken (slice_index_or ps c Free)) 1 0) 0 = ap (λ (b : Bool). cond (not b) 1 0) h.free in
    omega arith

free_point : (ps : List Point) → full ps ≡ false → (i : ℕ) × (i < length ps) × (is_free (slice_index_or ps i Free) ≡ true)
free_point [] h = absurd (true≢false h)
free_point (Free ∷ ps) h = (0, omega arith, refl)
free_point (Stone s ∷ ps) h =
    let r = free_point ps h in
    let l = r.1 in
    (suc r.0, omega arith, r.2)

-- a board is full where it has as many stones as points
full_count : (ps : List Point) → full ps ≡ (stones_on ps == length ps)
full_count [] = refl
full_count (Free ∷ ps) =
    let e = sum_by-cons (λ x. cond (taken x) 1 0) Free ps in
    sym (ne_eqb _ _ (λ d. let l = count_by-le-length taken ps in absurd (omega arith)))
full_count (Stone s ∷ ps) =
    let e = sum_by-cons (λ x. cond (taken x) 1 0) (Stone s) ps in
    let n = stones_on ps in
    full_count ps
    ∙ same_test _ _ (λ y. let d : n ≡ length ps = eqb-true _ _ y in eq-eqb _ _ (omega arith)) (λ y. let d : stones_on (Stone s ∷ ps) ≡ length (Stone s ∷ ps) = eqb-true _ _ y in eq-eqb _ _ (omega arith))

-- ---- one more stone

taken_free : (x : Point) (o : Side) → is_free x ≡ true → is_of o x ≢ true
taken_free Free o a b = true≢false (sym b)
taken_free (Stone s) o a b = true≢false (sym a)

kept_stone : (ps : List Point) (c : ℕ) (t o : Side) (k : ℕ) → is_free (slice_index_or ps c Free) ≡ true → is_of o (slice_index_or ps k Free) ≡ true → is_of o (slice_index_or (slice_set ps c (Stone t)) k Free) ≡ true
kept_stone ps c t o k f h =
    elim (cases_eq k c) [
      | inl e ↦ absurd (taken_free (slice_index_or ps c Free) o f (subst (λ (i : ℕ). is_of o (slice_index_or ps i Free) ≡ true) e h))
      | inr d ↦ ap (is_of o) (get_or-set_other ps c k (Stone t) Free d) ∙ h
    ]

other_side : (t : Side) → same_side t (opponent t) ≡ false
other_side First = refl
other_side Second = refl

-- no stone of the other side's comes by it
others_stone : (ps : List Point) (c : ℕ) (t : Side) (k : ℕ) → c < length ps → is_of (opponent t) (slice_index_or (slice_set ps c (Stone t)) k Free) ≡ true → is_of (opponent t) (slice_index_or ps k Free) ≡ true
others_stone ps c t k l h =
    elim (cases_eq k c) [
      | inl e ↦
          let g : is_of (opponent t) (slice_index_or (slice_set ps c (Stone t)) c Free) ≡ true = subst (λ (i : ℕ). is_of (opponent t) (slice_index_or (slice_set ps c (Stone t)) i Free) ≡ true) e h in
          absurd (both_ways _ (other_side t) (sym (ap (is_of (opponent t)) (get_or-set_same ps c (Stone t) Free l)) ∙ g))
      | inr d ↦ sym (ap (is_of (opponent t)) (get_or-set_other ps c k (Stone t) Free d)) ∙ h
    ]

others_five : (ps : List Point) (c : ℕ) (t : Side) → c < length ps → five_of ps (opponent t) ≡ false → five_of (slice_set ps c (Stone t)) (opponent t) ≡ false
others_five ps c t l h =
    false_from_ne_true _ (λ y. both_ways _ h (line_more (λ x. is_of (opponent t) (on_cell (slice_set ps c (Stone t)) x)) (λ x. is_of (opponent t) (on_cell ps x)) (λ x e. others_stone ps c t (code_of x) l e) y))

-- the mover's five goes through the new stone
movers_five : (ps : List Point) (c : ℕ) (t : Side) → c < 225 → five_of ps t ≡ false
    → five_of (slice_set ps c (Stone t)) t ≡ won_at (λ x. is_of t (on_cell (slice_set ps c (Stone t)) x)) c
unfolding won_at
movers_five ps c t l h =
    line_near (λ x. is_of t (on_cell ps x)) (λ x. is_of t (on_cell (slice_set ps c (Stone t)) x)) (c % 15) (c / 15) (omega arith) (omega arith)
    (λ x k apart y.
    let d : code_of x ≡ c → ⊥ = λ e. apart (omega arith) (omega arith) in
    sym (ap (is_of t) (get_or-set_other ps c (code_of x) (Stone t) Free d)) ∙ y)
    h

-- ---- the status after a code

pub judged : (ps : List Point) (c : ℕ) (t : Side) → length ps ≡ 225 → Fit ps c
    → status_of (slice_set ps c (Stone t)) ≡ judged_by (won_at (λ x. is_of t (on_cell (slice_set ps c (Stone t)) x)) c) (stones_on ps + 1) t
judged ps c t l h =
    let qs = set ps c (Stone t) in
    let k = h.place in
    let mine = movers_five ps c t k (no_five ps t h.opens) in
    let others = others_five ps c t (omega arith) (no_five ps (opponent t) h.opens) in
    let whole : full qs ≡ nat_eq (stones_on ps + 1) 225 = full_count qs ∙ ap₂ nat_eq (one_more ps c t l h) (length-set ps c (Stone t) ∙ l) in
    by_side t (five_of qs) mine others whole
  where
    by_side : (t : Side) (five : Side → Bool) {won full z : Bool} → five t ≡ won → five (opponent t) ≡ false → full ≡ z
        → cond (five First) (Won First) (cond (five Second) (Won Second) (cond full Drawn Open)) ≡ cond won (Won t) (cond z Drawn Open)
    by_side First five a b e = simp (a, b, e)
    by_side Second five a b e = simp (a, b, e)

-- ---- the chances

fade : (ps : List Point) (c : ℕ) (t u : Side) → is_free (slice_index_or ps c Free) ≡ true → chance_of ps u ≡ false → chance_of (slice_set ps c (Stone t)) u ≡ false
fade ps c t u f h =
    false_from_ne_true _ (λ y. both_ways _ h (line_more (λ x. not (is_of (opponent u) (on_cell (slice_set ps c (Stone t)) x))) (λ x. not (is_of (opponent u) (on_cell ps x)))
    (λ x e.
    elim (cases_Bool (is_of (opponent u) (on_cell ps x))) [
      | inl a ↦ absurd (both_ways _ (ap not (kept_stone ps c t (opponent u) (code_of x) f a)) e)
      | inr a ↦ ap not a
    ]) y))

of_not : (x : Point) (t : Side) → is_of t x ≡ true → not (is_of (opponent t) x) ≡ true
of_not Free t h = refl
of_not (Stone First) First h = refl
of_not (Stone First) Second h = absurd (true≢false (sym h))
of_not (Stone Second) First h = absurd (true≢false (sym h))
of_not (Stone Second) Second h = refl

winning : (ps : List Point) (t : Side) → five_of ps t ≡ true → chance_of ps t ≡ true
winning ps t h = line_more (λ x. is_of t (on_cell ps x)) (λ x. not (is_of (opponent t) (on_cell ps x))) (λ x e. of_not (on_cell ps x) t e) h

won_by : (five : Side → Bool) (z : Bool) (t : Side) → cond (five First) (Won First) (cond (five Second) (Won Second) (cond z Drawn Open)) ≡ Won t → five t ≡ true
won_by five z t h =
    elim (cases_Bool (five First)) [
      | inl a ↦ first t a (sym (simp a) ∙ h)
      | inr a ↦
          elim (cases_Bool (five Second)) [
            | inl b ↦ second t b (sym (simp (a, b)) ∙ h)
            | inr b ↦ neither z (sym (simp (a, b)) ∙ h)
          ]
    ]
  where
    first : (t : Side) → five First ≡ true → Won First ≡ Won t → five t ≡ true
    first First a h = a
    first Second a h = let bad : ◌≡◌ {A = ℕ} 0 1 = cc in absurd (omega arith)

    second : (t : Side) → five Second ≡ true → Won Second ≡ Won t → five t ≡ true
    second First a h = let bad : ◌≡◌ {A = ℕ} 0 1 = cc in absurd (omega arith)
    second Second a h = a

    neither : (z : Bool) → cond z Drawn Open ≡ Won t → five t ≡ true
    neither true h = let bad : ◌≡◌ {A = ℕ} 0 1 = cc in absurd (omega arith)
    neither false h = let bad : ◌≡◌ {A = ℕ} 0 1 = cc in absurd (omega arith)

-- ---- the laws

-- n codes at most can follow
unfoldable pub Good : Position → ℕ → Type 0
Good p n = (length p.points ≡ 225) × (stones_on p.points + n ≡ 225)

good_next : (p : Position) (n c : ℕ) → Good p n → fits p.points c ≡ true → (k : ℕ) × (k < n) × Good (gomoku.next p c) k
unfolding Good
good_next p n c g h =
    let qs = set p.points c (Stone p.turn) in
    let e = one_more p.points c p.turn g.0 (fit p.points c h) in
    let l : length qs ≡ 225 = length-set p.points c (Stone p.turn) ∙ g.0 in
    let m = count_by-le-length taken qs in
    let s = g.1 in
    (n - 1, omega arith, (l, omega arith))

pub sound : Sound gomoku Good 225
unfolding Good
sound =
    record {
      opens = λ p n c g h. (fit p.points c h).opens;
      step = good_next;
      goes_on = λ p n g o.
          let r = free_point p.points (none_open p.points o).2 in
          let l = r.1 in
          let e = g.0 in
          (r.0, and_from _ _ (ap is_open o) (and_from _ _ (lt-ltb r.0 225 (omega arith)) r.2));
      below = λ p n c g h. (fit p.points c h).place;
      fades = λ p n c u g h e. fade p.points c p.turn u (fit p.points c h).free e;
      winner = λ p n t g e. winning p.points t (won_by (five_of p.points) (full p.points) t e);
    }

-- ---- the start

no_line : (t : Side) → five_of empty t ≡ false
unfolding empty in_line windows
no_line t = refl

not_full : full empty ≡ false
unfolding empty
not_full = refl

pub open_start : status_of empty ≡ Open
open_start = simp (no_line, not_full)

pub whole_start : length empty ≡ 225
unfolding empty
whole_start = refl

pub none_start : stones_on empty ≡ 0
unfolding empty
none_start = refl

pub good_start : Good start 225
unfolding Good
good_start = (whole_start, (let e = none_start in omega arith))

-- ---- what holds after every legal list

counted_from : (p : Position) (w : List ℕ) → length p.points ≡ 225 → all_legal gomoku p w ≡ true → stones_on (after gomoku p w).points ≡ stones_on p.points + length w
counted_from p [] l h = omega arith
counted_from p (c ∷ w) l h =
    let q = and_parts _ _ h in
    let e = one_more p.points c p.turn l (fit p.points c q.0) in
    let r = counted_from (gomoku.next p c) w (length-set p.points c (Stone p.turn) ∙ l) q.1 in
    omega arith

pub counts : Counted
counts w h = counted_from start w whole_start h ∙ (let e = none_start in omega arith)

-- a point keeps its stone, and a free one has what the codes put there
kept_point : (x y : Point) → y ≡ Free → x ≡ cond (is_free x) y x
kept_point Free y e = sym e
kept_point (Stone s) y e = refl

shown_from : (p : Position) (w : List ℕ) (c : ℕ) → length p.points ≡ 225 → all_legal gomoku p w ≡ true
    → slice_index_or (after gomoku p w).points c Free ≡ cond (is_free (slice_index_or p.points c Free)) (stone_by p.turn w c) (slice_index_or p.points c Free)
shown_from p [] c l h = kept_point (slice_index_or p.points c Free) Free refl
shown_from p (d ∷ w) c l h =
    let q = and_parts _ _ h in
    let ps = p.points in
    let t = p.turn in
    let f = fit ps d q.0 in
    let k = f.place in
    let r = shown_from (gomoku.next p d) w c (length-set ps d (Stone t) ∙ l) q.1 in
    r ∙ elim (cases_eq c d) [
      | inl e ↦
          let new : get_or (slice_set ps d (Stone t)) c Free ≡ Stone t = ap (λ (i : ℕ). get_or (slice_set ps d (Stone t)) i Free) e ∙ get_or-set_same ps d (Stone t) Free (omega arith) in
          let free : is_free (slice_index_or ps c Free) ≡ true = ap (λ (i : ℕ). is_free (slice_index_or ps i Free)) e ∙ f.free in
          let same : nat_eq d c ≡ true = eq-eqb d c (sym e) in
          simp (new, free, same)
      | inr n ↦
          let old : get_or (slice_set ps d (Stone t)) c Free ≡ get_or ps c Free = get_or-set_other ps d c (Stone t) Free n in
          let other : nat_eq d c ≡ false = ne_eqb d c (λ e. n (sym e)) in
          simp (old, other)
    ]

free_start : (c : ℕ) → c < 225 → slice_index_or empty c Free ≡ Free
unfolding empty
free_start c l = get_or-replicate 225 c Free Free l

pub shows : (w : List ℕ) (c : ℕ) → c < 225 → all_legal gomoku start w ≡ true → slice_index_or (after gomoku start w).points c Free ≡ stone_by First w c
shows w c l h = shown_from start w c whole_start h ∙ ap (λ (x : Point). cond (is_free x) (stone_by First w c) x) (free_start c l)

pub shown_by : (ps : List Point) (t : Side) (column row : ℕ) → ShownBy (at ps t) column row (shown ps column row)
shown_by ps t column row w h e =
    elim (cases_Bool (nat_lt column 15 && nat_lt row 15)) [
      | inl y ↦
          let a : column < 15 = ltb-true column 15 (and_parts (nat_lt column 15) (nat_lt row 15) y).0 in
          let b : row < 15 = ltb-true row 15 (and_parts (nat_lt column 15) (nat_lt row 15) y).1 in
          let k = 15 * row + column in
          let d : get_or ps k Free ≡ stone_by First w k = ap (λ (p : Position). get_or p.points k Free) e ∙ shows w k (omega arith) h in
          ap (λ (x : Point). cond (nat_lt column 15 && nat_lt row 15) (Some x) None) d
      | inr y ↦ ap (λ (b : Bool). cond b (Some (slice_index_or ps (15 * row + column) Free)) None) y ∙ sym (ap (λ (b : Bool). cond b (Some (stone_by First w (15 * row + column))) None) y)
    ]

abbrev Single : Position → Type 0
Single p = five_of p.points First ≡ true → five_of p.points Second ≢ true

single_next : (ps : List Point) (t : Side) (c : ℕ) → length ps ≡ 225 → Fit ps c → Single (gomoku.next (at ps t) c)
single_next ps First c l h = let k = h.place in λ a b. both_ways _ (others_five ps c First (omega arith) (no_five ps Second h.opens)) b
single_next ps Second c l h = let k = h.place in λ a b. both_ways _ (others_five ps c Second (omega arith) (no_five ps First h.opens)) a

single_from : (p : Position) (w : List ℕ) → length p.points ≡ 225 → Single p → all_legal gomoku p w ≡ true → Single (after gomoku p w)
single_from p [] l s h = s
single_from p (c ∷ w) l s h =
    let q = and_parts _ _ h in
    single_from (gomoku.next p c) w (length-set p.points c (Stone p.turn) ∙ l) (single_next p.points p.turn c l (fit p.points c q.0)) q.1

pub one_winner : OneWinner
one_winner w h = single_from start w whole_start (λ a b. both_ways _ (no_line First) a) h

pub laws : Lawful 225 225 (gomoku_from empty First)
laws = lawful gomoku Good 225 sound start 225 (omega arith) good_start open_start

-- ---- what the code keeps, and what it answers

pub more_counted : (ps : List Point) (c : ℕ) (t : Side) (n : ℕ) → length ps ≡ 225 → fits ps c ≡ true → n ≡ stones_on ps → n + 1 ≡ stones_on (slice_set ps c (Stone t))
more_counted ps c t n l h e = let m = one_more ps c t l (fit ps c h) in omega arith

pub more_judged : (ps : List Point) (c : ℕ) (t : Side) (n : ℕ) (s : Status) → length ps ≡ 225 → fits ps c ≡ true → n ≡ stones_on ps
    → s ≡ judged_by (won_at (λ x. is_of t (on_cell (slice_set ps c (Stone t)) x)) c) (n + 1) t → s ≡ status_of (slice_set ps c (Stone t))
more_judged ps c t n s l h e j =
    j ∙ ap (λ (m : ℕ). judged_by (won_at (λ x. is_of t (on_cell (slice_set ps c (Stone t)) x)) c) (m + 1) t) e ∙ sym (judged ps c t l (fit ps c h))

pub more_on_way : (ps : List Point) (c : ℕ) (t u : Side) → fits ps c ≡ true → OnWay gomoku start (at ps t) → u ≡ opponent t → OnWay gomoku start (at (slice_set ps c (Stone t)) u)
more_on_way ps c t u h way e =
    subst (λ (s : Side). OnWay gomoku start (at (slice_set ps c (Stone t)) s)) (sym e) (next_on_way gomoku start (at ps t) c way h)

pub made_by : (ps : List Point) (t : Side) (n : ℕ) → OnWay gomoku start (at ps t) → n ≡ stones_on ps → MadeBy (at ps t) n
made_by ps t n way e = (way, λ w h d. e ∙ ap (λ (p : Position). stones_on p.points) d ∙ counts w h)

pub shown_as : (ps : List Point) (t : Side) (column row : ℕ) (r : Option Point) → r ≡ shown ps column row → ShownBy (at ps t) column row r
shown_as ps t column row r e w h d = e ∙ shown_by ps t column row w h d

pub no_win_left : (ps : List Point) (t u : Side) (r : Bool) → OnWay gomoku start (at ps t) → r ≡ chance_of ps u → r ≡ false → NoWin (gomoku_from ps t) u
no_win_left ps t u r way a e =
    no_win 225 225 (gomoku_from empty First) (gomoku_from ps t) laws (point_of gomoku start (at ps t) way) u (sym a ∙ e)
