-- The laws of a plan from facts about single positions and single codes, once for every game.
use Rattle.std.proofs.Common.{◌≡◌, ℕ, zero, suc, ◌+◌, ◌<◌, ◌≤◌, Bool, true, false, ◌&&◌, ◌⊎◌, List, [], ◌∷◌, ◌++◌, length, Decides, sym, refl, ap, ◌∙◌, subst, inl, inr, arith}
use mathlib.Core.Logic.{∥∥₁_map}
use Rattle.std.specs.List.{AllByRecursion as All}
use Rattle.std.proofs.lemmas.Bool.{and_parts, and_from, cases_Bool, both_ways}
use Rattle.side.specs.declared.Side.{Side}
use Rattle.rules.specs.declared.Status.TheVariants.{Open, Won}
use Rattle.rules.specs.Plans.{RulesPlan, Lawful, PointOf, Winnable, after_codes}
use Rattle.rules.specs.Machine.{Machine, after, all_legal, plan_of, OnWay}

-- P s n: the position s is one of the game's, and at most n codes can follow it
pub record Sound {S : Type 0} (m : Machine S) (P : S → ℕ → Type 0) (codes : ℕ) : Type 0 where
  pub opens : (s : S) (n c : ℕ) → P s n → m.legal s c ≡ true → m.status s ≡ Open
  pub step : (s : S) (n c : ℕ) → P s n → m.legal s c ≡ true → (k : ℕ) × (k < n) × P (m.next s c) k
  pub goes_on : (s : S) (n : ℕ) → P s n → m.status s ≡ Open → (c : ℕ) × (m.legal s c ≡ true)
  pub below : (s : S) (n c : ℕ) → P s n → m.legal s c ≡ true → c < codes
  pub fades : (s : S) (n c : ℕ) (t : Side) → P s n → m.legal s c ≡ true → m.chance s t ≡ false → m.chance (m.next s c) t ≡ false
  pub winner : (s : S) (n : ℕ) (t : Side) → P s n → m.status s ≡ Won t → m.chance s t ≡ true

-- a chance is a win or is kept by some code
abbrev pub Kept : {S : Type 0} (m : Machine S) (P : S → ℕ → Type 0) → Type 0
Kept {S} m P = (s : S) (n : ℕ) (t : Side) → P s n → m.chance s t ≡ true → (m.status s ≡ Won t) ⊎ ((c : ℕ) × (m.legal s c ≡ true) × (m.chance (m.next s c) t ≡ true))

pub onward_is : {S : Type 0} (m : Machine S) (s : S) (c : ℕ) → m.legal s c ≡ true → plan_of m (m.next s c) ≡ after_codes (plan_of m s) (c ∷ [])
onward_is {S} m s c h =
    let F : Bool → RulesPlan = λ b. record { legal = λ v. b && all_legal m (m.next s c) v; status = λ w. m.status (after m (m.next s c) w); chance = λ w. m.chance (after m (m.next s c) w) } in
    ap F (sym h)

-- the plan from the position that legal codes lead to is the rest of the plan after them
pub rest_is : {S : Type 0} (m : Machine S) (s : S) (w : List ℕ) → all_legal m s w ≡ true → plan_of m (after m s w) ≡ after_codes (plan_of m s) w
rest_is m s [] h = refl
rest_is m s (c ∷ w) h =
    let q = and_parts _ _ h in
    rest_is m (m.next s c) w q.1 ∙ ap (λ (p : RulesPlan). after_codes p w) (onward_is m s c q.0)

-- one more legal code of a machine
pub legal_push : {S : Type 0} (m : Machine S) (s : S) (w : List ℕ) (c : ℕ) → all_legal m s w ≡ true → m.legal (after m s w) c ≡ true → all_legal m s (w ++ (c ∷ [])) ≡ true
legal_push m s [] c h k = and_from _ _ k refl
legal_push m s (d ∷ w) c h k = let q = and_parts _ _ h in and_from _ _ q.0 (legal_push m (m.next s d) w c q.1 k)

pub after_push : {S : Type 0} (m : Machine S) (s : S) (w : List ℕ) (c : ℕ) → after m s (w ++ (c ∷ [])) ≡ m.next (after m s w) c
after_push m s [] c = refl
after_push m s (d ∷ w) c = after_push m (m.next s d) w c

-- a position is on the way from the start where some legal codes lead to it
pub start_on_way : {S : Type 0} (m : Machine S) (s : S) → OnWay m s s
start_on_way m s = ∣ ([], refl, refl) ∣₁

pub next_on_way : {S : Type 0} (m : Machine S) (s t : S) (c : ℕ) → OnWay m s t → m.legal t c ≡ true → OnWay m s (m.next t c)
next_on_way {S} m s t c way h =
    ∥∥₁_map way (λ x.
    let w = x.0 in
    let k : m.legal (after m s w) c ≡ true = subst (λ (y : S). m.legal y c ≡ true) x.2 h in
    (w ++ (c ∷ []), legal_push m s w c x.1 k, ap (λ (y : S). m.next y c) x.2 ∙ sym (after_push m s w c)))

pub point_of : {S : Type 0} (m : Machine S) (s t : S) → OnWay m s t → PointOf (plan_of m s) (plan_of m t)
point_of m s t way = ∥∥₁_map way (λ x. (x.0, x.1, ap (plan_of m) x.2 ∙ rest_is m s x.0 x.1))

module _ {S : Type 0} (m : Machine S) (P : S → ℕ → Type 0) (codes : ℕ) (ok : Sound m P codes) where
  after_append : (s : S) (w v : List ℕ) → after m s (w ++ v) ≡ after m (after m s w) v
  after_append s [] v = refl
  after_append s (c ∷ w) v = after_append (m.next s c) w v

  legal_join : (s : S) (w v : List ℕ) → all_legal m s w ≡ true → all_legal m (after m s w) v ≡ true → all_legal m s (w ++ v) ≡ true
  legal_join s [] v h k = k
  legal_join s (c ∷ w) v h k = let p = and_parts _ _ h in and_from _ _ p.0 (legal_join (m.next s c) w v p.1 k)

  legal_parts : (s : S) (w v : List ℕ) → all_legal m s (w ++ v) ≡ true → (all_legal m s w ≡ true) × (all_legal m (after m s w) v ≡ true)
  legal_parts s [] v h = (refl, h)
  legal_parts s (c ∷ w) v h =
      let p = and_parts _ _ h in
      let q = legal_parts (m.next s c) w v p.1 in
      (and_from _ _ p.0 q.0, q.1)

  reached : (s : S) (n : ℕ) (w : List ℕ) → P s n → all_legal m s w ≡ true → (k : ℕ) × (length w + k ≤ n) × P (after m s w) k
  reached s n [] p h = (n, omega arith, p)
  reached s n (c ∷ w) p h =
      let q = and_parts _ _ h in
      let st = ok.step s n c p q.0 in
      let r = reached (m.next s c) st.0 w st.2 q.1 in
      (r.0, (let a = st.1 in let b = r.1 in omega arith), r.2)

  belows : (s : S) (n : ℕ) (w : List ℕ) → P s n → all_legal m s w ≡ true → All (λ c. c < codes) w
  belows s n [] p h = tt
  belows s n (c ∷ w) p h =
      let q = and_parts _ _ h in
      let st = ok.step s n c p q.0 in
      (ok.below s n c p q.0, belows (m.next s c) st.0 w st.2 q.1)

  fading : (s : S) (n : ℕ) (w : List ℕ) (t : Side) → P s n → all_legal m s w ≡ true → m.chance s t ≡ false → m.chance (after m s w) t ≡ false
  fading s n [] t p h f = f
  fading s n (c ∷ w) t p h f =
      let q = and_parts _ _ h in
      let st = ok.step s n c p q.0 in
      fading (m.next s c) st.0 w t st.2 q.1 (ok.fades s n c t p q.0 f)

  pub lawful : (s : S) (longest : ℕ) → codes ≤ 65534 → P s longest → m.status s ≡ Open → Lawful codes longest (plan_of m s)
  lawful s longest few p open' =
      record {
        starts = refl;
        opens = open';
        earlier = λ w c v h.
            let q = legal_parts s w (c ∷ v) h in
            let r = reached s longest w p q.0 in
            (q.0, ok.opens (after m s w) r.0 c r.2 (and_parts _ _ q.1).0);
        goes_on = λ w h o.
            let r = reached s longest w p h in
            let g = ok.goes_on (after m s w) r.0 r.2 o in
            (g.0, legal_join s w (g.0 ∷ []) h (and_from _ _ g.1 refl));
        few = few;
        below = λ w h. belows s longest w p h;
        short = λ w h. let r = (reached s longest w p h).1 in omega arith;
        fades = λ w v t h f.
            let q = legal_parts s w v h in
            let r = reached s longest w p q.0 in
            let a = fading (after m s w) r.0 v t r.2 q.1 f in
            subst (λ (x : S). m.chance x t ≡ false) (sym (after_append s w v)) a;
        winner = λ w t h e. let r = reached s longest w p h in ok.winner (after m s w) r.0 t r.2 e;
      }

  found : Kept m P → (f : ℕ) (s : S) (n : ℕ) (t : Side) → n ≤ f → P s n → m.chance s t ≡ true → Winnable (plan_of m s) t
  found kept zero s n t le p h =
      elim (kept s n t p h) [
        | inl e ↦ ([], refl, e)
        | inr g ↦ let a = (ok.step s n g.0 p g.1).1 in absurd (omega arith)
      ]
  found kept (suc f) s n t le p h =
      elim (kept s n t p h) [
        | inl e ↦ ([], refl, e)
        | inr g ↦
            let st = ok.step s n g.0 p g.1 in
            let a = st.1 in
            let r = found kept f (m.next s g.0) st.0 t (omega arith) st.2 g.2 in
            (g.0 ∷ r.0, and_from _ _ g.1 r.1, r.2)
      ]

  -- a side has a chance exactly where some series of legal codes wins for it
  pub exact : Kept m P → (s : S) (n : ℕ) (t : Side) → P s n → Decides (m.chance s t) (Winnable (plan_of m s) t)
  exact kept s n t p = (
    (λ h. found kept n s n t (omega arith) p h),
    (λ g. elim (cases_Bool (m.chance s t)) [
      | inl e ↦ e
      | inr e ↦
          let r = reached s n g.0 p g.1 in
          let w = ok.winner (after m s g.0) r.0 t r.2 g.2 in
          absurd (both_ways _ (fading s n g.0 t p g.1 e) w)
    ]),
  )

  -- the same after any legal list of codes
  pub exact_after : Kept m P → (s : S) (n : ℕ) (t : Side) (w : List ℕ) → P s n → all_legal m s w ≡ true
      → Decides ((plan_of m s).chance w t) (Winnable (after_codes (plan_of m s) w) t)
  exact_after kept s n t w p h =
      let r = reached s n w p h in
      let e = exact kept (after m s w) r.0 t r.2 in (
        (λ y. let g = e.0 y in (g.0, legal_join s w g.0 h g.1, ap m.status (after_append s w g.0) ∙ g.2)),
        (λ g. e.1 (g.0, (legal_parts s w g.0 g.1).1, sym (ap m.status (after_append s w g.0)) ∙ g.2)),
      )
