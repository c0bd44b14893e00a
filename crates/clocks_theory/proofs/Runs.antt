-- What holds of every movement over whole lists of readings.
use Rattle.std.proofs.Common.{◌≡◌, ℕ, ◌<◌, ◌≤◌, Bool, true, false, if◌then◌else◌, nat_lt, List, [], ◌∷◌, ◌++◌, sym, refl, ap, subst, arith, ltb-true, le-ltb}
use Rattle.std.proofs.lemmas.Bool.{cond_both}
use Rattle.clocks_theory.specs.Movements.{Movement, stepped, after, left_after, in_time, Passes}

module _ {S : Type 0} (m : Movement S) where
  -- what every in-time reading keeps holds after every list
  pub kept : (P : S → Type 0) → ((s : S) (u : ℕ) → u < m.left s → P s → P (m.next s u)) → (s : S) (us : List ℕ) → P s → P (after m s us)
  kept P step s [] h = h
  kept P step s (u ∷ us) h = kept P step (stepped m s u) us (cond_both (nat_lt u (m.left s)) _ _ P (λ e. step s u (ltb-true u (m.left s) e) h) (λ e. h))

  -- what every in-time reading adds to, from the state, the in-time readings and the state after them, holds of every list
  pub runs : (Q : S → List ℕ → S → Type 0) → ((s : S) → Q s [] s) → ((s : S) (u : ℕ) (ws : List ℕ) (t : S) → u < m.left s → Q (m.next s u) ws t → Q s (u ∷ ws) t) → (s : S) (us : List ℕ) → Q s (in_time m s us) (after m s us)
  runs Q none more s [] = none s
  runs Q none more s (u ∷ us) = by (nat_lt u (m.left s)) refl (runs Q none more (m.next s u) us) (runs Q none more s us)
    where
      by : (b : Bool) → nat_lt u (m.left s) ≡ b → Q (m.next s u) (in_time m (m.next s u) us) (after m (m.next s u) us) → Q s (in_time m s us) (after m s us) → Q s (if b then u ∷ in_time m (m.next s u) us else in_time m s us) (after m (if b then m.next s u else s) us)
      by true e spent over = more s u _ _ (ltb-true u (m.left s) e) spent
      by false e spent over = over

  pub after_more : (s : S) (us vs : List ℕ) → after m s (us ++ vs) ≡ after m (after m s us) vs
  after_more s [] vs = refl
  after_more s (u ∷ us) vs = after_more (stepped m s u) us vs

  -- a number that no in-time reading raises never rises
  pub never_rises : (P : S → Type 0) (f : S → ℕ) → ((s : S) (u : ℕ) → u < m.left s → P s → P (m.next s u) × (f (m.next s u) ≤ f s)) → (s : S) → P s → (us vs : List ℕ) → f (after m s (us ++ vs)) ≤ f (after m s us)
  never_rises P f step s h us vs =
      let t = after m s us in
      let held : P t = kept P (λ x u lt p. (step x u lt p).0) s us h in
      let Low : S → Type 0 = λ x. P x × (f x ≤ f t) in
      let low : Low (after m t vs) = kept Low (λ x u lt p. ((step x u lt p.0).0, (let q = (step x u lt p.0).1 in let r = p.1 in omega arith))) t vs (held, omega arith) in
      subst (λ (x : S). f x ≤ f t) (sym (after_more s us vs)) low.1

  pub passes : (s : S) → Passes (left_after m s)
  passes s = record { over = over s }
    where
      over : (t : S) (us : List ℕ) (u : ℕ) (vs : List ℕ) → left_after m t us ≤ u → left_after m t (us ++ u ∷ vs) ≡ left_after m t (us ++ vs)
      over t [] u vs h = ap (λ b. left_after m (if b then m.next t u else t) vs) (le-ltb u (m.left t) h)
      over t (x ∷ us) u vs h = over (stepped m t x) us u vs h
