-- What is left is in the clock's range at every point; the clock's line is the rest of its plan after each side's readings.
use Rattle.std.proofs.Common.{◌≡◌, ℕ, ◌≤◌, Bool, true, false, cond, ltb, List, [], ◌∷◌, ◌++◌, sym, refl, ap, ◌∙◌, append_assoc, append-nil, ltb-false}
use mathlib.Core.Path.{fun_ext}
use Rattle.side.specs.declared.Side.{Side}
use Rattle.side.specs.declared.Side.TheVariants.{First, Second}
use Rattle.side.specs.TwoSides.{opponent, pick}
use Rattle.clock.specs.Times.{Times, Bounded, Passing, past, spent}
use Rattle.verdict.specs.declared.Turn.{Turn}
use Rattle.format.specs.Layout.{InLaw}
use Rattle.meaning.specs.Turns.{Point, past_turn, past_turns}
use Rattle.meaning.specs.Games.{Terms, point_at}
use Rattle.std.proofs.lemmas.Bool.{cond_both}

-- a line's times are some of its plan's
spent_bounded : (κ : Times) → Bounded κ → (side : Side) (u : ℕ) → Bounded (spent κ side u)
spent_bounded κ b side u =
    cond_both (ltb u (κ side [])) _ _ Bounded (λ e. record { least = λ s us. b.least s _; most = λ s us. b.most s _ }) (λ e. b)

bounded_after : (x : Point) (side : Side) (ts : List Turn) → Bounded x.clock → Bounded (past_turns x side ts).clock
bounded_after x side [] b = b
bounded_after x side (t ∷ ts) b = bounded_after (past_turn x side t) (opponent side) ts (spent_bounded x.clock b side t.reading)

-- so what is left may stand in a record
pub left_in_law : (T : Terms) → Bounded T.plans.clock → (ts : List Turn) (side : Side) → InLaw ((point_at T ts).clock side [])
left_in_law T b ts side =
    let a = bounded_after (record { rules = T.plans.rules; clock = T.plans.clock }) First ts b in
    record { least = a.least side []; most = a.most side [] }

-- the plan from the readings r on
abbrev beyond : Times → (Side → List ℕ) → Times
beyond κ r s us = κ s (r s ++ us)

abbrev more_used : (Side → List ℕ) → Side → ℕ → Side → List ℕ
more_used r side u s = r s ++ pick side (pick s (u ∷ []) []) (pick s [] (u ∷ []))

-- the readings of each side, from r on
abbrev pub used_from : Side → (Side → List ℕ) → List Turn → Side → List ℕ
used_from side r [] = r
used_from side r (t ∷ ts) = used_from (opponent side) (more_used r side t.reading) ts

in_time_same : (κ : Times) (r : Side → List ℕ) (side : Side) (u : ℕ) (s : Side) (us : List ℕ) → past (beyond κ r) side u s us ≡ beyond κ (more_used r side u) s us
in_time_same κ r First u First us = simp append_assoc
in_time_same κ r First u Second us = simp append_assoc
in_time_same κ r Second u First us = simp append_assoc
in_time_same κ r Second u Second us = simp append_assoc

-- a plan passes over a reading that is not in time
fallen_same : (κ : Times) → Passing κ → (r : Side → List ℕ) (side : Side) (u : ℕ) → κ side (r side) ≤ u → (s : Side) (us : List ℕ) → beyond κ r s us ≡ beyond κ (more_used r side u) s us
fallen_same κ p r First u h First us = simp append_assoc (sym (p.over First (r First) u us h))
fallen_same κ p r First u h Second us = simp append_assoc
fallen_same κ p r Second u h First us = simp append_assoc
fallen_same κ p r Second u h Second us = simp append_assoc (sym (p.over Second (r Second) u us h))

spent_by : (κ : Times) → Passing κ → (r : Side → List ℕ) (side : Side) (u : ℕ) (b : Bool) → ltb u (κ side (r side ++ [])) ≡ b → cond b (past (beyond κ r) side u) (beyond κ r) ≡ beyond κ (more_used r side u)
spent_by κ p r side u true e = fun_ext (λ s. fun_ext (λ us. in_time_same κ r side u s us))
spent_by κ p r side u false e =
    let h : κ side (r side) ≤ u = ltb-false u (κ side (r side)) (ap (λ l. ltb u (κ side l)) (sym (append-nil (r side))) ∙ e) in
    fun_ext (λ s. fun_ext (λ us. fallen_same κ p r side u h s us))

clock_after : (κ : Times) → Passing κ → (x : Point) (side : Side) (r : Side → List ℕ) (ts : List Turn) → x.clock ≡ beyond κ r → (past_turns x side ts).clock ≡ beyond κ (used_from side r ts)
clock_after κ p x side r [] e = e
clock_after κ p x side r (t ∷ ts) e =
    clock_after κ p (past_turn x side t) (opponent side) (more_used r side t.reading) ts
    (ap (λ l. spent l side t.reading) e ∙ spent_by κ p r side t.reading (ltb t.reading (κ side (r side ++ []))) refl)

-- what is left for a side is what the plan says after that side's readings
pub left_is : (T : Terms) → Passing T.plans.clock → (ts : List Turn) (s : Side) → (point_at T ts).clock s [] ≡ T.plans.clock s (used_from First (λ side. []) ts s)
left_is T p ts s =
    let x : Point = record { rules = T.plans.rules; clock = T.plans.clock } in
    ap (λ l. l s []) (clock_after T.plans.clock p x First (λ side. []) ts refl) ∙ ap (T.plans.clock s) (append-nil (used_from First (λ side. []) ts s))
