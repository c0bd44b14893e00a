-- The point of play and the side to move, one turn more at the end; the rules' line after some turns.
use Rattle.std.proofs.Common.{◌≡◌, ℕ, Bool, true, false, cond, List, [], ◌∷◌, ◌++◌, sym, refl, ap, ◌∙◌, append_assoc}
use mathlib.Core.Path.{fun_ext}
use Rattle.side.specs.declared.Side.{Side}
use Rattle.side.specs.TwoSides.{opponent}
use Rattle.rules.specs.Plans.{RulesPlan, after_codes, made}
use Rattle.verdict.specs.declared.Turn.{Turn}
use Rattle.meaning.specs.Turns.{Point, past_turn, past_turns, mover}
use Rattle.meaning.specs.History.{made_from}

pub past_push : (x : Point) (s : Side) (ts : List Turn) (t : Turn) → past_turns x s (ts ++ (t ∷ [])) ≡ past_turn (past_turns x s ts) (mover s ts) t
past_push x s [] t = refl
past_push x s (y ∷ ts) t = past_push (past_turn x s y) (opponent s) ts t

pub mover_push : (s : Side) (ts : List Turn) (t : Turn) → mover s (ts ++ (t ∷ [])) ≡ opponent (mover s ts)
mover_push s [] t = refl
mover_push s (y ∷ ts) t = mover_push (opponent s) ts t

pub after_after : (p : RulesPlan) (w v : List ℕ) → after_codes (after_codes p w) v ≡ after_codes p (w ++ v)
after_after p w v =
    let at : (List ℕ → List ℕ) → RulesPlan = λ k. record { legal = λ u. p.legal (k u); status = λ u. p.status (k u); chance = λ u. p.chance (k u) } in
    ap at (fun_ext (λ u. sym (append_assoc w v u)))

made_after : (p : RulesPlan) (w : List ℕ) (c : ℕ) (b : Bool) → cond b (after_codes (after_codes p w) (c ∷ [])) (after_codes p w) ≡ after_codes p (cond b (w ++ (c ∷ [])) w)
made_after p w c true = after_after p w (c ∷ [])
made_after p w c false = refl

-- the rules' line is the rest of their plan after the codes made
pub rules_after : (p : RulesPlan) (x : Point) (s : Side) (w : List ℕ) (ts : List Turn) → x.rules ≡ after_codes p w → (past_turns x s ts).rules ≡ after_codes p (made_from p w ts)
rules_after p x s w [] e = e
rules_after p x s w (t ∷ ts) e =
    rules_after p (past_turn x s t) (opponent s) (cond (p.legal (w ++ (t.code ∷ []))) (w ++ (t.code ∷ [])) w) ts
    (ap (λ (l : RulesPlan). made l t.code) e ∙ made_after p w t.code (p.legal (w ++ (t.code ∷ []))))
