-- Where a walk through turns stands.
--   Walking   after i of the turns, those that are left lead from lines x and a side to where all lead from the start
use Rattle.std.proofs.Common.{◌≡◌, ℕ, ◌+◌, ◌<◌, ◌≤◌, List, length, get_or, drop, sym, refl, ap, ◌∙◌}
use Rattle.std.proofs.lemmas.List.{at_drop_more, at_drop_all}
use Rattle.side.specs.declared.Side.{Side}
use Rattle.side.specs.declared.Side.TheVariants.{First}
use Rattle.side.specs.TwoSides.{opponent}
use Rattle.verdict.specs.declared.Turn.{Turn}
use Rattle.meaning.specs.Turns.{mover}
use Rattle.desk.specs.Lines.{Lines, followed, walked}

pub record Walking (start : Lines) (ts : List Turn) (i : ℕ) (x : Lines) (side : Side) : Type 0 where
  pub to_move : mover side (drop i ts) ≡ mover First ts
  pub lines : walked x side (drop i ts) ≡ walked start First ts

abbrev no_turn : Turn
no_turn = record { code = 0; reading = 0 }

pub walking_none : (start x : Lines) (ts : List Turn) → x ≡ start → Walking start ts 0 x First
walking_none start x ts e = record { to_move = refl; lines = ap (λ (y : Lines). walked y First ts) e }

pub walking_more : {start : Lines} {ts : List Turn} {i : ℕ} {x : Lines} {side : Side} (x' : Lines) (side' : Side)
    → Walking start ts i x side → i < length ts → x' ≡ followed x side (get_or ts i no_turn) → side' ≡ opponent side → Walking start ts (i + 1) x' side'
walking_more {start} {ts} {i} {x} {side} x' side' w h ex es = record {
  to_move = ap (λ (s : Side). mover s (drop (i + 1) ts)) es ∙ sym (at_drop_more (mover side) ts i no_turn h) ∙ w.to_move;
  lines = (λ j. walked (ex j) (es j) (drop (i + 1) ts)) ∙ sym (at_drop_more (walked x side) ts i no_turn h) ∙ w.lines;
}

pub walking_all : {start : Lines} {ts : List Turn} {i : ℕ} {x : Lines} {side : Side} → Walking start ts i x side → length ts ≤ i → (side ≡ mover First ts) × (x ≡ walked start First ts)
walking_all {start} {ts} {i} {x} {side} w h = (sym (at_drop_all (mover side) ts i h) ∙ w.to_move, sym (at_drop_all (walked x side) ts i h) ∙ w.lines)
