use Rattle.connect_four_theory.proofs.Facts.{stones_right, full_right}
use Rattle.connect_four_theory.proofs.stones_are_right.Goals as goal

pub returns : goal.returns
returns c = record { stones = stones_right; full = full_right }
