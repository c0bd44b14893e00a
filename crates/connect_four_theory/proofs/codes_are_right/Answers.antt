use Rattle.connect_four_theory.proofs.Facts.{legal_right, placed_right, landing_right, settled_right, made_right}
use Rattle.connect_four_theory.proofs.codes_are_right.Goals as goal

pub returns : goal.returns
returns c = record { legal = legal_right; placed = placed_right; landing = landing_right; settled = settled_right; made = made_right }
