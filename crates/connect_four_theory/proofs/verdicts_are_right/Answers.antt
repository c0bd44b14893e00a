use Rattle.connect_four_theory.proofs.Facts.{status_right, chance_right, column_wins}
use Rattle.connect_four_theory.proofs.verdicts_are_right.Goals as goal

pub returns : goal.returns
returns c = record { status = status_right; chance = chance_right; sample = column_wins }
