use Rattle.std.proofs.Common.{replicate, refl}
use Rattle.side.specs.declared.Side.TheVariants.{First}
use Rattle.nim_theory.proofs.Start.{most_codes}
use Rattle.nim_theory.proofs.sample_bounds.Goals as goal

pub returns : goal.returns
returns c = record { highest_code = refl; longest_game = (most_codes (replicate 8 31) First 248 refl).some }
