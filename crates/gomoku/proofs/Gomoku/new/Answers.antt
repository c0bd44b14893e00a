use Rattle.std.proofs.Common.{sym, refl}
use Rattle.rules.proofs.Sound.{start_on_way}
use Rattle.gomoku_theory.specs.Gomoku.{gomoku, start, empty}
use Rattle.gomoku_theory.proofs.Lines.{count}
use Rattle.gomoku_theory.proofs.Moves.{open_start, counts, one_winner}
use Rattle.gomoku.proofs.Gomoku.new.Goals as goal

pub invariant_of-result : goal.invariant_of-result
unfolding empty
invariant_of-result c = record { counted = refl; judged = sym open_start; way = start_on_way gomoku start }

pub returns : goal.returns
unfolding empty
returns c = record { begins = refl; windows = count; counted = counts; one_winner = one_winner }
