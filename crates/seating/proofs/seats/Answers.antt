use Rattle.std.proofs.Common.{arith}
use Rattle.seating.proofs.Computed.{found_high}
use Rattle.seating.proofs.seats.Goals as goal

pub overflow_sub-high : goal.overflow_sub-high
overflow_sub-high c = (found_high c.args.entrants c.args.game (omega arith) (omega arith) c.lower-low.result c.first_game.result c.lower-low.ensures c.first_game.ensures).0
