use Rattle.std.proofs.Common.{rules}
use Rattle.gomoku_theory.proofs.Moves.{shown_as}
use Rattle.gomoku.proofs.Gomoku.point.Goals as goal

pub returns-clause-made : goal.returns-clause-made
returns-clause-made c =
    let x = c.args.self.now in
    shown_as x.points x.turn c.args.column c.args.row c.then.result (search rules)
