use Rattle.gomoku_theory.proofs.Moves.{no_win_left}
use Rattle.gomoku.proofs.GomokuRules.chance.Goals as goal

pub returns-clause-no_win : goal.returns-clause-no_win
returns-clause-no_win c =
    let x = c.args.self.now in
    no_win_left x.points x.turn c.args.side c.fits_board.result x.way c.fits_board.ensures
