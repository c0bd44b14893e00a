use Rattle.board.proofs.Straight.{windows_right, lines_hold_windows, in_line_right, window_counts}
use Rattle.board.proofs.windows_are_right.Goals as goal

pub returns : goal.returns
returns c = record { right = windows_right; held = lines_hold_windows; in_line = in_line_right; counts = window_counts }
