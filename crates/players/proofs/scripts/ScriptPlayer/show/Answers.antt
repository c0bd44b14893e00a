use Rattle.std.proofs.Common.{arith}
use Rattle.players_theory.proofs.Entries.{shown_past}
use Rattle.players.proofs.scripts.ScriptPlayer.show.Goals as goal

pub returns-else-self-len-clause-line : goal.returns-else-self-len-clause-line
returns-else-self-len-clause-line c =
    let s = c.args.self.now in
    let long = s.codes.ok.0 in
    shown_past s.codes.items s.shown c.args._code (omega arith)
