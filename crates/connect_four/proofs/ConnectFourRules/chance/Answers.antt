use Rattle.std.proofs.Common.{sym, ◌∙◌}
use Rattle.connect_four_theory.proofs.Facts.{other_words, no_chance}
use Rattle.connect_four.proofs.ConnectFourRules.chance.Goals as goal

pub returns : goal.returns
returns c =
    let x = c.args.self.now in
    let e = rw (c.of.ensures, c.other.ensures, other_words c.args.side x.stones) at c.has_gap.ensures in
    record { value = e; no_win = λ f. no_chance x.stones x.turn x.way c.args.side (sym e ∙ f) }
