use Rattle.std.proofs.Common.{not, sym, ap, ◌∙◌}
use Rattle.std.proofs.lemmas.Bool.{not-true}
use Rattle.rules.proofs.Dead.{no_win}
use Rattle.rules.proofs.is_dead.Goals as goal

pub returns : goal.returns
returns g c =
    let x = c.args.rules.now in
    record {
      value = ap not c.chance.ensures;
      no_win = λ h.
          no_win g.R.Rules.CODES g.R.Rules.LONGEST (g.R.Rules.plan x) (g.R.Rules.line x) (g.met.R.Rules.lawful x) (g.met.R.Rules.point x) c.args.side
          (sym c.chance.ensures ∙ not-true c.chance.result h);
    }
