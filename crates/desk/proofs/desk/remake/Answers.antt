use Rattle.std.proofs.Common.{◌≤◌, sym, ap, ◌∙◌, arith}
use Rattle.desk.proofs.Ways.{way_more, made_not, way_full}
use Rattle.desk.proofs.desk.remake.Goals as goal
use Rattle.desk.proofs.desk.remake.Goals.{else-count-LONGEST-via-then-count-LONGEST+else-make, else-count-LONGEST-via-else-count-LONGEST}

pub returns-then-make-clause-way : goal.returns-then-make-clause-way
returns-then-make-clause-way g c =
    let e = c.make.ensures in
    rw (e.plan, e.line) (way_more (g.R.Rules.plan c.args.rules.now) (g.R.Rules.line c.args.rules.now) c.args.code c.args.count (sym c.if-make.ensures.legal) c.requires)

-- the code is not legal where the rules say so, and where the game is as long as any can be
pub returns-else-count-LONGEST-clause-line : goal.returns-else-count-LONGEST-clause-line
returns-else-count-LONGEST-clause-line g c =
    let x = c.args.rules.now in
    elim c.else-count-LONGEST.branch [
      | else-count-LONGEST-via-then-count-LONGEST+else-make w ↦ ap g.R.Rules.line w.rules-is ∙ w.make.ensures.line
      | else-count-LONGEST-via-else-count-LONGEST w ↦
          let full : g.R.Rules.LONGEST ≤ c.args.count = omega (arith, c.LONGEST.ensures, w.if-count-LONGEST.false) in
          ap g.R.Rules.line w.rules-is ∙ sym (made_not _ _ (way_full _ _ _ _ c.args.code c.args.count (g.met.R.Rules.lawful x) c.requires full))
    ]

pub returns-else-count-LONGEST-clause-way : goal.returns-else-count-LONGEST-clause-way
returns-else-count-LONGEST-clause-way g c =
    elim c.else-count-LONGEST.branch [
      | else-count-LONGEST-via-then-count-LONGEST+else-make w ↦
          let e = w.make.ensures in
          let same = e.line ∙ made_not (g.R.Rules.line c.args.rules.now) c.args.code (sym w.if-make.ensures.legal) in
          rw (w.rules-is, e.plan, same) c.requires
      | else-count-LONGEST-via-else-count-LONGEST w ↦ rw w.rules-is c.requires
    ]
