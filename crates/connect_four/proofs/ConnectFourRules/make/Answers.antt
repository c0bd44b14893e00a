use Rattle.connect_four_theory.proofs.Facts.{some_target, Laid, laid, laid_line}
use Rattle.connect_four.proofs.ConnectFourRules.make.Goals as goal

pub invariant_of-self : goal.invariant_of-self
invariant_of-self c =
    let x = c.args.self.now in
    let q = some_target x.stones.first x.stones.second c.args.code c.in-Some.cell c.in-Some.ensures in
    let g : Laid c.with.result c.other-next.result c.judge.result =
    rw (c.judge.ensures, c.with.ensures, c.with-own.ensures, c.of.ensures, q.1, c.of-other.ensures, c.other-next.ensures)
    (laid x.stones x.turn c.args.code x.settled q.0 x.way) in
    record { settled = g.settled; judged = g.judged; way = g.way }

pub returns-clause-line : goal.returns-clause-line
returns-clause-line c =
    let x = c.args.self.now in
    let q = some_target x.stones.first x.stones.second c.args.code c.in-Some.cell c.in-Some.ensures in
    rw (c.with.ensures, c.with-own.ensures, c.of.ensures, q.1, c.other-next.ensures) (laid_line x.stones x.turn c.args.code q.0)
