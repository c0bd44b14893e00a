use Rattle.std.proofs.Common.{◌≡◌, true, sym, ap, ◌∙◌, length, rules}
use Rattle.gomoku_theory.specs.Gomoku.{fits}
use Rattle.gomoku_theory.proofs.Moves.{more_counted, more_judged, more_on_way}
use Rattle.gomoku.proofs.GomokuRules.make.Goals as goal

pub invariant_of-self : goal.invariant_of-self
invariant_of-self c =
    let x = c.args.self.now in
    let ps = x.points in
    let k = c.from-place.result in
    let whole : length ps ≡ 225 = search rules in
    let legal : fits ps k ≡ true = ap (fits ps) c.from-place.ensures ∙ sym c.if-not-fitting.ensures in
    record {
      counted = more_counted ps k x.turn x.stones whole legal x.counted;
      judged = more_judged ps k x.turn x.stones c.judge-self.result whole legal x.counted c.judge-self.ensures;
      way = more_on_way ps k x.turn c.other-next.result legal x.way c.other-next.ensures;
    }
