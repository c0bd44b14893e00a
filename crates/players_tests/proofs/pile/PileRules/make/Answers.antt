use Rattle.std.proofs.Common.{rules, ◌≡◌, true}
use Rattle.rules.proofs.Sound.{next_on_way}
use Rattle.players_tests.specs.Piles.{pile}
use Rattle.players_tests.proofs.pile.PileRules.make.Goals as goal

pub invariant_of-self : goal.invariant_of-self
invariant_of-self c =
    let x = c.args.self.now in
    let legal : pile.legal x.left c.args.code ≡ true = search rules in
    record { some = x.some; most = x.most; way = next_on_way pile x.full x.left c.args.code x.way legal }
