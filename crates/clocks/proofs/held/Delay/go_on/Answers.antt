use Rattle.std.proofs.Common.{◌≡◌, ◌-◌, ap, ◌∙◌, rules}
use Rattle.side.specs.TwoSides.{of_side}
use Rattle.clock.specs.Times.{spent}
use Rattle.clocks_theory.specs.Kinds.{delay_times}
use Rattle.clocks_theory.proofs.Layers.{delay_goes_on}
use Rattle.clocks.proofs.held.Delay.go_on.Goals as goal

pub returns-clause-line : goal.returns-clause-line
returns-clause-line g c =
    let delays = c.args.self.now.delays in
    let side = c.args.side in
    let line = g.C.Clock.line c.args.self.now.below in
    let over : g.C.Clock.line c.spend.new.self ≡ spent line side (c.args.reading - of_side side delays) = search rules in
    ap (delay_times delays) over ∙ delay_goes_on delays line side c.args.reading c.requires
