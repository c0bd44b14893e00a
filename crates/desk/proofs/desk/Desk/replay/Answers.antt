use Rattle.std.proofs.Common.{◌≡◌, sym, ap, ◌∙◌}
use Rattle.side.specs.declared.Side.TheVariants.{First, Second}
use Rattle.desk.proofs.Ways.{way_start}
use Rattle.desk.proofs.Walk.{walking_none, walking_more, walking_all}
use Rattle.desk.proofs.desk.Desk.replay.Goals as goal

pub loop-turn-init : goal.loop-turn-init
loop-turn-init g c =
    let both = c.args.both in
    let r = c.reset.ensures in
    let k = c.reset-2.ensures in
    let one = c.reset-3.ensures in
    let two = c.reset-4.ensures in
    let bank = g.B.Bank.plan c.args.self.now.bank in
    let first : g.B.Bank.line c.reset-4.new.self both.numbers.first ≡ bank both.numbers.first First = cc (two.others both.numbers.first both.apart) in
    let second : g.B.Bank.line c.reset-4.new.self both.numbers.second ≡ bank both.numbers.second Second = cc in
    record {
      plans = λ j. record { rules = r.plan j; clock = k.plan j; bank = (two.plan ∙ one.plan) j };
      walking = walking_none _ _ _ (λ j. record { point = record { rules = r.line j; clock = k.line j }; first = first j; second = second j });
      way = way_start _ _ (g.R.Rules.plan c.reset.new.self) _ (g.met.R.Rules.lawful c.reset.new.self) (r.line ∙ sym r.plan);
    }

pub remake-count-requires : goal.remake-count-requires
remake-count-requires g c = c.loop-turn.invariant.way

pub loop-turn-preserved : goal.loop-turn-preserved
loop-turn-preserved g c =
    let i = c.loop-turn.invariant in
    let s = c.show.ensures in
    let made = c.remake-count.ensures in
    let rules = ap g.R.Rules.line s.rules ∙ made.line in
    let clock = ap g.C.Clock.line s.clock ∙ c.spend.ensures.line in
    record {
      plans = s.plans ∙ (λ j. record { rules = made.plan j; clock = c.spend.ensures.plan j; bank = g.B.Bank.plan c.loop-turn.self.bank }) ∙ i.plans;
      walking = walking_more _ _ i.walking c.loop-turn-test.true (λ j. record { point = record { rules = rules j; clock = clock j }; first = s.first j; second = s.second j }) c.other-side.ensures;
      way = rw s.rules made.way;
    }

pub returns : goal.returns
returns g c =
    let end = walking_all c.loop-turn.invariant.walking c.loop-turn-test.false in
    record { plans = c.loop-turn.invariant.plans; lines = end.1; mover = end.0 }
