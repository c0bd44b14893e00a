use Rattle.std.proofs.Common.{rules}
use Rattle.std.proofs.lemmas.Iterator.{cases_from_any, YieldsList-from_slice}
use borrow.Author.Tests.{tests}
use Rattle.connect_four_theory.specs.Stones.{Run}
use Rattle.connect_four_theory.proofs.Lines.{line_is}
use Rattle.connect_four.proofs.Stones.has_line.Goals as goal

pub returns : goal.returns
returns c =
    let w = c.self.inside.word in
    rw (← c.self.view_is)
    (line_is w c.self.invariant c.any.result
    (cases_from_any _ _ _ (λ by. Run w by) (λ by. Run w by → ⊥) c.any.ensures.ran (YieldsList-from_slice _ c.iter.ensures.rest)
    (λ x q k. search (rules, tests)) (λ x q k. search (rules, tests))))
