use Rattle.std.proofs.Common.{ℕ, ◌*◌, List, ◌++◌, refl, ap, subst, ap₂}
use Rattle.format.specs.Laid.{Lays}
use Rattle.format.proofs.LaidOut.{record_laid}
use Rattle.record.specs.Contents.{content}
use Rattle.record.proofs.content.Record.put_all.Goals as goal

pub returns : goal.returns
returns g c =
    record_laid (content g.T.Turns.turns c.args.self.now) _ _
    c.args.buffer.now c.put-head_end.new.buffer c.put_pair-text_pair.new.buffer c.put_pair-turns_pair.new.buffer c.put_pair-lefts_pair.new.buffer c.put-text_end.new.buffer c.put_turns-turns_end.new.buffer c.put_both.new.buffer
    c.put-head_end.result c.put_pair-text_pair.result c.put_pair-turns_pair.result c.put_pair-lefts_pair.result c.put-text_end.result c.put_turns-turns_end.result c.put_both.result
    refl (ap (λ (n : ℕ). 6 * n) c.count.ensures) c.requires.room
    (subst (λ (xs : List ℕ). Lays c.args.buffer.now 0 xs c.put-head_end.new.buffer c.put-head_end.result) c.head.ensures c.put-head_end.ensures)
    c.put_pair-text_pair.ensures c.put_pair-turns_pair.ensures c.put_pair-lefts_pair.ensures c.put-text_end.ensures c.put_turns-turns_end.ensures
    (subst (λ (xs : List ℕ). Lays c.put_turns-turns_end.new.buffer c.put_turns-turns_end.result xs c.put_both.new.buffer c.put_both.result) (ap₂ ◌++◌ c.to_le_bytes.ensures c.to_le_bytes-2.ensures) c.put_both.ensures)
