use Rattle.format.proofs.LaidOut.{lays_on}
use Rattle.record.proofs.writer.put_both.Goals as goal

pub returns : goal.returns
returns c =
    lays_on c.args.buffer.now c.put-middle.new.buffer c.put.new.buffer c.args.place c.put-middle.result c.put.result c.args.first.now c.args.second.now
    c.put-middle.ensures c.put.ensures c.requires
