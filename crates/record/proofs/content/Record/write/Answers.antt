use Rattle.format.proofs.Back.{reads_back}
use Rattle.record.proofs.content.Record.write.Goals as goal

pub returns-in-Some-clause-reads_back : goal.returns-in-Some-clause-reads_back
returns-in-Some-clause-reads_back g c = reads_back _

pub returns-in_default-clause-reads_back : goal.returns-in_default-clause-reads_back
returns-in_default-clause-reads_back g c = reads_back _

pub returns-in_default-2-clause-reads_back : goal.returns-in_default-2-clause-reads_back
returns-in_default-2-clause-reads_back g c = reads_back _
