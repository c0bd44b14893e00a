use Rattle.format.proofs.TurnParts.{slow_reading}
use Rattle.format.specs.Requirements.{turns_in}
use Rattle.record.proofs.reader.check_readings.Goals as goal

pub returns-in-Some : goal.returns-in-Some
returns-in-Some c = slow_reading c.args.place (turns_in c.args.turns.0.now) c.chunks.result.now _ c.in-Some.ensures.place c.chunks.ensures.turns

pub returns-in-None : goal.returns-in-None
returns-in-None c = slow_reading c.args.place (turns_in c.args.turns.0.now) c.chunks.result.now _ c.in-None.ensures.place c.chunks.ensures.turns
