-- What a record in hand says.
--   content   by what its turns are
use Rattle.std.specs.Prelude.{List}
use Rattle.verdict.specs.declared.Turn.{Turn}
use Rattle.format.specs.Layout.{Content}
use Rattle.record.specs.declared.content.Record.{Record}

abbrev pub content : {T : Type 0} → (T → List Turn) → Record T → Content
content turns r = record {
  first = r.seats.first;
  second = r.seats.second;
  standing = r.verdict;
  limit = r.limit;
  text = r.text.now;
  turns = turns r.turns;
  first_left = r.lefts.first;
  second_left = r.lefts.second;
}
