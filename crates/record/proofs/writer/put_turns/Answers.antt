use Rattle.std.proofs.Common.{◌<◌, length, sym, ◌∙◌, arith}
use Rattle.std.proofs.lemmas.Option.{slice_get-get_or}
use Rattle.format.proofs.LaidOut.{no_turns_laid, turn_laid, turns_laid, turn_room}
use Rattle.record.proofs.writer.put_turns.Goals as goal
use Rattle.record.proofs.writer.put_turns.Goals.{in-Some, in_default}

pub loop-number-init : goal.loop-number-init
loop-number-init g c = no_turns_laid c.args.buffer.now c.args.place

pub put_turn-end-requires : goal.put_turn-end-requires
put_turn-end-requires g c =
    let ts = g.T.Turns.turns c.args.turns.now in
    let i = c.loop-number.number in
    let within : i < length ts = omega (arith, c.count-number-end.ensures) in
    let room = turn_room c.args.buffer.now c.loop-number.buffer c.args.place c.loop-number.end ts i within c.requires c.loop-number.invariant in
    omega (arith, room)

pub loop-number-preserved : goal.loop-number-preserved
loop-number-preserved g c =
    let ts = g.T.Turns.turns c.args.turns.now in
    let i = c.loop-number.number in
    let within : i < length ts = omega (arith, c.count-number-end.ensures) in
    elim c.match-turn.branch [
      | in-Some w ↦
          rw (w.buffer-is, w.end-is)
          (turn_laid c.args.buffer.now c.loop-number.buffer _ c.args.place c.loop-number.end _ ts i w.in-Some.turn within c.requires (sym c.turn.ensures ∙ w.in-Some.is) c.loop-number.invariant w.put_turn-end.ensures)
      | in_default w ↦ absurd (w.in_default.not-Some _ (c.turn.ensures ∙ slice_get-get_or ts i (record { code = 0; reading = 0 }) within))
    ]

pub returns : goal.returns
returns g c =
    turns_laid c.args.buffer.now c.loop-number.buffer c.args.place c.loop-number.end (g.T.Turns.turns c.args.turns.now) c.loop-number.number (omega (arith, c.count-number-end.ensures)) c.loop-number.invariant
