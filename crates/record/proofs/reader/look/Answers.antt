use Rattle.std.proofs.Common.{arith}
use Rattle.std.proofs.lemmas.Result.{err_from_is_err_and}
use Rattle.format.proofs.Places.{head_fault, pair_fault, parts_end, reading_fault, left_fault, reads}
use Rattle.record.specs.Faults.{found_of}
use Rattle.record.proofs.reader.look.Goals as goal

pub returns-in_err-verdict : goal.returns-in_err-verdict
returns-in_err-verdict c =
    let p = err_from_is_err_and c.from_residual.result c.from_residual.ensures.1 in
    rw (p.1, p.2) (head_fault c.args.bytes.now c.in-Some.front.now c.in-Some.ensures.cases (found_of c.in_err-verdict.field-0.0) c.in_err-verdict.ensures.checked)

pub returns-in_err-text : goal.returns-in_err-text
returns-in_err-text c =
    let p = err_from_is_err_and c.from_residual-in_err-text.result c.from_residual-in_err-text.ensures.1 in
    rw (p.1, p.2) (pair_fault c.args.bytes.now c.in-Some.front.now c.in-Some.ensures.cases (found_of c.in_err-text.field-0.0) c.in_ok-verdict.ensures.checked c.in_err-text.ensures.checked)

pub check_readings-requires : goal.check_readings-requires
check_readings-requires c =
    omega (arith, parts_end c.args.bytes.now c.in-Some.front.now _ _ _ _ c.in-Some.ensures.cases c.in_ok-verdict.ensures.checked c.in_ok-text.ensures.checked c.in_ok-text.ensures.parts)

pub returns-in_err-check_readings : goal.returns-in_err-check_readings
returns-in_err-check_readings c =
    let p = err_from_is_err_and c.from_residual-in_err-check_readings.result c.from_residual-in_err-check_readings.ensures.1 in
    rw (p.1, p.2) (reading_fault c.args.bytes.now c.in-Some.front.now _ _ _ _ c.in-Some.ensures.cases c.in_ok-verdict.ensures.checked c.in_ok-text.ensures.checked c.in_ok-text.ensures.parts
    (found_of c.in_err-check_readings.field-0.0) c.in_err-check_readings.ensures)

pub overflow_add-text_end-2 : goal.overflow_add-text_end-2
overflow_add-text_end-2 c =
    omega (arith, parts_end c.args.bytes.now c.in-Some.front.now _ _ _ _ c.in-Some.ensures.cases c.in_ok-verdict.ensures.checked c.in_ok-text.ensures.checked c.in_ok-text.ensures.parts)

pub check_lefts-requires : goal.check_lefts-requires
check_lefts-requires c =
    omega (arith, parts_end c.args.bytes.now c.in-Some.front.now _ _ _ _ c.in-Some.ensures.cases c.in_ok-verdict.ensures.checked c.in_ok-text.ensures.checked c.in_ok-text.ensures.parts)

pub returns-in_err-check_lefts : goal.returns-in_err-check_lefts
returns-in_err-check_lefts c =
    let p = err_from_is_err_and c.from_residual-in_err-check_lefts.result c.from_residual-in_err-check_lefts.ensures.1 in
    rw (p.1, p.2) (left_fault c.args.bytes.now c.in-Some.front.now _ _ _ _ c.in-Some.ensures.cases c.in_ok-verdict.ensures.checked c.in_ok-text.ensures.checked c.in_ok-text.ensures.parts
    (found_of c.in_err-check_lefts.field-0.0) c.in_ok-check_readings.ensures c.in_err-check_lefts.ensures)

pub returns : goal.returns
returns c = (
  reads c.args.bytes.now c.in-Some.front.now _ _ _ _ c.in-Some.ensures.cases c.in_ok-verdict.ensures.checked c.in_ok-text.ensures.checked c.in_ok-text.ensures.parts
      _ _ c.in_ok-verdict.ensures.verdict c.half.ensures c.in_ok-check_readings.ensures c.in_ok-check_lefts.ensures,
  (λ k. (c.type_inv.bytes k).fits),
)
