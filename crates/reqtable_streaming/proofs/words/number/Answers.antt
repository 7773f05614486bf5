use Rattle.std.proofs.Common.{◌∙◌, Ok, Some, arith, ap, sym}
use Rattle.std.proofs.Math.ListN.{drop_of_length-le}
use Rattle.pep440_version.proofs.PlainTexts.{digits_step, rest_step, value_step, Stops, stops_at, stops_past, number_read}
use Rattle.reqtable_streaming.proofs.PlainWords.{plain_step}
use Rattle.reqtable_streaming.proofs.words.number.Goals as goal
use Rattle.reqtable_streaming.proofs.words.number.Goals.{then-loop-count-test+else-is_ascii_digit}
use Rattle.reqtable_streaming.proofs.words.number.Goals.{else-loop-count-test}

pub loop-count-preserved : goal.loop-count-preserved
loop-count-preserved c =
    let bytes = c.args.bytes.now in
    let i = c.loop-count.count in
    let so_far = c.loop-count.invariant in
    let digit = sym c.is_ascii_digit.ensures.value ∙ c.if-is_ascii_digit.true in
    let value = value_step bytes i c.loop-count-test.true digit in
    record {
      within = omega (arith, c.loop-count-test.true);
      digits = digits_step bytes i c.loop-count-test.true digit so_far.digits;
      rest = rest_step bytes i c.loop-count-test.true digit so_far.rest;
      so_far = omega (arith, value, so_far.so_far, c.saturating_sub.ensures);
      fits = omega (arith, c.if-total-gt9999.false, c.saturating_sub.type_inv);
      plain = λ rest. so_far.plain (plain_step bytes i c.loop-count-test.true digit rest);
    }

pub returns-clause-read : goal.returns-clause-read
returns-clause-read c =
    let bytes = c.args.bytes.now in
    let i = c.loop-count.count in
    let so_far = c.loop-count.invariant in
    let stops : Stops bytes i =
    elim c.loop-count-test.branch [
      | then-loop-count-test+else-is_ascii_digit w ↦
          stops_at bytes i w.loop-count-test.true (sym w.is_ascii_digit.ensures.value ∙ w.if-is_ascii_digit.false)
      | else-loop-count-test w ↦
          stops_past bytes i (drop_of_length-le bytes (omega (arith, w.loop-count-test.false)))
    ] in
    number_read bytes i c.loop-count.total (omega (arith, c.if-count-eq0.false)) so_far.within stops so_far.digits
    so_far.rest so_far.so_far (omega (arith, so_far.fits))
    ∙ ap (λ left. Ok (Some c.loop-count.total, left)) (sym c.split_at.ensures.back)
