use Rattle.std.proofs.Common.{◌≡◌, ◌-◌, ◌+◌, sym, ◌∙◌, ap, length, Some, None, Ok}
use Rattle.pep440_text.specs.Reading.{with_front, numbers_at, marked_number_at}
use Rattle.pep440_text.proofs.Steps.{numbers_none, numbers_some, numbers_err}
use Rattle.pep440_text.proofs.reading.number.numbers.Goals as goal

pub returns-in-Err : goal.returns-in-Err
returns-in-Err c = numbers_err (length c.args.bytes.now) c.loop.counter c.loop.numbers.items c.loop.rest.now c.in-Err.fault _ c.loop-test.true c.in-Err.ensures c.loop.invariant

pub returns-in-Ok-None-default : goal.returns-in-Ok-None-default
returns-in-Ok-None-default c =
    let read : marked_number_at 46 c.loop.rest.now ≡ Ok (None, c.in-Ok-None-default.later.now) = rw c.in-Ok-None-default.field-0-0-is at c.in-Ok-None-default.ensures in
    sym c.loop.invariant ∙ numbers_none (length c.args.bytes.now) c.loop.counter c.loop.numbers.items c.loop.rest.now c.in-Ok-None-default.later.now c.loop-test.true read

pub loop-preserved : goal.loop-preserved
loop-preserved c =
    let read : marked_number_at 46 c.loop.rest.now ≡ Ok (Some c.in-Ok-Some-default.number, c.in-Ok-Some-default.later.now) = rw c.in-Ok-Some-default.field-0-0-is at c.in-Ok-Some-default.ensures in
    ap (λ xs. with_front xs (numbers_at (length c.args.bytes.now - (c.loop.counter + 1)) c.in-Ok-Some-default.later.now)) c.in_ok-push-in-Ok-Some-default.ensures.items
    ∙ sym (numbers_some (length c.args.bytes.now) c.loop.counter c.in-Ok-Some-default.number c.loop.numbers.items c.loop.rest.now c.in-Ok-Some-default.later.now c.loop-test.true read)
    ∙ c.loop.invariant
