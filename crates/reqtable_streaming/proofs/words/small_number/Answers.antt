use Rattle.pep440_version.proofs.PlainTexts.{marked_read}
use Rattle.reqtable_streaming.proofs.words.small_number.Goals as goal

pub returns-else-found-ge256-clause-read : goal.returns-else-found-ge256-clause-read
returns-else-found-ge256-clause-read c =
    let found = c.in_ok-found-in-Some-eq46-default in
    let dot = c.in-Some-eq46-default in
    marked_read c.args.bytes.now dot.rest.now dot.field-0-0.now dot.ensures.cases.0 dot.field-0-0-test found.found
    found.behind.now found.ensures.read
