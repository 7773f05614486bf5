use Rattle.reqs_c_markers.proofs.Refusals.{no_marker}
use Rattle.reqs_c_markers.proofs.Within.{formula_read}
use Rattle.reqs_c_markers.proofs.marker_answers.read_formula.Goals as goal

pub returns-in-Ok-clause-formula : goal.returns-in-Ok-clause-formula
returns-in-Ok-clause-formula c =
    let text = c.in_ok-text.ensures in
    let read = c.in-Ok.ensures.read in
    formula_read c.args.bytes.now _ _ read.0 text.is_text text.text read.1 read.2

pub returns-in-Err-clause-none : goal.returns-in-Err-clause-none
returns-in-Err-clause-none c =
    let text = c.in_ok-text.ensures in
    no_marker c.args.input c.args.bytes.now _ c.in-Err.error text.is_text text.text _ c.refused.ensures
    c.in-Err.ensures.read
