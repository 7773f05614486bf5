use Rattle.std.specs.Str.{chars}
use Rattle.pep508_evaluation.specs.Valuations.{valuation_of}
use Rattle.pep508_formula.specs.Postfix.{formula_of}
use Rattle.pep508_marker_parser.specs.MarkerReading.{marker_at}
use Rattle.reqs_c_markers.proofs.Marks.{held, question}
use Rattle.reqs_c_markers.proofs.marker_answers.mark_of_text.Goals as goal

pub returns-in_ok-holds_in-in-Ok : goal.returns-in_ok-holds_in-in-Ok
returns-in_ok-holds_in-in-Ok c =
    let read = c.in-Ok.ensures.read in
    held (formula_of c.in-Ok.formula) read.0 (valuation_of c.args.environment.now c.args.extras.now)
    (marker_at (chars c.args.text.now)) c.in_ok-holds_in-in-Ok.field-0 c.mark_of.result read.1 read.2 c.in_ok-holds_in-in-Ok.ensures
    c.mark_of.ensures

pub returns-in-Err : goal.returns-in-Err
returns-in-Err c =
    question (valuation_of c.args.environment.now c.args.extras.now) c.args.text.now c.in-Err.error
    (marker_at (chars c.args.text.now)) c.mark_of_error.result c.mark_of_error.ensures.question
    c.mark_of_error.ensures.told c.in-Err.ensures.read
