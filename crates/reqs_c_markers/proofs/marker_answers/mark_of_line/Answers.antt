use Rattle.std.proofs.Common.{sym}
use Rattle.pep508_evaluation.specs.Valuations.{valuation_of}
use Rattle.reqs_c_markers.proofs.Marks.{no_text, in_text}
use Rattle.reqs_c_markers.proofs.marker_answers.mark_of_line.Goals as goal

pub returns-in-Ok : goal.returns-in-Ok
returns-in-Ok c =
    rw (in_text (valuation_of c.args.environment.now c.args.extras.now) _ _ c.in-Ok.ensures.cases.1 c.in-Ok.ensures.cases.0)
    c.mark_of_text.ensures

pub returns-in-Err : goal.returns-in-Err
returns-in-Err c =
    sym (no_text (valuation_of c.args.environment.now c.args.extras.now) _ c.in-Err.ensures.cases.0)
