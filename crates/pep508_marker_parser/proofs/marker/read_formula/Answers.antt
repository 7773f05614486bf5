use Rattle.std.proofs.lemmas.Result.{err_from_is_err_and}
use Rattle.pep508_error.specs.Cursors.{behind}
use Rattle.pep508_marker_parser.proofs.MarkerTrees.{marker_refused}
use Rattle.pep508_marker_parser.proofs.marker.read_formula.Goals as goal

pub returns-in_err-formula-clause-read : goal.returns-in_err-formula-clause-read
returns-in_err-formula-clause-read g c =
    let returned = err_from_is_err_and c.from_residual.result c.from_residual.ensures.1 in
    rw (returned.1, returned.2)
    (marker_refused c.in_err-formula.field-0.0.kind (behind c.args.start) c.in_err-formula.ensures.read)
