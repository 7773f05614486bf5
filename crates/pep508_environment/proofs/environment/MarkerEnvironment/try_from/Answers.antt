use Rattle.std.proofs.lemmas.Result.{err_from_is_err_and}
use Rattle.pep508_environment.proofs.environment.MarkerEnvironment.try_from.Goals as goal

pub returns-in_err-from_str-7-clause-answered : goal.returns-in_err-from_str-7-clause-answered
returns-in_err-from_str-7-clause-answered c =
    let p = err_from_is_err_and c.from_residual-in_err-from_str-7.result c.from_residual-in_err-from_str-7.ensures.1 in
    rw (p.1, p.2) tt

pub returns-in_err-from_str-8-clause-answered : goal.returns-in_err-from_str-8-clause-answered
returns-in_err-from_str-8-clause-answered c =
    let p = err_from_is_err_and c.from_residual-in_err-from_str-8.result c.from_residual-in_err-from_str-8.ensures.1 in
    rw (p.1, p.2) tt
