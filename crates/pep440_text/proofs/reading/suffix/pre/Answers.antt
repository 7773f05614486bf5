use Rattle.std.proofs.Common.{◌≡◌, rules}
use Rattle.std.proofs.lemmas.Result.{err_from_is_err_and}
use Rattle.pep440_text.proofs.Words.{pre_said, pre_fails, pre_found}
use Rattle.pep440_text.proofs.reading.suffix.pre.Goals as goal

pub returns-in_err-found : goal.returns-in_err-found
returns-in_err-found c =
    let fails = pre_fails c.args.bytes.now c.in_err-found.field-0.0 c.in_err-found.ensures in
    let returned = err_from_is_err_and c.from_residual.result c.from_residual.ensures.1 in
    rw (returned.1, returned.2) fails

pub returns : goal.returns
returns c =
    let mapped : c.map.result ≡ pre_said c.in_ok-found.found = search rules in
    pre_found c.args.bytes.now c.in_ok-found.rest.now c.in_ok-found.found c.map.result c.in_ok-found.ensures mapped
