use Rattle.std.proofs.Common.{◌≡◌, Err, ap}
use Rattle.std.proofs.lemmas.Result.{err_from_is_err_and}
use Rattle.pep440_text.specs.declared.ReadError.{ReadError}
use Rattle.pep440_text.specs.declared.ReadError.TheVariants as errors
use Rattle.pep440_text.proofs.FirstNumber.{version_has, found_has}
use Rattle.pep440_text.proofs.reading.read_version.Goals as goal

pub returns-in_err-head-clause-grown : goal.returns-in_err-head-clause-grown
returns-in_err-head-clause-grown c e =
    let returned = err_from_is_err_and c.from_residual.result c.from_residual.ensures.1 in
    let same : c.in_err-head.field-0.0 ≡ errors.Memory = cc in
    version_has c.args.text.now (c.in_err-head.ensures.grown (ap (λ (error : ReadError). Err error) same))

pub returns-clause-grown : goal.returns-clause-grown
returns-clause-grown c e = version_has c.args.text.now (found_has _ _ c.in_ok-head.ensures.head)
