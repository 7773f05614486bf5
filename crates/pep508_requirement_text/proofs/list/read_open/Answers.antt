use Rattle.std.proofs.Common.{eqb}
use Rattle.std.proofs.lemmas.Result.{err_from_is_err_and}
use Rattle.pep508_error.specs.Cuts.{encoded_cut}
use Rattle.pep508_requirement_text.specs.FrontReading.Source.{Specifiers}
use Rattle.pep508_error.specs.Cursors.{behind}
use Rattle.pep508_requirement_text.proofs.ListPlaces.{list_stops, list_is}
use Rattle.std.proofs.Common.{ℕ, List, ap, subst}
use Rattle.pep508_requirement_text.specs.FrontSpans.{ShowsPiece}
use Rattle.pep508_requirement_text.proofs.list.read_open.Goals as goal

pub returns-in_err-list-clause-read : goal.returns-in_err-list-clause-read
returns-in_err-list-clause-read c =
    λ vars.
    let returned = err_from_is_err_and c.from_residual.result c.from_residual.ensures.1 in
    rw (returned.1, returned.2)
    (list_stops vars c.in_err-list.field-0.0.kind c.cut.result.0.now (behind c.cut.result.1)
    (encoded_cut (λ d. eqb d 59) (behind c.args.start)) c.cut.ensures.parts (c.in_err-list.ensures.read vars))

pub returns-clause-read : goal.returns-clause-read
returns-clause-read c =
    λ vars.
    let read = c.in_ok-list.ensures.read in (
      Specifiers read.0,
      list_is c.cut.result.0.now (behind c.cut.result.1)
          (encoded_cut (λ d. eqb d 59) (behind c.args.start)) read.0 c.cut.ensures.parts read.1,
      read.2,
    )

pub returns-in_err-list-clause-shown : goal.returns-in_err-list-clause-shown
returns-in_err-list-clause-shown c =
    let returned = err_from_is_err_and c.from_residual.result c.from_residual.ensures.1 in
    rw (returned.1, returned.2)
    (λ told.
    subst
    (λ (text : List ℕ). ShowsPiece c.args.start.input.now c.args.start.position text c.in_err-list.field-0.0)
    (ap (λ (p : List ℕ × List ℕ). p.0) c.cut.ensures.parts) (c.in_err-list.ensures.shown told))
