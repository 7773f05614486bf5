use Rattle.std.proofs.lemmas.Result.{err_from_is_err_and}
use Rattle.pep508_requirement_text.specs.FrontReading.Source.{Specifiers}
use Rattle.pep508_error.specs.Cursors.{behind}
use Rattle.pep508_requirement_text.proofs.ListPlaces.{enclosed_stops, enclosed_is}
use Rattle.std.proofs.Common.{ℕ, List, ap, subst, ◌∙◌}
use Rattle.pep508_requirement_text.specs.FrontSpans.{ShowsTrimmed}
use Rattle.pep508_requirement_text.proofs.ShownFront.{inside_of}
use Rattle.pep508_requirement_text.proofs.list.read_enclosed.Goals as goal

pub returns-in_err-list-in-Some-clause-read : goal.returns-in_err-list-in-Some-clause-read
returns-in_err-list-in-Some-clause-read c =
    λ vars.
    let returned = err_from_is_err_and c.from_residual.result c.from_residual.ensures.1 in
    rw (returned.1, returned.2)
    (enclosed_stops vars c.in_err-list-in-Some.field-0.0.kind (behind c.args.inner) c.in-Some.text.now
    (behind c.in-Some.later) c.in-Some.ensures.parts (c.in_err-list-in-Some.ensures.read vars))

pub returns-in_ok-list-in-Some-clause-read : goal.returns-in_ok-list-in-Some-clause-read
returns-in_ok-list-in-Some-clause-read c =
    λ vars.
    let read = c.in_ok-list-in-Some.ensures.read in (
      Specifiers read.0,
      enclosed_is (behind c.args.inner) c.in-Some.text.now (behind c.in-Some.later) read.0
          c.in-Some.ensures.parts read.1,
      read.2,
    )

pub returns-in_err-list-in-Some-clause-shown : goal.returns-in_err-list-in-Some-clause-shown
returns-in_err-list-in-Some-clause-shown c =
    λ inside later cut.
    let returned = err_from_is_err_and c.from_residual.result c.from_residual.ensures.1 in
    rw (returned.1, returned.2)
    (λ told.
    subst
    (λ (text : List ℕ).
    ShowsTrimmed c.args.inner.input.now c.args.inner.position text c.in_err-list-in-Some.field-0.0)
    (ap inside_of (c.in-Some.ensures.parts ∙ cut)) (c.in_err-list-in-Some.ensures.shown told))

pub returns-in-None-clause-shown : goal.returns-in-None-clause-shown
returns-in-None-clause-shown c = λ inside later cut. absurd (cc (c.in-None.ensures.parts ∙ cut))
