-- The messages for a text that is not a requirement or not a marker.
use Rattle.std.specs.Prelude.{◌≡◌, ℕ, List, Option, Some, IfSome}
use Rattle.pep508_url.specs.UrlFaults.{url_error_text}
use Rattle.pep508_url.specs.UrlTexts.{Verbatim}
use Rattle.pep508_url.specs.declared.url_error.VerbatimUrlError.{VerbatimUrlError}
use Rattle.pep508_error.specs.declared.error.Pep508Error.{Pep508Error}
use Rattle.pep508_error.specs.Errors.{Fault, told_error, source_text}
use Rattle.pep508_error.specs.Spans.{IsSpan}
use Rattle.reqs_c_reply.specs.declared.place.Place.{Place}
use Rattle.reqs_c_reply.specs.Endings.{span}

-- why a text is invalid
abbrev pub TextError : Type 0
TextError = Pep508Error Verbatim VerbatimUrlError

-- the error reports a fault, whose text is the message and whose part of the argument of this number is the
-- place; nothing is claimed of a message of the crate `url`
pub record IsToldBy (input : ℕ) (error : TextError) (place : Place) (message : List ℕ) : Type 0 where
  pub fault : Fault Verbatim VerbatimUrlError
  pub tells : told_error error ≡ Some fault
  pub stands : place ≡ span input fault.start fault.len
  pub within : IsSpan fault.input fault.start fault.len
  pub says : IfSome (source_text url_error_text fault.source) (λ wanted. message ≡ wanted)
