-- Why a text is not a URL.
use Rattle.std.specs.Prelude.{ℕ, List, ◌++◌, codes, string_bytes, Option, Some, None}
use Rattle.url.specs.declared.error.ParseError.{ParseError}
use Rattle.url.specs.declared.error.ParseError.TheVariants.{OutOfMemory, Overflow}
use Rattle.pep508_url.specs.declared.url_error.VerbatimUrlError.{VerbatimUrlError}
use Rattle.pep508_url.specs.declared.url_error.VerbatimUrlError.TheVariants as errors

-- the crate `url` does not read the text; a path is relative and there is no directory; a URL names no
-- path; a path goes beyond the root
pub data UrlFault : Type 0 where
  NotRead : ParseError → UrlFault
  WorkingDirectory : List ℕ → UrlFault
  UrlConversion : List ℕ → UrlFault
  Normalization : List ℕ → UrlFault

-- the fault that an error reports
abbrev pub told_url : VerbatimUrlError → Option UrlFault
told_url errors.Memory = None
told_url (errors.Url error) = Some (NotRead error)
told_url (errors.WorkingDirectory path) = Some (WorkingDirectory (string_bytes path))
told_url (errors.UrlConversion path) = Some (UrlConversion (string_bytes path))
told_url (errors.Normalization path) = Some (Normalization (string_bytes path))

-- the print of an error; for a text that the crate `url` refuses it is that crate's
abbrev pub url_error_text : VerbatimUrlError → Option (List ℕ)
url_error_text errors.Memory = Some (codes "out of memory")
url_error_text (errors.Url error) = None
url_error_text (errors.WorkingDirectory path) =
    Some (codes "relative path without a working directory: " ++ string_bytes path)
url_error_text (errors.UrlConversion path) =
    Some (codes "path could not be converted to a URL: " ++ string_bytes path)
url_error_text (errors.Normalization path) =
    Some (codes "path could not be normalized: " ++ string_bytes path)

-- the error for that of the crate `url`, where lack of room is lack of memory
abbrev pub error_of : ParseError → VerbatimUrlError
error_of OutOfMemory = errors.Memory
error_of Overflow = errors.Memory
error_of error = errors.Url error
