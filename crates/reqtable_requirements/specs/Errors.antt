-- The messages of errors.
use Rattle.std.specs.Prelude.{ℕ, List, ◌++◌, codes, Option, Some}
use Rattle.std.specs.Fmt.{◌++?◌, decimal}
use Rattle.pep508_url.specs.UrlFaults.{url_error_text}
use Rattle.pep508_url.specs.UrlTexts.{Verbatim}
use Rattle.pep508_url.specs.declared.url_error.VerbatimUrlError.{VerbatimUrlError}
use Rattle.pep508_error.specs.declared.error.Pep508Error.{Pep508Error}
use Rattle.pep508_error.specs.Errors.{error_text}
use Rattle.reqtable_candidates.specs.Errors.{no_text}
use Rattle.reqtable_requirements.specs.declared.requirements.RequirementsError.{RequirementsError}
use Rattle.reqtable_requirements.specs.declared.requirements.RequirementsError.TheVariants.{NotText, Line}
use Rattle.reqtable_requirements.specs.declared.requirements.RequirementsError.TheVariants.{NumberAtEnd}
use Rattle.reqtable_requirements.specs.declared.requirements.RequirementsError.TheVariants.{TooManyNodes}
use Rattle.reqtable_requirements.specs.declared.requirements.RequirementsError.TheVariants.{Memory}

-- the start of the message for an invalid line: its number, and the place in bytes of what is at fault
abbrev pub requirement_front : ℕ → Pep508Error Verbatim VerbatimUrlError → List ℕ
requirement_front number error =
    codes "line " ++ decimal number ++ codes ", byte " ++ decimal error.excerpt.start
    ++ codes ", length " ++ decimal error.excerpt.len ++ codes "\n"

-- why bytes are not a requirements text; nothing is claimed of the messages of the crate `url`
abbrev pub requirements_text : RequirementsError → Option (List ℕ)
requirements_text (NotText offset) = Some (no_text offset)
requirements_text (Line number error) =
    Some (requirement_front number error) ++? error_text url_error_text error
requirements_text (NumberAtEnd number) =
    Some (codes "line " ++ decimal number ++ codes ": a version number can't be raised")
requirements_text (TooManyNodes number most) =
    Some (codes "line " ++ decimal number ++ codes ": more than " ++ decimal most ++ codes " nodes")
requirements_text Memory = Some (codes "out of memory")
