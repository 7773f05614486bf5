-- The messages for a line that has no normal text.
use Rattle.std.specs.Prelude.{ℕ, List, ◌++◌, codes}
use Rattle.std.specs.Fmt.{decimal}
use Rattle.reqtable_normal.specs.declared.error.NormalCause.{NormalCause}
use Rattle.reqtable_normal.specs.declared.error.NormalCause.TheVariants.{Url, SingleQuote}
use Rattle.reqtable_normal.specs.declared.error.NormalCause.TheVariants.{DeprecatedKey, Bound}
use Rattle.reqtable_normal.specs.declared.error.NormalError.{NormalError}
use Rattle.reqtable_normal.specs.declared.error.NormalError.TheVariants.{Line, TooManyClauses, Memory}

abbrev pub cause_text : NormalCause → List ℕ
cause_text Url = codes "URL"
cause_text SingleQuote = codes "single quote"
cause_text DeprecatedKey = codes "deprecated key"
cause_text Bound = codes "version bound"

abbrev pub normal_error_text : NormalError → List ℕ
normal_error_text (Line number cause) = codes "line " ++ decimal number ++ codes ": " ++ cause_text cause
normal_error_text (TooManyClauses number) = codes "line " ++ decimal number ++ codes ": too many clauses"
normal_error_text Memory = codes "out of memory"
