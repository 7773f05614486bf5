-- The faults that errors report.
use Rattle.std.specs.Prelude.{ℕ, ◌==◌, if◌then◌else◌, List, ◌∷◌, ◌++◌, length, take, drop, codes, option_map}
use Rattle.std.specs.Prelude.{Option, Some, None}
use Rattle.std.specs.String.{string_bytes}
use Rattle.underline.specs.Underline.{columns, underlined}
use Rattle.pep508_error.specs.declared.excerpt.Excerpt.{Excerpt}
use Rattle.pep508_error.specs.declared.refusal.Refusal.{Refusal}
use Rattle.pep508_error.specs.declared.refusal.RefusalKind.{RefusalKind}
use Rattle.pep508_error.specs.declared.refusal.RefusalKind.TheVariants as kinds
use Rattle.pep508_error.specs.declared.error.Pep508Error.{Pep508Error}
use Rattle.pep508_error.specs.declared.error.Pep508ErrorSource.{Pep508ErrorSource}
use Rattle.pep508_error.specs.declared.error.Pep508ErrorSource.TheVariants as sources

-- what is wrong with a text, the text, and the part of it that is at fault, in bytes
pub record Fault (T E : Type 0) : Type 0 where
  pub source : Pep508ErrorSource T E
  pub input : List ℕ
  pub start : ℕ
  pub len : ℕ

abbrev pub fault_at : {T E : Type 0} → Pep508ErrorSource T E → List ℕ → ℕ → ℕ → Option (Fault T E)
fault_at source input start len =
    Some (record { source = source; input = input; start = start; len = len })

-- the fault that an error reports; none for lack of memory
abbrev pub told_by : {T E : Type 0} → Pep508ErrorSource T E → Excerpt → Option (Fault T E)
told_by sources.Memory excerpt = None
told_by source excerpt = fault_at source (string_bytes excerpt.input) excerpt.start excerpt.len

abbrev pub told_error : {T E : Type 0} → Pep508Error T E → Option (Fault T E)
told_error error = told_by error.message error.excerpt

-- the fault that a reader reports
abbrev pub said_by : {T E : Type 0} → RefusalKind → List ℕ → ℕ → ℕ → Option (Fault T E)
said_by kinds.Memory input start len = None
said_by (kinds.String text) input start len = fault_at (sources.String text) input start len
said_by (kinds.UnsupportedRequirement text) input start len =
    fault_at (sources.UnsupportedRequirement text) input start len
said_by kinds.NumberAtEnd input start len = fault_at sources.NumberAtEnd input start len

abbrev pub told_refusal : {T E : Type 0} → Refusal → Option (Fault T E)
told_refusal refusal = said_by refusal.kind refusal.input.now refusal.start refusal.len

-- ---- prints

-- the print of a fault; the print of a URL's fault is given
abbrev pub source_text : {T E : Type 0} → (E → Option (List ℕ)) → Pep508ErrorSource T E → Option (List ℕ)
source_text output (sources.String text) = Some (string_bytes text)
source_text output (sources.UrlError error) = output error
source_text output (sources.UnsupportedRequirement text) = Some (string_bytes text)
source_text output sources.NumberAtEnd = Some (codes "A version number of the marker can't be raised")
source_text output sources.Memory = Some (codes "out of memory")

-- the number of marks under a part of a text: one under each of its columns, and one after the text's end
abbrev pub marks_under : List ℕ → ℕ → ℕ → ℕ
marks_under input start len = if start == length input then 1 else columns (take len (drop start input))

-- the text with its part underlined
abbrev pub picture : Excerpt → List ℕ
picture excerpt =
    underlined (string_bytes excerpt.input) (columns (take excerpt.start (string_bytes excerpt.input)))
    (marks_under (string_bytes excerpt.input) excerpt.start excerpt.len)

-- the print of an error: what is wrong, and on the next lines the text with the part at fault underlined
abbrev pub error_text : {T E : Type 0} → (E → Option (List ℕ)) → Pep508Error T E → Option (List ℕ)
error_text output error =
    option_map (λ message. message ++ (10 ∷ picture error.excerpt)) (source_text output error.message)
