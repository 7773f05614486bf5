-- The messages for faults.
use Rattle.std.specs.Prelude.{ℕ, List, ◌++◌, codes, Option, Some}
use Rattle.std.specs.Fmt.{◌++?◌, decimal}
use Rattle.std.specs.Io.{StartsWith}
use Rattle.pep508_environment.specs.Environment.{member_name}
use Rattle.pep508_url.specs.UrlFaults.{url_error_text}
use Rattle.pep508_url.specs.UrlTexts.{Verbatim}
use Rattle.pep508_url.specs.declared.url_error.VerbatimUrlError.{VerbatimUrlError}
use Rattle.pep508_error.specs.declared.error.Pep508Error.{Pep508Error}
use Rattle.pep508_error.specs.Errors.{error_text}
use Rattle.reqtable_candidates.specs.Errors.{cause_text}
use Rattle.reqs_io_faults.specs.declared.fault.Input.{Input}
use Rattle.reqs_io_faults.specs.declared.fault.Input.TheVariants.{First, Second, Third}
use Rattle.reqs_io_faults.specs.declared.fault.JsonShape.{JsonShape}
use Rattle.reqs_io_faults.specs.declared.fault.JsonShape.TheVariants as shapes
use Rattle.reqs_io_faults.specs.declared.fault.RefusedCause.{RefusedCause}
use Rattle.reqs_io_faults.specs.declared.fault.RefusedCause.TheVariants as refused
use Rattle.reqs_io_faults.specs.declared.fault.RunFault.{RunFault}
use Rattle.reqs_io_faults.specs.declared.fault.RunFault.TheVariants.{Read, Write, Memory, TooLong, NotText}
use Rattle.reqs_io_faults.specs.declared.fault.RunFault.TheVariants.{Extra}
use Rattle.reqs_io_faults.specs.declared.fault.RunFault.TheVariants.{Requirement, NumberAtEnd, Json, Float}
use Rattle.reqs_io_faults.specs.declared.fault.RunFault.TheVariants.{Shape}
use Rattle.reqs_io_faults.specs.declared.fault.RunFault.TheVariants.{Member, Version, Candidate, TooManyCases}
use Rattle.reqs_io_faults.specs.declared.fault.RunFault.TheVariants.{Refused, TooMany}
use Rattle.reqs_io_faults.specs.declared.bounds.Excess.{Excess}
use Rattle.reqs_io_faults.specs.declared.bounds.Excess.TheVariants.{NodesAt, Nodes, ClausesAt}
use Rattle.reqs_io_faults.specs.declared.bounds.Excess.TheVariants.{ClausesFor, Cases}

-- an input, by its place on the command line
abbrev pub input_words : Input → List ℕ
input_words First = codes "first input"
input_words Second = codes "second input"
input_words Third = codes "third input"

-- a JSON value doesn't have the shape wanted
abbrev pub shape_text : JsonShape → List ℕ
shape_text shapes.Object = codes "not an object"
shape_text shapes.List = codes "not a list"

-- why a line can't be compared or has no normal form
abbrev pub refused_text : RefusedCause → List ℕ
refused_text refused.Url = codes "URL"
refused_text refused.ExactEqual = codes "==="
refused_text refused.PostAfterBound = codes "post-release after a bound"
refused_text refused.SingleQuote = codes "single quote"
refused_text refused.DeprecatedKey = codes "deprecated key"
refused_text refused.Bound = codes "version bound"

-- a message about a file
abbrev pub input_text : List ℕ → List ℕ → List ℕ
input_text path what = path ++ codes ": " ++ what

-- a message about a line of a file
abbrev pub line_text : List ℕ → ℕ → List ℕ → List ℕ
line_text path number what = path ++ codes ": line " ++ decimal number ++ codes ": " ++ what

-- a message about a member of an environment in a file
abbrev pub member_text : List ℕ → ℕ → List ℕ → List ℕ → List ℕ
member_text path index name what =
    path ++ codes ": environment " ++ decimal index ++ codes ": member " ++ name ++ codes " is " ++ what

-- a package of a file has more cases than the limit
abbrev pub cases_text : List ℕ → ℕ → List ℕ → List ℕ
cases_text path limit name =
    path ++ codes ": more than " ++ decimal limit ++ codes " cases for " ++ name

-- what there is more of than a bound allows
abbrev pub excess_words : Excess → List ℕ
excess_words (NodesAt input number most) = codes "more than " ++ decimal most ++ codes " nodes"
excess_words (Nodes most) = codes "more than " ++ decimal most ++ codes " nodes"
excess_words (ClausesAt input number most) = codes "more than " ++ decimal most ++ codes " clauses"
excess_words (ClausesFor name most) = codes "more than " ++ decimal most ++ codes " clauses for " ++ name
excess_words (Cases input most) = codes "more than " ++ decimal most ++ codes " cases in all"

-- the same with its place
abbrev pub excess_text : (Input → List ℕ) → Excess → List ℕ
excess_text said (NodesAt input number most) =
    line_text (said input) number (excess_words (NodesAt input number most))
excess_text said (Nodes most) = excess_words (Nodes most)
excess_text said (ClausesAt input number most) =
    line_text (said input) number (excess_words (ClausesAt input number most))
excess_text said (ClausesFor name most) = excess_words (ClausesFor name most)
excess_text said (Cases input most) = input_text (said input) (excess_words (Cases input most))

-- the start of the message for an invalid line: the place in bytes of what is at fault
abbrev pub requirement_front : List ℕ → ℕ → Pep508Error Verbatim VerbatimUrlError → List ℕ
requirement_front path number error =
    path ++ codes ": line " ++ decimal number ++ codes ", byte " ++ decimal error.excerpt.start
    ++ codes ", length " ++ decimal error.excerpt.len ++ codes "\n"

-- the start and then the error's message; nothing is claimed of one of the crate `url`
abbrev pub requirement_text : List ℕ → ℕ → Pep508Error Verbatim VerbatimUrlError → Option (List ℕ)
requirement_text path number error =
    Some (requirement_front path number error) ++? error_text url_error_text error

-- the message for a fault, by the words for its input: that input's path, or its place
abbrev pub fault_text : (Input → List ℕ) → RunFault → Option (List ℕ)
fault_text said (Read input) = Some (input_text (said input) (codes "read fault"))
fault_text said Write = Some (codes "write fault")
fault_text said Memory = Some (codes "out of memory")
fault_text said (TooLong input) =
    Some (input_text (said input) (codes "longer than 16777216 bytes"))
fault_text said (NotText input offset) =
    Some (said input ++ codes ": not UTF-8 at byte " ++ decimal offset)
fault_text said (Extra word) = Some (codes "extra " ++ word ++ codes " is no name")
fault_text said (Requirement input number error) = requirement_text (said input) number error
fault_text said (NumberAtEnd input number) =
    Some (line_text (said input) number (codes "a version number can't be raised"))
fault_text said (Refused input number cause) =
    Some (line_text (said input) number (refused_text cause))
fault_text said (Json input) = Some (input_text (said input) (codes "not JSON"))
fault_text said (Float input) = Some (input_text (said input) (codes "a number is a float"))
fault_text said (Shape input wanted) = Some (input_text (said input) (shape_text wanted))
fault_text said (Member input index name) =
    Some (member_text (said input) index (member_name name) (codes "missing or no text"))
fault_text said (Version input index name) =
    Some (member_text (said input) index (member_name name) (codes "no version"))
fault_text said (Candidate input number cause) =
    Some (line_text (said input) number (cause_text cause))
fault_text said (TooManyCases input limit name) = Some (cases_text (said input) limit name)
fault_text said (TooMany excess) = Some (excess_text said excess)

-- the message for an invalid line starts with its number and place, whatever follows
abbrev pub HasItsFront : (Input → List ℕ) → RunFault → List ℕ → Type 0
HasItsFront said (Requirement input number error) text =
    StartsWith text (requirement_front (said input) number error)
HasItsFront said fault text = Unit {0}
