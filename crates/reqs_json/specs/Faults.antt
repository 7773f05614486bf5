-- A fault as a JSON object: its kind, its message and its place.
use Rattle.std.specs.Prelude.{◌≡◌, ℕ, List, [], ◌++◌, codes, Option, Some, None, IfSome, option_map}
use Rattle.std.specs.Fmt.{decimal}
use Rattle.serde_json.specs.Data.{Data, string, object, no_members, member}
use Rattle.pep508_environment.specs.Environment.{member_name}
use Rattle.pep508_url.specs.UrlFaults.{url_error_text}
use Rattle.pep508_url.specs.UrlTexts.{Verbatim}
use Rattle.pep508_url.specs.declared.url_error.VerbatimUrlError.{VerbatimUrlError}
use Rattle.pep508_error.specs.declared.error.Pep508Error.{Pep508Error}
use Rattle.pep508_error.specs.Errors.{error_text}
use Rattle.reqtable_candidates.specs.Errors.{cause_text}
use Rattle.reqs_io_faults.specs.declared.fault.Input.{Input}
use Rattle.reqs_io_faults.specs.declared.fault.RunFault.{RunFault}
use Rattle.reqs_io_faults.specs.declared.fault.RunFault.TheVariants.{Read, Write, Memory, TooLong, NotText}
use Rattle.reqs_io_faults.specs.declared.fault.RunFault.TheVariants.{Extra}
use Rattle.reqs_io_faults.specs.declared.fault.RunFault.TheVariants.{Requirement, NumberAtEnd, Json, Float}
use Rattle.reqs_io_faults.specs.declared.fault.RunFault.TheVariants.{Shape}
use Rattle.reqs_io_faults.specs.declared.fault.RunFault.TheVariants.{Member, Version, Candidate, TooManyCases}
use Rattle.reqs_io_faults.specs.declared.fault.RunFault.TheVariants.{Refused, TooMany}
use Rattle.reqs_io_faults.specs.declared.bounds.Excess.{Excess}
use Rattle.reqs_io_faults.specs.declared.bounds.Excess.TheVariants.{NodesAt, Nodes, ClausesAt}
use Rattle.reqs_io_faults.specs.declared.bounds.Excess.TheVariants.{ClausesFor, Cases}
use Rattle.reqs_io_faults.specs.FaultText.{shape_text, refused_text, excess_words, requirement_front}
use Rattle.reqs_json.specs.declared.faults.Place.{Place}
use Rattle.reqs_json.specs.Lines.{number_of, value_or_null, line_of}

-- ---- the parts of a fault

-- the kind of what there is too much of, in one word
abbrev pub excess_kind : Excess → List ℕ
excess_kind (NodesAt input number most) = codes "too-many-nodes"
excess_kind (Nodes most) = codes "too-many-nodes"
excess_kind (ClausesAt input number most) = codes "too-many-clauses"
excess_kind (ClausesFor name most) = codes "too-many-clauses"
excess_kind (Cases input most) = codes "too-many-cases"

-- the kind of a fault, in one word
abbrev pub kind_of : RunFault → List ℕ
kind_of (Read input) = codes "read"
kind_of Write = codes "write"
kind_of Memory = codes "memory"
kind_of (TooLong input) = codes "too-long"
kind_of (NotText input offset) = codes "not-text"
kind_of (Extra word) = codes "extra"
kind_of (Requirement input number error) = codes "requirement"
kind_of (NumberAtEnd input number) = codes "number-at-end"
kind_of (Refused input number cause) = codes "refused"
kind_of (Json input) = codes "json"
kind_of (Float input) = codes "float"
kind_of (Shape input wanted) = codes "shape"
kind_of (Member input index name) = codes "member"
kind_of (Version input index name) = codes "version"
kind_of (Candidate input number cause) = codes "candidate"
kind_of (TooManyCases input limit name) = codes "too-many-cases"
kind_of (TooMany excess) = excess_kind excess

-- the input in which there is too much, if it is in one
abbrev pub excess_input : Excess → Option Input
excess_input (NodesAt input number most) = Some input
excess_input (Nodes most) = None
excess_input (ClausesAt input number most) = Some input
excess_input (ClausesFor name most) = None
excess_input (Cases input most) = Some input

-- the input that a fault is in, if it is in one
abbrev pub input_in : RunFault → Option Input
input_in (Read input) = Some input
input_in Write = None
input_in Memory = None
input_in (TooLong input) = Some input
input_in (NotText input offset) = Some input
input_in (Extra word) = None
input_in (Requirement input number error) = Some input
input_in (NumberAtEnd input number) = Some input
input_in (Refused input number cause) = Some input
input_in (Json input) = Some input
input_in (Float input) = Some input
input_in (Shape input wanted) = Some input
input_in (Member input index name) = Some input
input_in (Version input index name) = Some input
input_in (Candidate input number cause) = Some input
input_in (TooManyCases input limit name) = Some input
input_in (TooMany excess) = excess_input excess

-- the line at which there is too much, if there is one
abbrev pub excess_line : Excess → Option ℕ
excess_line (NodesAt input number most) = Some number
excess_line (ClausesAt input number most) = Some number
excess_line excess = None

-- the line that is at fault, if there is one
abbrev pub line_in : RunFault → Option ℕ
line_in (Requirement input number error) = Some number
line_in (NumberAtEnd input number) = Some number
line_in (Refused input number cause) = Some number
line_in (Candidate input number cause) = Some number
line_in (TooMany excess) = excess_line excess
line_in fault = None

-- the first byte at fault, in the line without its comment, or in the input if there is no line
abbrev pub start_in : RunFault → Option ℕ
start_in (NotText input offset) = Some offset
start_in (Requirement input number error) = Some error.excerpt.start
start_in fault = None

-- the number of bytes at fault
abbrev pub length_in : RunFault → Option ℕ
length_in (Requirement input number error) = Some error.excerpt.len
length_in fault = None

-- the message about a member of an environment
abbrev pub member_message : ℕ → List ℕ → List ℕ → List ℕ
member_message index name what =
    codes "environment " ++ decimal index ++ codes ": member " ++ name ++ codes " is " ++ what

-- the message for a fault, which follows its place; nothing is claimed of one of the crate `url`
abbrev pub message_of : RunFault → Option (List ℕ)
message_of (Read input) = Some (codes "read fault")
message_of Write = Some (codes "write fault")
message_of Memory = Some (codes "out of memory")
message_of (TooLong input) = Some (codes "longer than 16777216 bytes")
message_of (NotText input offset) = Some (codes "not UTF-8 at byte " ++ decimal offset)
message_of (Extra word) = Some (codes "extra " ++ word ++ codes " is no name")
message_of (Requirement input number error) = error_text url_error_text error
message_of (NumberAtEnd input number) = Some (codes "a version number can't be raised")
message_of (Refused input number cause) = Some (refused_text cause)
message_of (Json input) = Some (codes "not JSON")
message_of (Float input) = Some (codes "a number is a float")
message_of (Shape input wanted) = Some (shape_text wanted)
message_of (Member input index name) =
    Some (member_message index (member_name name) (codes "missing or no text"))
message_of (Version input index name) = Some (member_message index (member_name name) (codes "no version"))
message_of (Candidate input number cause) = Some (cause_text cause)
message_of (TooManyCases input limit name) =
    Some (codes "more than " ++ decimal limit ++ codes " cases for " ++ name)
message_of (TooMany excess) = Some (excess_words excess)

-- what precedes a message in a text
abbrev pub line_place : List ℕ → ℕ → List ℕ
line_place path number = path ++ codes ": line " ++ decimal number ++ codes ": "

abbrev pub excess_place : (Input → List ℕ) → Excess → List ℕ
excess_place said (NodesAt input number most) = line_place (said input) number
excess_place said (Nodes most) = []
excess_place said (ClausesAt input number most) = line_place (said input) number
excess_place said (ClausesFor name most) = []
excess_place said (Cases input most) = said input ++ codes ": "

abbrev pub place_text : (Input → List ℕ) → RunFault → List ℕ
place_text said (Read input) = said input ++ codes ": "
place_text said Write = []
place_text said Memory = []
place_text said (TooLong input) = said input ++ codes ": "
place_text said (NotText input offset) = said input ++ codes ": "
place_text said (Extra word) = []
place_text said (Requirement input number error) = requirement_front (said input) number error
place_text said (NumberAtEnd input number) = line_place (said input) number
place_text said (Refused input number cause) = line_place (said input) number
place_text said (Json input) = said input ++ codes ": "
place_text said (Float input) = said input ++ codes ": "
place_text said (Shape input wanted) = said input ++ codes ": "
place_text said (Member input index name) = said input ++ codes ": "
place_text said (Version input index name) = said input ++ codes ": "
place_text said (Candidate input number cause) = line_place (said input) number
place_text said (TooManyCases input limit name) = said input ++ codes ": "
place_text said (TooMany excess) = excess_place said excess

-- ---- the object

-- the place of a fault in its input
abbrev pub place_in : RunFault → Place
place_in fault = record { line = line_in fault; start = start_in fault; len = length_in fault }

-- no place
abbrev pub nowhere : Place
nowhere = record { line = None; start = None; len = None }

-- the kind, the message and the place of a fault; null is what it doesn't have
abbrev pub error_members : List ℕ → List ℕ → Option (List ℕ) → Place → Data
error_members kind message path place = object (
    member (codes "kind") (string kind) (
    member (codes "length") (value_or_null number_of place.len) (
    member (codes "line") (value_or_null number_of place.line) (
    member (codes "message") (string message) (
    member (codes "path") (value_or_null string path) (
    member (codes "start") (value_or_null number_of place.start) no_members))))))

abbrev pub error_value : List ℕ → List ℕ → Option (List ℕ) → Place → Data
error_value kind message path place =
    object (member (codes "error") (error_members kind message path place) no_members)

-- the object of a fault, by the paths of the inputs and by its message
abbrev pub fault_value : (Input → List ℕ) → RunFault → List ℕ → Data
fault_value said fault message =
    error_value (kind_of fault) message (option_map said (input_in fault)) (place_in fault)

-- the text is the object of a fault, as a line
abbrev pub IsFaultLine : (Input → List ℕ) → RunFault → List ℕ → Type 0
IsFaultLine said fault text =
    (message : List ℕ) × IfSome (message_of fault) (λ wanted. message ≡ wanted)
    × (text ≡ line_of (fault_value said fault message))

-- the object for a command line whose words are valid and which is invalid otherwise, with this message
abbrev pub usage_value : List ℕ → Data
usage_value message = error_value (codes "command-line") message None nowhere

-- the text is the object, as a line, of an assumption that is no marker; nothing is claimed of a message of
-- the crate `url`
abbrev pub IsAssumptionLine : Pep508Error Verbatim VerbatimUrlError → List ℕ → Type 0
IsAssumptionLine error text =
    (message : List ℕ) × IfSome (error_text url_error_text error) (λ wanted. message ≡ wanted)
    × (text ≡ line_of (error_value (codes "assumption") message None
    (record { line = Some 1; start = Some error.excerpt.start; len = Some error.excerpt.len })))
