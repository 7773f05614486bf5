-- What is said of a fault, after its place.
use Rattle.std.proofs.Common.{◌≡◌, ◌∙◌, ◌++◌, List, ℕ, Option, Some, option_map, append_assoc, ap, refl}
use Rattle.std.proofs.Common.{None, codes, Result, Ok, Err, IfOk, IfSome, String, string_bytes}
use Rattle.std.specs.Fmt.{◌++?◌}
use Rattle.pep508_url.specs.UrlFaults.{url_error_text}
use Rattle.pep508_url.specs.UrlTexts.{Verbatim}
use Rattle.pep508_url.specs.declared.url_error.VerbatimUrlError.{VerbatimUrlError}
use Rattle.pep508_error.specs.declared.error.Pep508Error.{Pep508Error}
use Rattle.pep508_error.specs.Errors.{error_text}
use Rattle.reqs_io_faults.specs.FaultText.{fault_text}
use Rattle.reqs_io_faults.specs.declared.fault.Input.{Input}
use Rattle.reqs_io_faults.specs.declared.fault.RunFault.{RunFault}
use Rattle.reqs_io_faults.specs.declared.fault.RunFault.TheVariants.{Read, Write, Memory, TooLong, NotText, Extra}
use Rattle.reqs_io_faults.specs.declared.fault.RunFault.TheVariants.{Requirement, NumberAtEnd, Json, Float, Shape}
use Rattle.reqs_io_faults.specs.declared.fault.RunFault.TheVariants.{Member, Version, Candidate, TooManyCases}
use Rattle.reqs_io_faults.specs.declared.fault.RunFault.TheVariants.{Refused, TooMany}
use Rattle.reqs_io_faults.specs.declared.bounds.Excess.TheVariants.{NodesAt, Nodes, ClausesAt, ClausesFor, Cases}
use Rattle.reqs_json.specs.Lines.{line_of}
use Rattle.reqs_json.specs.Faults.{kind_of, input_in, place_in, message_of, place_text, error_value}
use Rattle.reqs_json.specs.Faults.{IsFaultLine, IsAssumptionLine}
use Rattle.reqs_json.specs.declared.faults.Place.{Place}

pub behind_place : (said : Input → List ℕ) (fault : RunFault)
    → fault_text said fault ≡ (Some (place_text said fault) ++? message_of fault)
behind_place said (Read input) = refl
behind_place said Write = refl
behind_place said Memory = refl
behind_place said (TooLong input) = simp append_assoc
behind_place said (NotText input offset) = simp append_assoc
behind_place said (Extra word) = refl
behind_place said (Requirement input number error) = refl
behind_place said (NumberAtEnd input number) = refl
behind_place said (Refused input number cause) = refl
behind_place said (Json input) = refl
behind_place said (Float input) = refl
behind_place said (Shape input wanted) = refl
behind_place said (Member input index name) = simp append_assoc
behind_place said (Version input index name) = simp append_assoc
behind_place said (Candidate input number cause) = refl
behind_place said (TooManyCases input limit name) = simp append_assoc
behind_place said (TooMany (NodesAt input number most)) = simp append_assoc
behind_place said (TooMany (Nodes most)) = refl
behind_place said (TooMany (ClausesAt input number most)) = simp append_assoc
behind_place said (TooMany (ClausesFor name most)) = refl
behind_place said (TooMany (Cases input most)) = simp append_assoc

-- a line that has what is told of a fault is its object
pub told : {Y E : Type 0} (said : Input → List ℕ) (fault : RunFault) (line : Result (String Y) E)
    (kind message shown : List ℕ) (path : Option (List ℕ)) (place : Place)
    → kind ≡ kind_of fault → shown ≡ message → path ≡ option_map said (input_in fault) → place ≡ place_in fault
    → IfSome (message_of fault) (λ wanted. message ≡ wanted)
    → IfOk line (λ text. string_bytes text ≡ line_of (error_value kind shown path place))
    → IfOk line (λ text. IsFaultLine said fault (string_bytes text))
told said fault (Ok text) kind message shown path place k m p q s h = (message, s, h ∙ ap line_of (rw (k, m, p, q) refl))
told said fault (Err error) kind message shown path place k m p q s h = tt

-- and so is a line that has what is told of an assumption
pub told_assumption : {Y E : Type 0} (error : Pep508Error Verbatim VerbatimUrlError) (line : Result (String Y) E)
    (message shown : List ℕ) (start len : ℕ) → shown ≡ message → start ≡ error.excerpt.start
    → len ≡ error.excerpt.len → IfSome (error_text url_error_text error) (λ wanted. message ≡ wanted)
    → IfOk line (λ text. string_bytes text ≡ line_of (error_value (codes "assumption") shown None
    (record { line = Some 1; start = Some start; len = Some len })))
    → IfOk line (λ text. IsAssumptionLine error (string_bytes text))
told_assumption error (Ok text) message shown start len m s l said h =
    (message, said, h ∙ ap line_of (rw (m, s, l) refl))
told_assumption error (Err fault) message shown start len m s l said h = tt
