-- The messages and places for texts that a command refuses.
use Rattle.std.specs.Prelude.{◌≡◌, ℕ, List, IfSome}
use Rattle.reqs_io_faults.specs.declared.bounds.Excess.{Excess}
use Rattle.reqs_io_faults.specs.declared.bounds.Excess.TheVariants as passed
use Rattle.reqs_io_faults.specs.declared.fault.Input.{Input}
use Rattle.reqs_io_faults.specs.declared.fault.Input.TheVariants.{First, Second, Third}
use Rattle.reqs_io_faults.specs.declared.fault.RunFault.{RunFault}
use Rattle.reqs_io_faults.specs.declared.fault.RunFault.TheVariants as faults
use Rattle.reqs_io_faults.specs.Ends.{of_input}
use Rattle.reqs_io_faults.specs.Faults.{status_of}
use Rattle.reqs_io_faults.specs.FaultText.{fault_text, HasItsFront}
use Rattle.reqs_c_reply.specs.declared.place.Place.{Place}
use Rattle.reqs_c_reply.specs.Endings.{nowhere, span}

-- the number of an input among the arguments of a call, from 1
abbrev pub argument_of : Input → ℕ
argument_of First = 1
argument_of Second = 2
argument_of Third = 3

-- an argument, without a place in it
abbrev pub whole : ℕ → Place
whole argument = span argument 0 0

-- `len` bytes of a line of an argument, from `start` on
abbrev pub in_line : ℕ → ℕ → ℕ → ℕ → Place
in_line argument line start len = record { input = argument; line = line; start = start; len = len }

-- the place of what there is too much of: a line, or an argument; none where more than one has its part in it
abbrev pub excess_place : Excess → Place
excess_place (passed.NodesAt input number most) = in_line (argument_of input) number 0 0
excess_place (passed.Nodes most) = nowhere
excess_place (passed.ClausesAt input number most) = in_line (argument_of input) number 0 0
excess_place (passed.ClausesFor name most) = nowhere
excess_place (passed.Cases input most) = whole (argument_of input)

-- the place of a fault, where the argument of this number has the extras
abbrev pub place_told : ℕ → RunFault → Place
place_told extras (faults.Read input) = whole (argument_of input)
place_told extras faults.Write = nowhere
place_told extras faults.Memory = nowhere
place_told extras (faults.TooLong input) = whole (argument_of input)
place_told extras (faults.NotText input offset) = span (argument_of input) offset 0
place_told extras (faults.Extra text) = whole extras
place_told extras (faults.Requirement input number error) =
    in_line (argument_of input) number error.excerpt.start error.excerpt.len
place_told extras (faults.NumberAtEnd input number) = in_line (argument_of input) number 0 0
place_told extras (faults.Refused input number cause) = in_line (argument_of input) number 0 0
place_told extras (faults.Json input) = whole (argument_of input)
place_told extras (faults.Float input) = whole (argument_of input)
place_told extras (faults.Shape input wanted) = whole (argument_of input)
place_told extras (faults.Member input index name) = whole (argument_of input)
place_told extras (faults.Version input index name) = whole (argument_of input)
place_told extras (faults.Candidate input number cause) = in_line (argument_of input) number 0 0
place_told extras (faults.TooManyCases input limit name) = whole (argument_of input)
place_told extras (faults.TooMany excess) = excess_place excess

-- a fault that refuses an input is reported at its place by a message, in which inputs have these names; of a
-- message of the crate `url` only the start is claimed
pub record IsToldAt (names : List (List ℕ)) (extras : ℕ) (fault : RunFault) (place : Place)
    (message : List ℕ) : Type 0 where
  pub refuses : status_of fault ≡ 2
  pub stands : place ≡ place_told extras fault
  pub says : IfSome (fault_text (of_input names) fault) (λ wanted. message ≡ wanted)
  pub front : HasItsFront (of_input names) fault message
