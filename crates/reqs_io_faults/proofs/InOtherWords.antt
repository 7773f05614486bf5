-- How a command ends where its answers are said in other words.
use Rattle.std.proofs.Common.{ℕ, List, Option, Result, Ok, Err}
use Rattle.reqs_io_faults.specs.declared.fault.RunFault.{RunFault}
use Rattle.reqs_io_faults.specs.declared.fault.RunFault.TheVariants.{Read, Write, Memory, TooLong}
use Rattle.reqs_io_faults.specs.declared.fault.Status.{Status}
use Rattle.reqs_io_faults.specs.Ends.{Answering, Refusing, EndsAs, Runs}

module _ {W : Type 0} (Answers Others : Answering) (Refused : Refusing) (told : List (Option (List ℕ)))
    (contents : W → Option (List ℕ)) (old new : W)
    (says : (inputs : List (List ℕ)) (status : Status) (text : List ℕ) → Answers inputs status text
    → Others inputs status text) where
  ended : (inputs : List (List ℕ)) (fault : RunFault) → EndsAs Answers Refused inputs contents old new (Err fault)
      → EndsAs Others Refused inputs contents old new (Err fault)
  ended inputs (Read input) h = h
  ended inputs (TooLong input) h = h
  ended inputs Write h = (h.0, (h.1.0, h.1.1, says inputs h.1.0 h.1.1 h.1.2, h.1.3))
  ended inputs Memory h = tt
  ended inputs fault h = h

  pub in_other_words : (result : Result Status RunFault) → Runs Answers Refused told contents old new result
      → Runs Others Refused told contents old new result
  in_other_words (Ok status) h = record {
    inputs = h.inputs;
    are_told = h.are_told;
    ends = (h.ends.0, (h.ends.1.0, says h.inputs status h.ends.1.0 h.ends.1.1, h.ends.1.2));
  }
  in_other_words (Err fault) h =
      record { inputs = h.inputs; are_told = h.are_told; ends = ended h.inputs fault h.ends }
