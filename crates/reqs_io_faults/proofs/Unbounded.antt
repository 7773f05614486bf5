-- Lists and commands with bounds, and without them.
use Rattle.std.proofs.Common.{◌≡◌, ◌≤◌, ◌⊎◌, inl, inr, ℕ, List, length, refl, sym, subst, Option, Result, Ok, Err}
use Rattle.std.specs.List.{AllZip}
use Rattle.pep508_url.specs.Vars.{Variables}
use Rattle.pep508_tree.specs.Meaning.{NodeRecord}
use Rattle.reqtable_requirements.specs.LineReading.{LineRecord}
use Rattle.reqtable_requirements.specs.Requirements.{requirements_of, StandsFor, ReadsRequirements}
use Rattle.reqtable_requirements.specs.Within.{IsPastAt, ReadsWithin}
use Rattle.reqtable_requirements.specs.declared.requirements.Line.{Line}
use Rattle.reqtable_requirements.specs.declared.requirements.RequirementsError.{RequirementsError}
use Rattle.reqtable_requirements.specs.declared.requirements.RequirementsError.TheVariants as errors
use Rattle.reqs_io_faults.specs.declared.bounds.Excess.TheVariants as excess
use Rattle.reqs_io_faults.specs.declared.fault.Input.{Input}
use Rattle.reqs_io_faults.specs.declared.fault.RunFault.{RunFault}
use Rattle.reqs_io_faults.specs.declared.fault.RunFault.TheVariants.{Read, Write, Memory, TooLong, TooMany}
use Rattle.reqs_io_faults.specs.declared.fault.Status.{Status}
use Rattle.reqs_io_faults.specs.Faults.{IsExcess, requirements_cause, of_requirements, unbounded}
use Rattle.reqs_io_faults.specs.Inputs.{with_cause, AnswersLines}
use Rattle.reqs_io_faults.specs.Ends.{Answering, Refusing, EndsAs, Runs}
use Rattle.reqs_io_faults.specs.Within.{PassesAt, LinesWithin}
use Rattle.reqs_io_faults.proofs.Steps.{requirements_refuse}

-- a line that passed the bound is one of the list's
module _ (vars : Variables) (input : Input) (most : ℕ) (nodes : List NodeRecord) (bytes : List ℕ) where
  pub lines_refused : (error : RequirementsError) → ReadsWithin vars most nodes bytes (Err error)
      → LinesWithin vars input most nodes bytes (Err (of_requirements input error))
  lines_refused (errors.NotText offset) h =
      inl (requirements_refuse vars input bytes (errors.NotText offset) (requirements_of vars bytes) h.0 h.1)
  lines_refused (errors.Line number error) h =
      inl (requirements_refuse vars input bytes (errors.Line number error) (requirements_of vars bytes) h.0 h.1)
  lines_refused (errors.NumberAtEnd number) h =
      inl (requirements_refuse vars input bytes (errors.NumberAtEnd number) (requirements_of vars bytes) h.0 h.1)
  lines_refused (errors.TooManyNodes number bound) h =
      inr (number, rw h.0 refl, (h.1.0, rw h.1.1 refl, h.1.2))
  lines_refused errors.Memory h = inl (tt, tt)

-- a command that passes no bound ends as one without bounds; one that does, for want of memory
module _ {W : Type 0} (Answers Fitting : Answering) (Refused Passing : Refusing) (told : List (Option (List ℕ)))
    (contents : W → Option (List ℕ)) (old new : W)
    (answers : (inputs : List (List ℕ)) (status : Status) (text : List ℕ) → Fitting inputs status text
    → Answers inputs status text)
    (refuses : (inputs : List (List ℕ)) (fault : RunFault) → Passing inputs fault
    → Refused inputs fault ⊎ IsExcess fault) where
  ended : (inputs : List (List ℕ)) (fault : RunFault) → EndsAs Fitting Passing inputs contents old new (Err fault)
      → EndsAs Answers Refused inputs contents old new (Err (unbounded fault))
  ended inputs (TooMany excess) h = tt
  ended inputs (Read input) h = h
  ended inputs (TooLong input) h = h
  ended inputs Write h = (h.0, (h.1.0, h.1.1, answers inputs h.1.0 h.1.1 h.1.2, h.1.3))
  ended inputs Memory h = tt
  ended inputs fault h = (h.0, elim (refuses inputs fault h.1) [ inl r ↦ r | inr e ↦ absurd e ])

  pub ok_without : (status : Status) → Runs Fitting Passing told contents old new (Ok status)
      → Runs Answers Refused told contents old new (Ok status)
  ok_without status h = record {
    inputs = h.inputs;
    are_told = h.are_told;
    ends = (h.ends.0, (h.ends.1.0, answers h.inputs status h.ends.1.0 h.ends.1.1, h.ends.1.2));
  }

  pub err_without : (fault : RunFault) → Runs Fitting Passing told contents old new (Err fault)
      → Runs Answers Refused told contents old new (Err (unbounded fault))
  err_without fault h =
      record { inputs = h.inputs; are_told = h.are_told; ends = ended h.inputs fault h.ends }
