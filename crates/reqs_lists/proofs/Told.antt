-- How a command ends that refuses its lists.
use Rattle.std.proofs.Common.{◌≡◌, ◌⊎◌, inl, inr, ℕ, Bool, List, Option, Some, Result, Ok, Err, sym, subst}
use Rattle.std.specs.List.{AllZip}
use Rattle.pep508_url.specs.Vars.{Variables}
use Rattle.reqtable_candidates.specs.TextLines.{text_lines}
use Rattle.reqtable_requirements.specs.LineReading.{LineRecord}
use Rattle.reqtable_requirements.specs.Requirements.{IsErrorIn}
use Rattle.reqtable_compare.specs.Compared.{ComparesWithin}
use Rattle.reqtable_compare.specs.declared.sides.LineCause.{LineCause}
use Rattle.reqtable_compare.specs.declared.sides.LineCause.TheVariants as cause
use Rattle.reqtable_compare.specs.declared.sides.SameError.{SameError}
use Rattle.reqtable_compare.specs.declared.sides.SameError.TheVariants as errors
use Rattle.reqs_io.specs.Front.{AreAsTold}
use Rattle.reqs_json.specs.declared.format.Format.{Format}
use Rattle.reqs_io_faults.specs.declared.fault.Input.{Input}
use Rattle.reqs_io_faults.specs.declared.fault.RunFault.{RunFault}
use Rattle.reqs_io_faults.specs.Ends.{AreWithin, of_input, Answering, Refusing, Runs}
use Rattle.reqs_io_faults.specs.Faults.{Cause, IsExcess, unbounded}
use Rattle.reqs_io_faults.specs.declared.fault.Status.{Status}
use Rattle.reqs_io_faults.proofs.Unbounded.{ok_without, err_without}
use Rattle.reqs_io_faults.specs.Within.{RefusesOr}
use Rattle.reqs_io_faults.specs.declared.bounds.Bounds.{Bounds}
use Rattle.pep508_tree.specs.Meaning.{NodeRecord}
use Rattle.reqs_io_faults.proofs.Steps.{texts_refused, bound_passed}
use Rattle.reqs_lists.specs.Comparison.{Lists, input_of, line_fault, fault_of, CantBeCompared}
use Rattle.reqs_lists.specs.Comparison.{CantBeWithin, SameAnswersAs, SameAnswersWithin, SameRefuses}
use Rattle.reqs_lists.specs.Comparison.{SameRefusesWithin, SamePasses}
use Rattle.reqs_lists.specs.Contradictions.{HasTooManyWithin, ConflictsAnswerAs, ConflictsRefuse, ConflictsPass}
use Rattle.reqs_lists.specs.Contradictions.{IsConflictsAnswer, IsFewConflicts, HasTooManyCases}
use Rattle.reqs_lists.specs.Contradictions.{ConflictsAnswerBy, ConflictsAnswerWithin, ConflictsRefuseWithin}
use Rattle.reqs_lists.specs.Lists.{IsOfLists, Refused, RefusesLists, PassesInFirst, PassesInEither, one_list, two_lists}
use Rattle.reqs_lists.specs.Normal.{HasNoNormal, NormalAnswersAs, NormalRefuses}
use Rattle.reqs_lists.specs.Normal.{HasFaultyLine, NormalAnswersWithin, NormalRefusesWithin, NormalPasses}
use Rattle.reqs_lists.proofs.Long.{first_fault}

-- what refuses lists may be said of them, where that may which refuses what they are read as
pub may_be_said : {A : Type 0} (IsOne : RunFault → Type 0) (Declines : Refused A) (lists : Result A Cause)
    (fault : RunFault) → ((read : A) → Declines read fault → IsOne fault)
    → RefusesLists IsOne Declines lists fault → IsOne fault
may_be_said IsOne Declines lists fault each (inl h) = h.0
may_be_said IsOne Declines lists fault each (inr h) = each h.0 h.2

module _ (vars : Variables) (inputs : List (List ℕ)) where
  of_line : (input : Input) (number : ℕ) (why : LineCause)
      → IsOfLists vars inputs (line_fault input number why)
  of_line input number cause.Url = tt
  of_line input number cause.ExactEqual = tt
  of_line input number cause.PostAfterBound = tt
  of_line input number cause.NumberAtEnd = tt

  of_error : (limit : ℕ) (error : SameError) → IsOfLists vars inputs (fault_of limit error)
  of_error limit (errors.Line side number why) = of_line (input_of side) number why
  of_error limit (errors.TooManyCases side name) = tt
  of_error limit (errors.TooManyCasesInAll side) = tt
  of_error limit errors.Memory = tt

  module _ (fault : RunFault) where
    of_no_normal : (most : ℕ) (lines : List LineRecord) → HasFaultyLine most lines fault
        → IsOfLists vars inputs fault
    of_no_normal most lines h = subst (IsOfLists vars inputs) (sym h.2) tt

    of_too_many : (limit most : ℕ) (lines : List LineRecord) → HasTooManyWithin limit most lines fault
        → IsOfLists vars inputs fault
    of_too_many limit most lines h = subst (IsOfLists vars inputs) (sym h.1) tt

    pub of_not_compared : (limit most : ℕ) (lists : Lists) → CantBeWithin limit most lists fault
        → IsOfLists vars inputs fault
    of_not_compared limit most lists h = subst (IsOfLists vars inputs) (sym h.1) (of_error limit h.0)

-- a bound that was passed is an excess
first_excess : (vars : Variables) (most : ℕ) (nodes : List NodeRecord) (inputs : List (List ℕ)) (fault : RunFault)
    → PassesInFirst vars most nodes inputs fault → IsExcess fault
first_excess vars most nodes inputs fault h = subst IsExcess (sym h.1) tt

pub either_excess : (vars : Variables) (most : ℕ) (nodes : List NodeRecord) (inputs : List (List ℕ)) (fault : RunFault)
    → PassesInEither vars most nodes inputs fault → IsExcess fault
either_excess vars most nodes inputs fault (inl h) = first_excess vars most nodes inputs fault h
either_excess vars most nodes inputs fault (inr h) = subst IsExcess (sym h.2.1) tt

normal_excess : (bounds : Bounds) (nodes : List NodeRecord) (vars : Variables) (inputs : List (List ℕ))
    (fault : RunFault) → NormalPasses bounds nodes vars inputs fault → IsExcess fault
normal_excess bounds nodes vars inputs fault (inl h) = first_excess vars bounds.nodes nodes inputs fault h
normal_excess bounds nodes vars inputs fault (inr h) = subst IsExcess (sym h.2.1.1) tt

conflicts_excess : (bounds : Bounds) (nodes : List NodeRecord) (limit : ℕ) (vars : Variables)
    (inputs : List (List ℕ)) (fault : RunFault) → ConflictsPass bounds nodes limit vars inputs fault → IsExcess fault
conflicts_excess bounds nodes limit vars inputs fault (inl h) = first_excess vars bounds.nodes nodes inputs fault h
conflicts_excess bounds nodes limit vars inputs fault (inr h) =
    elim h.2 [ inl o ↦ subst IsExcess (sym o.0) tt | inr m ↦ subst IsExcess (sym m.1.0) tt ]

same_excess : (bounds : Bounds) (nodes : List NodeRecord) (limit : ℕ) (vars : Variables)
    (inputs : List (List ℕ)) (fault : RunFault) → SamePasses bounds nodes limit vars inputs fault → IsExcess fault
same_excess bounds nodes limit vars inputs fault (inl h) = either_excess vars bounds.nodes nodes inputs fault h
same_excess bounds nodes limit vars inputs fault (inr h) =
    elim h.2 [
      | inl o ↦ elim o [ inl a ↦ subst IsExcess (sym a.0) tt | inr m ↦ subst IsExcess (sym m.1.1) tt ]
      | inr l ↦ subst IsExcess (sym l.1.1.2) tt
    ]

-- a command whose inputs are read, and refused
module _ {W : Type 0} (contents : W → Option (List ℕ)) (old new : W) (told : List (Option (List ℕ)))
    (inputs : List (List ℕ)) (are_told : AllZip AreAsTold told inputs) (within : AreWithin inputs)
    (vars : Variables) (fault : RunFault) (format : Format) where
  pub refused : (Answers : Answering) (Refuses : List (List ℕ) → RunFault → Type 0)
      → IsOfLists vars inputs fault → Refuses inputs fault
      → Runs Answers Refuses told contents old new (Err fault)
  refused Answers Refuses h r =
      texts_refused Answers Refuses contents old new told inputs are_told within
      (λ input error. IsErrorIn vars (text_lines (of_input inputs input)) error) fault h r

  -- and within bounds
  pub passed : (Answers : Answering) (Refuses : List (List ℕ) → RunFault → Type 0)
      → IsExcess fault → Refuses inputs fault
      → Runs Answers Refuses told contents old new (Err fault)
  passed Answers Refuses h r =
      bound_passed Answers Refuses contents old new told inputs are_told within fault h r

  module _ (bounds : Bounds) (nodes : List NodeRecord) where
    pub normal_within_refused :
        NormalRefusesWithin bounds vars inputs fault ⊎ NormalPasses bounds nodes vars inputs fault
        → Runs (NormalAnswersWithin bounds nodes format vars)
        (RefusesOr (NormalPasses bounds nodes vars) (NormalRefusesWithin bounds vars)) told contents old new (Err fault)
    normal_within_refused (inl h) =
        refused (NormalAnswersWithin bounds nodes format vars)
        (RefusesOr (NormalPasses bounds nodes vars) (NormalRefusesWithin bounds vars))
        (may_be_said (IsOfLists vars inputs) (HasFaultyLine bounds.clauses) (one_list vars inputs) fault
        (of_no_normal vars inputs fault bounds.clauses) h) (inl h)
    normal_within_refused (inr h) =
        passed (NormalAnswersWithin bounds nodes format vars)
        (RefusesOr (NormalPasses bounds nodes vars) (NormalRefusesWithin bounds vars))
        (normal_excess bounds nodes vars inputs fault h) (inr h)

    pub conflicts_by_refused : (strict : Bool) (limit : ℕ)
        → ConflictsRefuseWithin bounds limit vars inputs fault ⊎ ConflictsPass bounds nodes limit vars inputs fault
        → Runs (ConflictsAnswerBy strict bounds nodes format limit vars)
        (RefusesOr (ConflictsPass bounds nodes limit vars) (ConflictsRefuseWithin bounds limit vars)) told contents old new
        (Err fault)
    conflicts_by_refused strict limit (inl h) =
        refused (ConflictsAnswerBy strict bounds nodes format limit vars)
        (RefusesOr (ConflictsPass bounds nodes limit vars) (ConflictsRefuseWithin bounds limit vars))
        (may_be_said (IsOfLists vars inputs) (HasTooManyWithin limit bounds.cases) (one_list vars inputs) fault
        (of_too_many vars inputs fault limit bounds.cases) h) (inl h)
    conflicts_by_refused strict limit (inr h) =
        passed (ConflictsAnswerBy strict bounds nodes format limit vars)
        (RefusesOr (ConflictsPass bounds nodes limit vars) (ConflictsRefuseWithin bounds limit vars))
        (conflicts_excess bounds nodes limit vars inputs fault h) (inr h)

    pub same_within_refused : (limit : ℕ)
        → SameRefusesWithin bounds limit vars inputs fault ⊎ SamePasses bounds nodes limit vars inputs fault
        → Runs (SameAnswersWithin bounds nodes format limit vars)
        (RefusesOr (SamePasses bounds nodes limit vars) (SameRefusesWithin bounds limit vars)) told contents old new (Err fault)
    same_within_refused limit (inl h) =
        refused (SameAnswersWithin bounds nodes format limit vars)
        (RefusesOr (SamePasses bounds nodes limit vars) (SameRefusesWithin bounds limit vars))
        (may_be_said (IsOfLists vars inputs) (CantBeWithin limit bounds.cases) (two_lists vars inputs) fault
        (of_not_compared vars inputs fault limit bounds.cases) h) (inl h)
    same_within_refused limit (inr h) =
        passed (SameAnswersWithin bounds nodes format limit vars)
        (RefusesOr (SamePasses bounds nodes limit vars) (SameRefusesWithin bounds limit vars))
        (same_excess bounds nodes limit vars inputs fault h) (inr h)

-- what refuses lists within bounds refuses them without
refuses_plain : {A : Type 0} (IsOne : RunFault → Type 0) (Declines Plain : Refused A) (lists : Result A Cause)
    → ((read : A) (fault : RunFault) → Declines read fault → Plain read fault) → (fault : RunFault)
    → RefusesLists IsOne Declines lists fault → RefusesLists IsOne Plain lists fault
refuses_plain IsOne Declines Plain lists plain fault (inl h) = inl h
refuses_plain IsOne Declines Plain lists plain fault (inr h) = inr (h.0, h.1, plain h.0 fault h.2)

-- what is refused within bounds is refused without them, or passed a bound
pub wide : (Passes Refused Plain : Refusing)
    → ((inputs : List (List ℕ)) (fault : RunFault) → Refused inputs fault → Plain inputs fault)
    → ((inputs : List (List ℕ)) (fault : RunFault) → Passes inputs fault → IsExcess fault)
    → (inputs : List (List ℕ)) (fault : RunFault) → RefusesOr Passes Refused inputs fault
    → Plain inputs fault ⊎ IsExcess fault
wide Passes Refused Plain plain passes inputs fault (inl h) = inl (plain inputs fault h)
wide Passes Refused Plain plain passes inputs fault (inr h) = inr (passes inputs fault h)

-- the first line that can't be printed within a bound has no normal text
fault_plain : (most : ℕ) (lines : List LineRecord) (fault : RunFault) → HasFaultyLine most lines fault
    → HasNoNormal lines fault
fault_plain most lines fault h = (h.0, h.1, h.2, first_fault (Some most) lines h.0 h.1 h.3)

normal_plain : (bounds : Bounds) (vars : Variables) (inputs : List (List ℕ)) (fault : RunFault)
    → NormalRefusesWithin bounds vars inputs fault → NormalRefuses vars inputs fault
normal_plain bounds vars inputs =
    refuses_plain (IsOfLists vars inputs) (HasFaultyLine bounds.clauses) HasNoNormal (one_list vars inputs)
    (fault_plain bounds.clauses)

-- the conflicts that are found with a bound on all cases are those that are found without
few_plain : (format : Format) (limit most : ℕ) (lines : List LineRecord) (ended : Status) (text : List ℕ)
    → IsFewConflicts format limit most lines ended text → IsConflictsAnswer format limit lines ended text
few_plain format limit most lines ended text h = (h.0, (h.1.0, h.1.1, h.1.2))

many_plain : (limit most : ℕ) (lines : List LineRecord) (fault : RunFault)
    → HasTooManyWithin limit most lines fault → HasTooManyCases limit lines fault
many_plain limit most lines fault h = (h.0, h.1, h.2)

conflicts_plain : (bounds : Bounds) (limit : ℕ) (vars : Variables) (inputs : List (List ℕ)) (fault : RunFault)
    → ConflictsRefuseWithin bounds limit vars inputs fault → ConflictsRefuse limit vars inputs fault
conflicts_plain bounds limit vars inputs =
    refuses_plain (IsOfLists vars inputs) (HasTooManyWithin limit bounds.cases) (HasTooManyCases limit)
    (one_list vars inputs) (many_plain limit bounds.cases)

-- and so are lists that can't be compared
compared_plain : (limit most : ℕ) (nodes : List NodeRecord) (lists : Lists) (error : SameError) (fault : RunFault)
    → fault ≡ fault_of limit error → ComparesWithin limit most nodes lists.0 lists.1 (Err error)
    → CantBeCompared limit lists fault
compared_plain limit most nodes lists (errors.Line side number why) fault e h =
    (errors.Line side number why, e, (nodes, h))
compared_plain limit most nodes lists (errors.TooManyCases side name) fault e h =
    (errors.TooManyCases side name, e, (nodes, h))
compared_plain limit most nodes lists (errors.TooManyCasesInAll side) fault e h = (errors.Memory, e, (nodes, tt))
compared_plain limit most nodes lists errors.Memory fault e h = (errors.Memory, e, (nodes, tt))

pub same_plain : (bounds : Bounds) (limit : ℕ) (vars : Variables) (inputs : List (List ℕ)) (fault : RunFault)
    → SameRefusesWithin bounds limit vars inputs fault → SameRefuses limit vars inputs fault
same_plain bounds limit vars inputs =
    refuses_plain (IsOfLists vars inputs) (CantBeWithin limit bounds.cases) (CantBeCompared limit)
    (two_lists vars inputs)
    (λ lists fault h. compared_plain limit bounds.cases h.2.0 lists h.0 fault h.1 h.2.1)

module _ {W : Type 0} (contents : W → Option (List ℕ)) (old new : W) (told : List (Option (List ℕ))) (vars : Variables)
    (format : Format) (bounds : Bounds) (nodes : List NodeRecord) where
  pub normal_ok : (status : Status)
      → Runs (NormalAnswersWithin bounds nodes format vars)
      (RefusesOr (NormalPasses bounds nodes vars) (NormalRefusesWithin bounds vars)) told contents old new
      (Ok status)
      → Runs (NormalAnswersAs format vars) (NormalRefuses vars) told contents old new (Ok status)
  normal_ok =
      ok_without (NormalAnswersAs format vars) (NormalAnswersWithin bounds nodes format vars) (NormalRefuses vars)
      (RefusesOr (NormalPasses bounds nodes vars) (NormalRefusesWithin bounds vars)) told contents old new
      (λ inputs status text h. (h.0.0, h.0.1, h.0.2.0))
      (wide (NormalPasses bounds nodes vars) (NormalRefusesWithin bounds vars) (NormalRefuses vars)
      (normal_plain bounds vars) (normal_excess bounds nodes vars))

  pub normal_err : (fault : RunFault)
      → Runs (NormalAnswersWithin bounds nodes format vars)
      (RefusesOr (NormalPasses bounds nodes vars) (NormalRefusesWithin bounds vars)) told contents old new
      (Err fault)
      → Runs (NormalAnswersAs format vars) (NormalRefuses vars) told contents old new (Err (unbounded fault))
  normal_err =
      err_without (NormalAnswersAs format vars) (NormalAnswersWithin bounds nodes format vars) (NormalRefuses vars)
      (RefusesOr (NormalPasses bounds nodes vars) (NormalRefusesWithin bounds vars)) told contents old new
      (λ inputs status text h. (h.0.0, h.0.1, h.0.2.0))
      (wide (NormalPasses bounds nodes vars) (NormalRefusesWithin bounds vars) (NormalRefuses vars)
      (normal_plain bounds vars) (normal_excess bounds nodes vars))

  module _ (limit : ℕ) where
    pub conflicts_ok : (status : Status)
        → Runs (ConflictsAnswerWithin bounds nodes format limit vars)
        (RefusesOr (ConflictsPass bounds nodes limit vars) (ConflictsRefuseWithin bounds limit vars)) told contents old new
        (Ok status)
        → Runs (ConflictsAnswerAs format limit vars) (ConflictsRefuse limit vars) told contents old new (Ok status)
    conflicts_ok =
        ok_without (ConflictsAnswerAs format limit vars) (ConflictsAnswerWithin bounds nodes format limit vars) (ConflictsRefuse limit vars)
        (RefusesOr (ConflictsPass bounds nodes limit vars) (ConflictsRefuseWithin bounds limit vars)) told contents old new
        (λ inputs status text h. (h.0.0, h.0.1, few_plain format limit bounds.cases h.0.0 status text h.0.2))
        (wide (ConflictsPass bounds nodes limit vars) (ConflictsRefuseWithin bounds limit vars) (ConflictsRefuse limit vars)
        (conflicts_plain bounds limit vars) (conflicts_excess bounds nodes limit vars))

    pub conflicts_err : (fault : RunFault)
        → Runs (ConflictsAnswerWithin bounds nodes format limit vars)
        (RefusesOr (ConflictsPass bounds nodes limit vars) (ConflictsRefuseWithin bounds limit vars)) told contents old new
        (Err fault)
        → Runs (ConflictsAnswerAs format limit vars) (ConflictsRefuse limit vars) told contents old new (Err (unbounded fault))
    conflicts_err =
        err_without (ConflictsAnswerAs format limit vars) (ConflictsAnswerWithin bounds nodes format limit vars) (ConflictsRefuse limit vars)
        (RefusesOr (ConflictsPass bounds nodes limit vars) (ConflictsRefuseWithin bounds limit vars)) told contents old new
        (λ inputs status text h. (h.0.0, h.0.1, few_plain format limit bounds.cases h.0.0 status text h.0.2))
        (wide (ConflictsPass bounds nodes limit vars) (ConflictsRefuseWithin bounds limit vars) (ConflictsRefuse limit vars)
        (conflicts_plain bounds limit vars) (conflicts_excess bounds nodes limit vars))

    pub same_ok : (status : Status)
        → Runs (SameAnswersWithin bounds nodes format limit vars)
        (RefusesOr (SamePasses bounds nodes limit vars) (SameRefusesWithin bounds limit vars)) told contents old new
        (Ok status)
        → Runs (SameAnswersAs format limit vars) (SameRefuses limit vars) told contents old new (Ok status)
    same_ok =
        ok_without (SameAnswersAs format limit vars) (SameAnswersWithin bounds nodes format limit vars) (SameRefuses limit vars)
        (RefusesOr (SamePasses bounds nodes limit vars) (SameRefusesWithin bounds limit vars)) told contents old new
        (λ inputs status text h. (h.0.0, h.0.1, h.0.2.0))
        (wide (SamePasses bounds nodes limit vars) (SameRefusesWithin bounds limit vars) (SameRefuses limit vars)
        (same_plain bounds limit vars) (same_excess bounds nodes limit vars))

    pub same_err : (fault : RunFault)
        → Runs (SameAnswersWithin bounds nodes format limit vars)
        (RefusesOr (SamePasses bounds nodes limit vars) (SameRefusesWithin bounds limit vars)) told contents old new
        (Err fault)
        → Runs (SameAnswersAs format limit vars) (SameRefuses limit vars) told contents old new (Err (unbounded fault))
    same_err =
        err_without (SameAnswersAs format limit vars) (SameAnswersWithin bounds nodes format limit vars) (SameRefuses limit vars)
        (RefusesOr (SamePasses bounds nodes limit vars) (SameRefusesWithin bounds limit vars)) told contents old new
        (λ inputs status text h. (h.0.0, h.0.1, h.0.2.0))
        (wide (SamePasses bounds nodes limit vars) (SameRefusesWithin bounds limit vars) (SameRefuses limit vars)
        (same_plain bounds limit vars) (same_excess bounds nodes limit vars))
