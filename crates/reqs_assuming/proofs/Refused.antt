-- How a command ends that refuses its lists where a condition holds.
use Rattle.std.proofs.Common.{◌⊎◌, inl, inr, ℕ, Bool, List, Option, Err, sym, subst}
use Rattle.std.specs.List.{AllZip}
use Rattle.pep508_url.specs.Vars.{Variables}
use Rattle.pep508_tree.specs.Meaning.{NodeRecord}
use Rattle.reqtable_assumption.specs.Where.{Condition}
use Rattle.reqs_io.specs.Front.{AreAsTold}
use Rattle.reqs_json.specs.declared.format.Format.{Format}
use Rattle.reqs_io_faults.specs.declared.bounds.Bounds.{Bounds}
use Rattle.reqs_io_faults.specs.declared.fault.RunFault.{RunFault}
use Rattle.reqs_io_faults.specs.Ends.{AreWithin, Answering, Refusing, Runs}
use Rattle.reqs_io_faults.specs.Faults.{IsExcess}
use Rattle.reqs_io_faults.specs.Within.{RefusesOr}
use Rattle.reqs_lists.specs.Comparison.{CantBeWithin}
use Rattle.reqs_lists.specs.Contradictions.{HasTooManyWithin}
use Rattle.reqs_lists.specs.Lists.{IsOfLists}
use Rattle.reqs_lists.proofs.Told.{may_be_said, of_not_compared, either_excess, refused, passed}
use Rattle.reqs_assuming.specs.Comparison.{SameAnswersWhere, SameRefusesWhere, SamePassesWhere}
use Rattle.reqs_assuming.specs.Contradictions.{ConflictsAnswerWhere, ConflictsRefuseWhere, ConflictsPassWhere}
use Rattle.reqs_assuming.specs.Covered.{CoversAnswersWhere, CoversPassesWhere}
use Rattle.reqs_assuming.specs.Lists.{one_list_where, two_lists_where}

-- a bound that was passed is an excess
module _ (condition : Condition) (bounds : Bounds) (nodes : List NodeRecord) (limit : ℕ) (vars : Variables)
    (inputs : List (List ℕ)) (fault : RunFault) where
  same_excess : SamePassesWhere condition bounds nodes limit vars inputs fault → IsExcess fault
  same_excess (inl h) = either_excess vars bounds.nodes nodes inputs fault h
  same_excess (inr h) =
      elim h.2 [
        | inl o ↦ elim o [ inl a ↦ subst IsExcess (sym a.0) tt | inr m ↦ subst IsExcess (sym m.1.1) tt ]
        | inr l ↦ subst IsExcess (sym l.1.1.2) tt
      ]

  covers_excess : CoversPassesWhere condition bounds nodes limit vars inputs fault → IsExcess fault
  covers_excess (inl h) = either_excess vars bounds.nodes nodes inputs fault h
  covers_excess (inr h) =
      elim h.2 [
        | inl o ↦ elim o [ inl a ↦ subst IsExcess (sym a.0) tt | inr m ↦ subst IsExcess (sym m.1.1) tt ]
        | inr l ↦ subst IsExcess (sym l.1.1.3) tt
      ]

  conflicts_excess : ConflictsPassWhere condition bounds nodes limit vars inputs fault → IsExcess fault
  conflicts_excess (inl h) = subst IsExcess (sym h.1) tt
  conflicts_excess (inr h) =
      elim h.2 [ inl o ↦ subst IsExcess (sym o.0) tt | inr m ↦ subst IsExcess (sym m.1.0) tt ]

-- what refuses lists is a fault of lists
module _ (condition : Condition) (bounds : Bounds) (limit : ℕ) (vars : Variables) (inputs : List (List ℕ))
    (fault : RunFault) where
  same_of_lists : SameRefusesWhere condition bounds limit vars inputs fault → IsOfLists vars inputs fault
  same_of_lists =
      may_be_said (IsOfLists vars inputs) (CantBeWithin limit bounds.cases) (two_lists_where condition vars inputs) fault
      (of_not_compared vars inputs fault limit bounds.cases)

  conflicts_of_lists : ConflictsRefuseWhere condition bounds limit vars inputs fault → IsOfLists vars inputs fault
  conflicts_of_lists =
      may_be_said (IsOfLists vars inputs) (HasTooManyWithin limit bounds.cases) (one_list_where condition vars inputs)
      fault (λ lines h. subst (IsOfLists vars inputs) (sym h.1) tt)

-- a command whose inputs are read, and refused
module _ {W : Type 0} (contents : W → Option (List ℕ)) (old new : W) (told : List (Option (List ℕ)))
    (inputs : List (List ℕ)) (are_told : AllZip AreAsTold told inputs) (within : AreWithin inputs)
    (vars : Variables) (fault : RunFault) (format : Format) where
  either_refused : (Answers : Answering) (Passes Refuses : Refusing)
      → (Refuses inputs fault → IsOfLists vars inputs fault) → (Passes inputs fault → IsExcess fault)
      → Refuses inputs fault ⊎ Passes inputs fault
      → Runs Answers (RefusesOr Passes Refuses) told contents old new (Err fault)
  either_refused Answers Passes Refuses plain excess (inl h) =
      refused contents old new told inputs are_told within vars fault format Answers (RefusesOr Passes Refuses) (plain h)
      (inl h)
  either_refused Answers Passes Refuses plain excess (inr h) =
      passed contents old new told inputs are_told within vars fault format Answers (RefusesOr Passes Refuses) (excess h)
      (inr h)

  module _ (condition : Condition) (bounds : Bounds) (nodes : List NodeRecord) (limit : ℕ) where
    pub same_refused : SameRefusesWhere condition bounds limit vars inputs fault
        ⊎ SamePassesWhere condition bounds nodes limit vars inputs fault
        → Runs (SameAnswersWhere condition bounds nodes format limit vars)
        (RefusesOr (SamePassesWhere condition bounds nodes limit vars) (SameRefusesWhere condition bounds limit vars))
        told contents old new (Err fault)
    same_refused =
        either_refused (SameAnswersWhere condition bounds nodes format limit vars)
        (SamePassesWhere condition bounds nodes limit vars) (SameRefusesWhere condition bounds limit vars)
        (same_of_lists condition bounds limit vars inputs fault)
        (same_excess condition bounds nodes limit vars inputs fault)

    pub covers_refused : SameRefusesWhere condition bounds limit vars inputs fault
        ⊎ CoversPassesWhere condition bounds nodes limit vars inputs fault
        → Runs (CoversAnswersWhere condition bounds nodes format limit vars)
        (RefusesOr (CoversPassesWhere condition bounds nodes limit vars) (SameRefusesWhere condition bounds limit vars))
        told contents old new (Err fault)
    covers_refused =
        either_refused (CoversAnswersWhere condition bounds nodes format limit vars)
        (CoversPassesWhere condition bounds nodes limit vars) (SameRefusesWhere condition bounds limit vars)
        (same_of_lists condition bounds limit vars inputs fault)
        (covers_excess condition bounds nodes limit vars inputs fault)

    pub conflicts_refused : (strict : Bool) → ConflictsRefuseWhere condition bounds limit vars inputs fault
        ⊎ ConflictsPassWhere condition bounds nodes limit vars inputs fault
        → Runs (ConflictsAnswerWhere condition strict bounds nodes format limit vars)
        (RefusesOr (ConflictsPassWhere condition bounds nodes limit vars)
        (ConflictsRefuseWhere condition bounds limit vars)) told contents old new (Err fault)
    conflicts_refused strict =
        either_refused (ConflictsAnswerWhere condition strict bounds nodes format limit vars)
        (ConflictsPassWhere condition bounds nodes limit vars) (ConflictsRefuseWhere condition bounds limit vars)
        (conflicts_of_lists condition bounds limit vars inputs fault)
        (conflicts_excess condition bounds nodes limit vars inputs fault)
