-- How `covers` ends where it refuses its lists, and how it ends without bounds.
use Rattle.std.proofs.Common.{◌≡◌, ◌⊎◌, inl, inr, ℕ, List, Option, Ok, Err, sym, subst}
use Rattle.std.specs.List.{AllZip}
use Rattle.pep508_url.specs.Vars.{Variables}
use Rattle.pep508_tree.specs.Meaning.{NodeRecord}
use Rattle.reqs_io.specs.Front.{AreAsTold}
use Rattle.reqs_json.specs.declared.format.Format.{Format}
use Rattle.reqs_io_faults.specs.declared.bounds.Bounds.{Bounds}
use Rattle.reqs_io_faults.specs.declared.fault.RunFault.{RunFault}
use Rattle.reqs_io_faults.specs.declared.fault.Status.{Status}
use Rattle.reqs_io_faults.specs.Ends.{AreWithin, Runs}
use Rattle.reqs_io_faults.specs.Faults.{IsExcess, unbounded}
use Rattle.reqs_io_faults.specs.Within.{RefusesOr}
use Rattle.reqs_io_faults.proofs.Unbounded.{ok_without, err_without}
use Rattle.reqs_lists.specs.Comparison.{CantBeWithin, SameRefuses, SameRefusesWithin}
use Rattle.reqs_lists.specs.Covered.{CoversAnswersAs, CoversAnswersWithin, CoversPasses}
use Rattle.reqs_lists.specs.Lists.{IsOfLists, two_lists}
use Rattle.reqs_lists.proofs.Told.{may_be_said, of_not_compared, either_excess, refused, passed, wide, same_plain}

-- a bound that was passed is an excess
covers_excess : (bounds : Bounds) (nodes : List NodeRecord) (limit : ℕ) (vars : Variables)
    (inputs : List (List ℕ)) (fault : RunFault) → CoversPasses bounds nodes limit vars inputs fault → IsExcess fault
covers_excess bounds nodes limit vars inputs fault (inl h) = either_excess vars bounds.nodes nodes inputs fault h
covers_excess bounds nodes limit vars inputs fault (inr h) =
    elim h.2 [
      | inl o ↦ elim o [ inl a ↦ subst IsExcess (sym a.0) tt | inr m ↦ subst IsExcess (sym m.1.1) tt ]
      | inr l ↦ subst IsExcess (sym l.1.1.3) tt
    ]

-- inputs that are read, and refused
module _ {W : Type 0} (contents : W → Option (List ℕ)) (old new : W) (told : List (Option (List ℕ)))
    (inputs : List (List ℕ)) (are_told : AllZip AreAsTold told inputs) (within : AreWithin inputs)
    (vars : Variables) (fault : RunFault) (format : Format) (bounds : Bounds) (nodes : List NodeRecord)
    (limit : ℕ) where
  pub covers_within_refused : SameRefusesWithin bounds limit vars inputs fault
      ⊎ CoversPasses bounds nodes limit vars inputs fault
      → Runs (CoversAnswersWithin bounds nodes format limit vars)
      (RefusesOr (CoversPasses bounds nodes limit vars) (SameRefusesWithin bounds limit vars)) told contents old new
      (Err fault)
  covers_within_refused (inl h) =
      refused contents old new told inputs are_told within vars fault format
      (CoversAnswersWithin bounds nodes format limit vars)
      (RefusesOr (CoversPasses bounds nodes limit vars) (SameRefusesWithin bounds limit vars))
      (may_be_said (IsOfLists vars inputs) (CantBeWithin limit bounds.cases) (two_lists vars inputs) fault
      (of_not_compared vars inputs fault limit bounds.cases) h) (inl h)
  covers_within_refused (inr h) =
      passed contents old new told inputs are_told within vars fault format
      (CoversAnswersWithin bounds nodes format limit vars)
      (RefusesOr (CoversPasses bounds nodes limit vars) (SameRefusesWithin bounds limit vars))
      (covers_excess bounds nodes limit vars inputs fault h) (inr h)

-- without bounds
module _ {W : Type 0} (contents : W → Option (List ℕ)) (old new : W) (told : List (Option (List ℕ))) (vars : Variables)
    (format : Format) (bounds : Bounds) (nodes : List NodeRecord) (limit : ℕ) where
  pub covers_ok : (status : Status)
      → Runs (CoversAnswersWithin bounds nodes format limit vars)
      (RefusesOr (CoversPasses bounds nodes limit vars) (SameRefusesWithin bounds limit vars)) told contents old new
      (Ok status)
      → Runs (CoversAnswersAs format limit vars) (SameRefuses limit vars) told contents old new (Ok status)
  covers_ok =
      ok_without (CoversAnswersAs format limit vars) (CoversAnswersWithin bounds nodes format limit vars)
      (SameRefuses limit vars)
      (RefusesOr (CoversPasses bounds nodes limit vars) (SameRefusesWithin bounds limit vars)) told contents old new
      (λ inputs status text h. (h.0.0, h.0.1, h.0.2.0))
      (wide (CoversPasses bounds nodes limit vars) (SameRefusesWithin bounds limit vars) (SameRefuses limit vars)
      (same_plain bounds limit vars) (covers_excess bounds nodes limit vars))

  pub covers_err : (fault : RunFault)
      → Runs (CoversAnswersWithin bounds nodes format limit vars)
      (RefusesOr (CoversPasses bounds nodes limit vars) (SameRefusesWithin bounds limit vars)) told contents old new
      (Err fault)
      → Runs (CoversAnswersAs format limit vars) (SameRefuses limit vars) told contents old new
      (Err (unbounded fault))
  covers_err =
      err_without (CoversAnswersAs format limit vars) (CoversAnswersWithin bounds nodes format limit vars)
      (SameRefuses limit vars)
      (RefusesOr (CoversPasses bounds nodes limit vars) (SameRefusesWithin bounds limit vars)) told contents old new
      (λ inputs status text h. (h.0.0, h.0.1, h.0.2.0))
      (wide (CoversPasses bounds nodes limit vars) (SameRefusesWithin bounds limit vars) (SameRefuses limit vars)
      (same_plain bounds limit vars) (covers_excess bounds nodes limit vars))
