-- A command that isn't strict answers as one that knows of no such thing.
use Rattle.std.proofs.Common.{◌≡◌, ◌∙◌, ◌∷◌, [], ℕ, false, List, Option, Result, refl}
use Rattle.pep508_url.specs.Vars.{Variables}
use Rattle.pep508_tree.specs.Meaning.{NodeRecord}
use Rattle.reqtable_conflicts.specs.Contradictions.{ConflictRecord}
use Rattle.reqs_json.specs.declared.format.Format.{Format}
use Rattle.reqs_io_faults.specs.declared.fault.RunFault.{RunFault}
use Rattle.reqs_io_faults.specs.declared.fault.Status.{Status}
use Rattle.reqs_io_faults.specs.declared.fault.Status.TheVariants.{Answered}
use Rattle.reqs_io_faults.specs.declared.bounds.Bounds.{Bounds}
use Rattle.reqs_io_faults.specs.Ends.{Runs}
use Rattle.reqs_io_faults.specs.Within.{RefusesOr}
use Rattle.reqs_io_faults.proofs.InOtherWords.{in_other_words}
use Rattle.reqs_lists.specs.Contradictions.{conflicts_status, ConflictsAnswerBy, ConflictsAnswerWithin}
use Rattle.reqs_lists.specs.Contradictions.{ConflictsRefuseWithin, ConflictsPass}

answered : (found : List ConflictRecord) → conflicts_status false found ≡ Answered
answered [] = refl
answered (first ∷ others) = refl

module _ {W : Type 0} (contents : W → Option (List ℕ)) (old new : W) (told : List (Option (List ℕ))) (vars : Variables)
    (format : Format) (bounds : Bounds) (nodes : List NodeRecord) (limit : ℕ) where
  not_strict : (inputs : List (List ℕ)) (ended : Status) (text : List ℕ)
      → ConflictsAnswerBy false bounds nodes format limit vars inputs ended text
      → ConflictsAnswerWithin bounds nodes format limit vars inputs ended text
  not_strict inputs ended text h =
      let found = h.0.2 in
      ((h.0.0, h.0.1, (found.1 ∙ answered found.0, (found.0, found.2, found.3))), h.1)

  pub conflicts_not_strict : (result : Result Status RunFault)
      → Runs (ConflictsAnswerBy false bounds nodes format limit vars)
      (RefusesOr (ConflictsPass bounds nodes limit vars) (ConflictsRefuseWithin bounds limit vars)) told contents old new
      result
      → Runs (ConflictsAnswerWithin bounds nodes format limit vars)
      (RefusesOr (ConflictsPass bounds nodes limit vars) (ConflictsRefuseWithin bounds limit vars)) told contents old new
      result
  conflicts_not_strict =
      in_other_words (ConflictsAnswerBy false bounds nodes format limit vars)
      (ConflictsAnswerWithin bounds nodes format limit vars)
      (RefusesOr (ConflictsPass bounds nodes limit vars) (ConflictsRefuseWithin bounds limit vars)) told contents old new
      not_strict
