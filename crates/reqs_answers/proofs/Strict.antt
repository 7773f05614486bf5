-- Commands that aren't strict answer as those that know of no such thing.
use Rattle.std.proofs.Common.{ℕ, false, List, Option, Result}
use Rattle.pep508_url.specs.Vars.{Variables}
use Rattle.pep508_tree.specs.Meaning.{NodeRecord}
use Rattle.reqs_json.specs.declared.format.Format.{Format}
use Rattle.reqs_io_faults.specs.declared.fault.RunFault.{RunFault}
use Rattle.reqs_io_faults.specs.declared.fault.Status.{Status}
use Rattle.reqs_io_faults.specs.declared.bounds.Bounds.{Bounds}
use Rattle.reqs_io_faults.specs.Ends.{Runs}
use Rattle.reqs_io_faults.specs.Within.{RefusesOr}
use Rattle.reqs_io_faults.proofs.InOtherWords.{in_other_words}
use Rattle.reqs_answers.specs.Check.{ChecksAs, ChecksBy, CheckRefuses}
use Rattle.reqs_answers.specs.Matrix.{MatrixAnswersBy, MatrixAnswersWithin, MatrixRefusesWithin, MatrixPasses}

module _ {W : Type 0} (contents : W → Option (List ℕ)) (old new : W) (told : List (Option (List ℕ)))
    (vars : Variables) (extras : List (List ℕ)) (format : Format) where
  pub check_not_strict : (result : Result Status RunFault)
      → Runs (ChecksBy false format vars extras) (CheckRefuses vars extras) told contents old new result
      → Runs (ChecksAs format vars extras) (CheckRefuses vars extras) told contents old new result
  check_not_strict =
      in_other_words (ChecksBy false format vars extras) (ChecksAs format vars extras) (CheckRefuses vars extras) told
      contents old new (λ inputs status text h. (h.1, h.0))

  module _ (bounds : Bounds) (nodes : List NodeRecord) (limit : ℕ) where
    not_strict : (inputs : List (List ℕ)) (status : Status) (text : List ℕ)
        → MatrixAnswersBy false bounds nodes format limit vars extras inputs status text
        → MatrixAnswersWithin bounds nodes format limit vars extras inputs status text
    not_strict inputs status text h =
        let answer = h.0.2 in
        (answer.2, (h.0.0, h.0.1, (answer.0, answer.1)), h.1)

    pub matrix_not_strict : (result : Result Status RunFault)
        → Runs (MatrixAnswersBy false bounds nodes format limit vars extras)
        (RefusesOr (MatrixPasses bounds nodes limit vars extras) (MatrixRefusesWithin bounds limit vars extras)) told
        contents old new result
        → Runs (MatrixAnswersWithin bounds nodes format limit vars extras)
        (RefusesOr (MatrixPasses bounds nodes limit vars extras) (MatrixRefusesWithin bounds limit vars extras)) told
        contents old new result
    matrix_not_strict =
        in_other_words (MatrixAnswersBy false bounds nodes format limit vars extras)
        (MatrixAnswersWithin bounds nodes format limit vars extras)
        (RefusesOr (MatrixPasses bounds nodes limit vars extras) (MatrixRefusesWithin bounds limit vars extras)) told
        contents old new not_strict
