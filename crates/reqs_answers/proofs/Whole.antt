-- What is answered after a list of requirements is what is answered to all texts.
use Rattle.std.proofs.Common.{◌≡◌, ◌≢◌, ◌⊎◌, inl, inr, ℕ, Bool, List, Option, Result, Ok, Err, IfErr}
use Rattle.std.proofs.Common.{sym, subst}
use Rattle.std.specs.List.{AllZip}
use Rattle.pep508_url.specs.Vars.{Variables}
use Rattle.pep508_tree.specs.Meaning.{NodeRecord}
use Rattle.reqtable_candidates.specs.TextLines.{text_lines}
use Rattle.reqtable_requirements.specs.LineReading.{LineRecord}
use Rattle.reqtable_requirements.specs.Requirements.{IsErrorIn}
use Rattle.reqs_io.specs.Front.{AreAsTold}
use Rattle.reqs_json.specs.declared.format.Format.{Format}
use Rattle.pep508_environment.specs.Environment.{EnvironmentRecord}
use Rattle.reqs_io_faults.specs.declared.fault.Input.{Input}
use Rattle.reqs_io_faults.specs.declared.fault.Input.TheVariants.{First, Second}
use Rattle.reqs_io_faults.specs.declared.fault.RunFault.{RunFault}
use Rattle.reqs_io_faults.specs.declared.fault.RunFault.TheVariants.{Memory, Write}
use Rattle.reqs_io_faults.specs.declared.fault.Status.{Status}
use Rattle.reqs_io_faults.specs.declared.bounds.Bounds.{Bounds}
use Rattle.reqs_io_faults.specs.Faults.{IsPlain, IsOfTexts, IsExcess, Refuses, unbounded}
use Rattle.reqs_io_faults.specs.Inputs.{◌>>=◌, extras_of, lines_from, environment_from, environments_from}
use Rattle.reqs_io_faults.specs.Ends.{AreWithin, Answering, Refusing, Runs, EndsAs, of_input}
use Rattle.reqs_io_faults.specs.Within.{Bounded, PassesAt, RefusesOr}
use Rattle.reqs_io_faults.proofs.Steps.{refuses_texts, refuses_rest, texts_refused, bound_passed, answered}
use Rattle.reqs_io_faults.proofs.Unbounded.{ok_without, err_without}
use Rattle.reqs_answers.specs.declared.checks.Checked.{Checked}
use Rattle.reqs_answers.specs.declared.environments.Judged.{Judged}
use Rattle.reqs_answers.specs.Check.{AnswersText}
use Rattle.reqs_answers.specs.Matrix.{MatrixTexts, IsRead, IsOverLimitWithin, AnswersAll, WritesText, matrix_texts}
use Rattle.reqs_answers.specs.Matrix.{OutgrowsOrOver, PassesIn, MatrixAnswersWithin, MatrixRefusesWithin, MatrixPasses}
use Rattle.reqs_answers.specs.Matrix.{MatrixAnswersAs, MatrixRefuses, MatrixAnswersBy}
use Rattle.reqs_answers.specs.Texts.{ReadTexts, behind_lines, texts_of}

module _ (vars : Variables) (extras : List (List ℕ)) (x y z : List ℕ) (names : List (List ℕ))
    (said : List LineRecord) (e : extras_of extras ≡ Ok names) (l : lines_from vars First x ≡ Ok said) where
  pub whole_check : (strict : Bool) (format : Format) (result : Result Checked RunFault)
      → AnswersText IsPlain strict format result (behind_lines (environment_from Second 1) names said y z)
      → AnswersText (IsOfTexts vars First x) strict format result (texts_of (environment_from Second 1) vars extras x y z)
  unfolding texts_of
  whole_check strict format (Ok checked) h = rw (e, l) h
  whole_check strict format (Err fault) h =
      rw (e, l) (refuses_texts vars First x fault (behind_lines (environment_from Second 1) names said y z) h)

  module _ (bounds : Bounds) (nodes : List NodeRecord) (strict : Bool) (format : Format) (limit : ℕ) (Fits : Type 0) where
    pub whole_matrix : (result : Result Judged RunFault)
        → Bounded
        (λ judged. AnswersAll IsPlain strict format limit bounds.cases judged
        (behind_lines (environments_from Second) names said y z)) Fits
        (λ fault. IsRead (behind_lines (environments_from Second) names said y z)
        (λ read. OutgrowsOrOver bounds nodes limit read.lines fault)) result
        → Bounded
        (λ judged. AnswersAll (IsOfTexts vars First x) strict format limit bounds.cases judged
        (texts_of (environments_from Second) vars extras x y z)) Fits
        (PassesIn bounds nodes limit vars x (texts_of (environments_from Second) vars extras x y z)) result
    unfolding texts_of
    whole_matrix (Ok judged) h = rw (e, l) h
    whole_matrix (Err fault) (inl (inl h)) =
        rw (e, l) (inl (inl (refuses_texts vars First x fault (behind_lines (environments_from Second) names said y z) h)))
    whole_matrix (Err fault) (inl (inr h)) = rw (e, l) (inl (inr h))
    whole_matrix (Err fault) (inr h) = rw (e, l) (inr (inr h))

-- a list that is not read, or not within the bound on nodes
pub unread_within : (vars : Variables) (bounds : Bounds) (nodes : List NodeRecord) (limit : ℕ) (x : List ℕ) (fault : RunFault)
    (rest : List LineRecord → MatrixTexts)
    → Refuses (IsOfTexts vars First x) fault (lines_from vars First x) ⊎ PassesAt vars First bounds.nodes nodes x fault
    → (Refuses (IsOfTexts vars First x) fault (lines_from vars First x >>= rest)
    ⊎ IsRead (lines_from vars First x >>= rest) (λ read. IsOverLimitWithin limit bounds.cases read.lines fault))
    ⊎ PassesIn bounds nodes limit vars x (lines_from vars First x >>= rest) fault
unread_within vars bounds nodes limit x fault rest (inl h) =
    inl (inl (refuses_rest (IsOfTexts vars First x) fault (lines_from vars First x) rest h))
unread_within vars bounds nodes limit x fault rest (inr h) = inr (inl h)

-- what refuses all texts may be said of them
may_be_said : (vars : Variables) (list : Input) (bytes : List ℕ) (limit in_all : ℕ) (fault : RunFault) (texts : MatrixTexts)
    → Refuses (IsOfTexts vars list bytes) fault texts
    ⊎ IsRead texts (λ read. IsOverLimitWithin limit in_all read.lines fault)
    → IsOfTexts vars list bytes fault
may_be_said vars list bytes limit in_all fault texts (inl h) = h.0
may_be_said vars list bytes limit in_all fault texts (inr h) =
    let P : RunFault → Type 0 = λ f. IsOfTexts vars list bytes f in subst P (sym h.2.1) tt

-- a bound that was passed is an excess
over_excess : (bounds : Bounds) (nodes : List NodeRecord) (limit : ℕ) (lines : List LineRecord) (fault : RunFault)
    → OutgrowsOrOver bounds nodes limit lines fault → IsExcess fault
over_excess bounds nodes limit lines fault (inl h) = subst IsExcess (sym h.0) tt
over_excess bounds nodes limit lines fault (inr h) = subst IsExcess (sym h.1.0) tt

matrix_excess : (bounds : Bounds) (nodes : List NodeRecord) (limit : ℕ) (vars : Variables) (extras inputs : List (List ℕ))
    (fault : RunFault) → MatrixPasses bounds nodes limit vars extras inputs fault → IsExcess fault
matrix_excess bounds nodes limit vars extras inputs fault (inl h) = subst IsExcess (sym h.1) tt
matrix_excess bounds nodes limit vars extras inputs fault (inr h) = over_excess bounds nodes limit h.0.lines fault h.2

-- no table of what is read
pub not_tabled : (bounds : Bounds) (nodes : List NodeRecord) (limit : ℕ) (read : ReadTexts (List EnvironmentRecord))
    (texts : MatrixTexts) (fault : RunFault) → texts ≡ Ok read
    → ((fault ≡ Memory) ⊎ IsOverLimitWithin limit bounds.cases read.lines fault)
    ⊎ OutgrowsOrOver bounds nodes limit read.lines fault
    → (Refuses IsPlain fault texts ⊎ IsRead texts (λ read. IsOverLimitWithin limit bounds.cases read.lines fault))
    ⊎ IsRead texts (λ read. OutgrowsOrOver bounds nodes limit read.lines fault)
not_tabled bounds nodes limit read texts fault e (inl (inl m)) =
    let P : RunFault → Type 0 = λ f. Refuses IsPlain f texts in inl (inl (subst P (sym m) (tt, tt)))
not_tabled bounds nodes limit read texts fault e (inl (inr h)) = inl (inr (read, e, h))
not_tabled bounds nodes limit read texts fault e (inr h) = inr (read, e, h)

-- a command whose inputs are read, of which one is a list, and refused
module _ {W : Type 0} (Answers : Answering) (Refused : Refusing) (contents : W → Option (List ℕ))
    (old new : W) (told : List (Option (List ℕ))) (inputs : List (List ℕ))
    (are_told : AllZip AreAsTold told inputs) (within : AreWithin inputs) where
  pub list_refused : (vars : Variables) (list : Input) (bytes : List ℕ) (fault : RunFault)
      → IsOfTexts vars list bytes fault → Refused inputs fault
      → Runs Answers Refused told contents old new (Err fault)
  list_refused vars list bytes fault h r =
      texts_refused Answers Refused contents old new told inputs are_told within
      (λ input error. (input ≡ list) × IsErrorIn vars (text_lines bytes) error) fault h r

  -- or whose text was written
  pub text_written : (status : Status) (text : List ℕ) → Answers inputs status text → (result : Result Status RunFault)
      → WritesText contents old new text status result → Runs Answers Refused told contents old new result
  text_written status text h (Ok ended) w = answered Answers Refused contents old new told inputs are_told within status text h (Ok ended) w
  text_written status text h (Err fault) (inl w) = answered Answers Refused contents old new told inputs are_told within status text h (Err fault) w
  text_written status text h (Err fault) (inr w) =
      let P : RunFault → Type 0 = λ f. EndsAs Answers Refused inputs contents old new (Err f) in
      record { inputs = inputs; are_told = are_told; ends = subst P (sym w.0) tt }

-- nothing is written where the fault isn't the writer's
pub unwritten : {W : Type 0} (contents : W → Option (List ℕ)) (old new : W) (text : List ℕ) (status : Status)
    (result : Result Status RunFault) → WritesText contents old new text status result
    → IfErr result (λ fault. fault ≢ Write → new ≡ old)
unwritten contents old new text status (Ok ended) w = tt
unwritten contents old new text status (Err fault) (inl w) = λ other. absurd (other w.0)
unwritten contents old new text status (Err fault) (inr w) = λ other. w.1

-- `matrix` within bounds, whose inputs are read, and refused
module _ {W : Type 0} (contents : W → Option (List ℕ)) (old new : W) (told : List (Option (List ℕ)))
    (vars : Variables) (extras : List (List ℕ)) (format : Format) (bounds : Bounds) (nodes : List NodeRecord) (limit : ℕ) where
  pub within_refused : (strict : Bool) (inputs : List (List ℕ)) → AllZip AreAsTold told inputs → AreWithin inputs
      → (fault : RunFault)
      → MatrixRefusesWithin bounds limit vars extras inputs fault ⊎ MatrixPasses bounds nodes limit vars extras inputs fault
      → Runs (MatrixAnswersBy strict bounds nodes format limit vars extras)
      (RefusesOr (MatrixPasses bounds nodes limit vars extras) (MatrixRefusesWithin bounds limit vars extras)) told contents old
      new (Err fault)
  within_refused strict inputs are_told within fault (inl h) =
      list_refused (MatrixAnswersBy strict bounds nodes format limit vars extras)
      (RefusesOr (MatrixPasses bounds nodes limit vars extras) (MatrixRefusesWithin bounds limit vars extras)) contents old new
      told inputs are_told within vars First (of_input inputs First) fault
      (may_be_said vars First (of_input inputs First) limit bounds.cases fault (matrix_texts vars extras inputs) h) (inl h)
  within_refused strict inputs are_told within fault (inr h) =
      bound_passed (MatrixAnswersBy strict bounds nodes format limit vars extras)
      (RefusesOr (MatrixPasses bounds nodes limit vars extras) (MatrixRefusesWithin bounds limit vars extras)) contents old new
      told inputs are_told within fault (matrix_excess bounds nodes limit vars extras inputs fault h) (inr h)

  -- what is answered within bounds is answered without them
  wide_answers : (inputs : List (List ℕ)) (status : Status) (text : List ℕ)
      → MatrixAnswersWithin bounds nodes format limit vars extras inputs status text
      → MatrixAnswersAs format limit vars extras inputs status text
  wide_answers inputs status text h = (h.0, (h.1.0, h.1.1, h.1.2.0))

  -- and what is refused is refused, or passed a bound
  wide_refusals : (inputs : List (List ℕ)) (fault : RunFault)
      → MatrixRefusesWithin bounds limit vars extras inputs fault ⊎ MatrixPasses bounds nodes limit vars extras inputs fault
      → MatrixRefuses limit vars extras inputs fault ⊎ IsExcess fault
  wide_refusals inputs fault (inl (inl h)) = inl (inl h)
  wide_refusals inputs fault (inl (inr h)) = inl (inr (h.0, h.1, (h.2.0, h.2.1, h.2.2)))
  wide_refusals inputs fault (inr h) = inr (matrix_excess bounds nodes limit vars extras inputs fault h)

  pub matrix_ok : (status : Status)
      → Runs (MatrixAnswersWithin bounds nodes format limit vars extras)
      (RefusesOr (MatrixPasses bounds nodes limit vars extras) (MatrixRefusesWithin bounds limit vars extras)) told contents old
      new (Ok status)
      → Runs (MatrixAnswersAs format limit vars extras) (MatrixRefuses limit vars extras) told contents old new (Ok status)
  matrix_ok =
      ok_without (MatrixAnswersAs format limit vars extras) (MatrixAnswersWithin bounds nodes format limit vars extras)
      (MatrixRefuses limit vars extras)
      (RefusesOr (MatrixPasses bounds nodes limit vars extras) (MatrixRefusesWithin bounds limit vars extras)) told contents old
      new wide_answers wide_refusals

  pub matrix_err : (fault : RunFault)
      → Runs (MatrixAnswersWithin bounds nodes format limit vars extras)
      (RefusesOr (MatrixPasses bounds nodes limit vars extras) (MatrixRefusesWithin bounds limit vars extras)) told contents old
      new (Err fault)
      → Runs (MatrixAnswersAs format limit vars extras) (MatrixRefuses limit vars extras) told contents old new
      (Err (unbounded fault))
  matrix_err =
      err_without (MatrixAnswersAs format limit vars extras) (MatrixAnswersWithin bounds nodes format limit vars extras)
      (MatrixRefuses limit vars extras)
      (RefusesOr (MatrixPasses bounds nodes limit vars extras) (MatrixRefusesWithin bounds limit vars extras)) told contents old
      new wide_answers wide_refusals
