-- Steps of a command: a fault of a step is that of the whole, and how a command ends where an input is not
-- read.
use Rattle.std.proofs.Common.{◌≡◌, ◌<◌, ℕ, List, [], ◌∷◌, map, take, length, ap, refl, sym, subst}
use Rattle.std.proofs.Common.{Option, Some, None, Result, Ok, Err}
use Rattle.std.specs.List.{AllZip}
use Rattle.read_outcome.specs.Outcome.{Tells}
use Rattle.pep508_url.specs.Vars.{Variables}
use Rattle.reqs_io.specs.Front.{AreAsTold}
use Rattle.reqtable_candidates.specs.declared.candidates.CandidatesError.{CandidatesError}
use Rattle.reqtable_candidates.specs.declared.candidates.CandidatesError.TheVariants as candidates
use Rattle.reqtable_candidates.specs.Candidates.{told_candidates}
use Rattle.reqtable_requirements.specs.LineReading.{LinesFault}
use Rattle.reqtable_requirements.specs.Requirements.{told_requirements, IsErrorIn}
use Rattle.reqtable_requirements.specs.declared.requirements.RequirementsError.{RequirementsError}
use Rattle.reqtable_requirements.specs.declared.requirements.RequirementsError.TheVariants as requirements
use Rattle.reqtable_candidates.specs.TextLines.{text_lines}
use Rattle.reqs_io_faults.specs.declared.fault.RunFault.{RunFault}
use Rattle.reqs_io_faults.specs.declared.fault.RunFault.TheVariants.{Read, Write, Memory, TooLong, Requirement}
use Rattle.reqs_io_faults.specs.declared.fault.RunFault.TheVariants.{TooMany}
use Rattle.reqs_io_faults.specs.declared.fault.Input.{Input}
use Rattle.reqs_io_faults.specs.declared.fault.Input.TheVariants.{First, Second, Third}
use Rattle.reqs_io_faults.specs.declared.fault.Status.{Status}
use Rattle.reqs_io_faults.specs.Faults.{Cause, Says, told_run, of_requirements, of_candidates, requirements_cause}
use Rattle.reqs_io_faults.specs.Faults.{Refuses, IsOfInputs, IsExcess, IsPlain, IsOfTexts}
use Rattle.reqs_io_faults.specs.Inputs.{◌>>=◌, with_cause, IsWithin, ReadsInput, input_limit}
use Rattle.reqs_io_faults.specs.Ends.{Answering, Refusing, AreWithin, place_of, of_input, EndsAs, Runs}
use Rattle.reqs_io_faults.specs.Ends.{WritesAnswer}
use Rattle.reqs_io_faults.proofs.Reading.{some_bytes, as_told}

-- a step's fault is that of all that follows
tells_rest : {A B : Type 0} (told : Option Cause) (step : Result A Cause) (rest : A → Result B Cause)
    → Tells told step → Tells told (step >>= rest)
tells_rest None step rest h = tt
tells_rest (Some cause) step rest h = ap (λ r. r >>= rest) h

pub refuses_rest : {A B : Type 0} (IsOne : RunFault → Type 0) (fault : RunFault) (step : Result A Cause)
    (rest : A → Result B Cause) → Refuses IsOne fault step → Refuses IsOne fault (step >>= rest)
refuses_rest IsOne fault step rest h = (h.0, tells_rest (told_run fault) step rest h.1)

-- a fault of a list is one of the command
pub requirements_refuse : {A : Type 0} (vars : Variables) (input : Input) (bytes : List ℕ)
    (error : RequirementsError) (reading : Result A LinesFault) → Tells (told_requirements error) reading
    → IsErrorIn vars (text_lines bytes) error
    → Refuses (IsOfTexts vars input bytes) (of_requirements input error)
    (with_cause (requirements_cause input) reading)
requirements_refuse vars input bytes (requirements.NotText offset) reading h said =
    (tt, ap (with_cause (requirements_cause input)) h)
requirements_refuse vars input bytes (requirements.Line number error) reading h said =
    ((refl, said), ap (with_cause (requirements_cause input)) h)
requirements_refuse vars input bytes (requirements.NumberAtEnd number) reading h said =
    (tt, ap (with_cause (requirements_cause input)) h)
requirements_refuse vars input bytes (requirements.TooManyNodes number most) reading h said = absurd said
requirements_refuse vars input bytes requirements.Memory reading h said = (tt, tt)

is_of_texts : (vars : Variables) (list : Input) (bytes : List ℕ) (fault : RunFault) → IsPlain fault
    → IsOfTexts vars list bytes fault
is_of_texts vars list bytes (Requirement input number error) h = absurd h
is_of_texts vars list bytes fault h = h

-- what refuses another text than a list of requirements
pub refuses_texts : {A : Type 0} (vars : Variables) (list : Input) (bytes : List ℕ) (fault : RunFault)
    (reading : Result A Cause) → Refuses IsPlain fault reading
    → Refuses (IsOfTexts vars list bytes) fault reading
refuses_texts vars list bytes fault reading h = (is_of_texts vars list bytes fault h.0, h.1)

pub candidates_refuse : {A : Type 0} (input : Input) (error : CandidatesError)
    (reading : Result A CandidatesError) → Tells (told_candidates error) reading
    → Refuses IsPlain (of_candidates input error) (with_cause (λ e. Says (of_candidates input e)) reading)
candidates_refuse input (candidates.NotText offset) reading h =
    (tt, ap (with_cause (λ e. Says (of_candidates input e))) h)
candidates_refuse input (candidates.Line number cause) reading h =
    (tt, ap (with_cause (λ e. Says (of_candidates input e))) h)
candidates_refuse input candidates.Memory reading h = (tt, tt)

-- inputs that readers may have
all_told : (told : List (Option (List ℕ))) → AllZip AreAsTold told (map some_bytes told)
all_told [] = tt
all_told (a ∷ told) = (as_told a, all_told told)

module _ {W : Type 0} (Answers : Answering) (Refused : Refusing) (contents : W → Option (List ℕ))
    (old new : W) where
  -- where an input is not read, the command ends so for some bytes of it, whatever inputs follow it
  pub unread : {X : Type 0} (view : X → List ℕ) (input : Input) (told : Option (List ℕ)) (fault : RunFault)
      → ReadsInput input view told (Err fault) → (inputs : List ℕ → List (List ℕ))
      → ((bytes : List ℕ) → AreWithin (take (place_of input) (inputs bytes)))
      → ((bytes : List ℕ) → of_input (inputs bytes) input ≡ bytes)
      → (bytes : List ℕ) × AreAsTold told bytes
      × EndsAs Answers Refused (inputs bytes) contents old new (Err fault)
  unread view input told (Read failed) h inputs before there =
      let bytes = some_bytes told in
      let P : Input → Type 0 = λ i. AreWithin (take (place_of i) (inputs bytes)) in
      (bytes, as_told told, subst P (sym h) (before bytes))
  unread view input told (TooLong long) h inputs before there =
      let bytes = h.1.0 in
      let P : Input → Type 0 =
      λ i. AreWithin (take (place_of i) (inputs bytes)) × (input_limit < length (of_input (inputs bytes) i)) in
      let Q : List ℕ → Type 0 = λ b. input_limit < length b in
      (bytes, h.1.1, subst P (sym h.0) (before bytes, subst Q (sym (there bytes)) h.1.2))
  unread view input told Memory h inputs before there = (some_bytes told, as_told told, tt)
  unread view input told fault h inputs before there = absurd h

  -- a fault of the texts ends it so
  refused : (MaySay : Input → RequirementsError → Type 0) (inputs : List (List ℕ)) (fault : RunFault)
      → IsOfInputs MaySay fault → AreWithin inputs → Refused inputs fault
      → EndsAs Answers Refused inputs contents old new (Err fault)
  refused MaySay inputs (Read input) h within r = absurd h
  refused MaySay inputs (TooLong input) h within r = absurd h
  refused MaySay inputs Write h within r = absurd h
  refused MaySay inputs Memory h within r = tt
  refused MaySay inputs (TooMany excess) h within r = absurd h
  refused MaySay inputs fault h within r = (within, r)

  -- a command of which one input is not read, whatever inputs follow it
  module _ (a : Option (List ℕ)) (others : List (Option (List ℕ))) where
    pub first_unread : {X : Type 0} (view : X → List ℕ) (fault : RunFault)
        → ReadsInput First view a (Err fault)
        → Runs Answers Refused (a ∷ others) contents old new (Err fault)
    first_unread view fault h =
        let rest = map some_bytes others in
        let e = unread view First a fault h (λ x. x ∷ rest) (λ x. tt) (λ x. refl) in
        record { inputs = e.0 ∷ rest; are_told = (e.1, all_told others); ends = e.2 }

  module _ (a b : Option (List ℕ)) (others : List (Option (List ℕ))) (first : List ℕ)
      (read_first : AreAsTold a first × IsWithin first) where
    pub second_unread : {X : Type 0} (view : X → List ℕ) (fault : RunFault)
        → ReadsInput Second view b (Err fault)
        → Runs Answers Refused (a ∷ b ∷ others) contents old new (Err fault)
    second_unread view fault h =
        let rest = map some_bytes others in
        let e = unread view Second b fault h (λ x. first ∷ x ∷ rest) (λ x. (read_first.1, tt)) (λ x. refl) in
        record { inputs = first ∷ e.0 ∷ rest; are_told = (read_first.0, (e.1, all_told others)); ends = e.2 }

  module _ (a b z : Option (List ℕ)) (others : List (Option (List ℕ))) (first : List ℕ)
      (read_first : AreAsTold a first × IsWithin first) (second : List ℕ)
      (read_second : AreAsTold b second × IsWithin second) where
    pub third_unread : {X : Type 0} (view : X → List ℕ) (fault : RunFault)
        → ReadsInput Third view z (Err fault)
        → Runs Answers Refused (a ∷ b ∷ z ∷ others) contents old new (Err fault)
    third_unread view fault h =
        let rest = map some_bytes others in
        let within : AreWithin (first ∷ second ∷ []) = (read_first.1, (read_second.1, tt)) in
        let e = unread view Third z fault h (λ x. first ∷ second ∷ x ∷ rest) (λ x. within) (λ x. refl) in
        record {
          inputs = first ∷ second ∷ e.0 ∷ rest;
          are_told = (read_first.0, (read_second.0, (e.1, all_told others)));
          ends = e.2;
        }

  -- a command whose inputs are all read
  module _ (told : List (Option (List ℕ))) (inputs : List (List ℕ)) (are_told : AllZip AreAsTold told inputs)
      (within : AreWithin inputs) where
    -- and refused
    pub texts_refused : (MaySay : Input → RequirementsError → Type 0) (fault : RunFault)
        → IsOfInputs MaySay fault → Refused inputs fault
        → Runs Answers Refused told contents old new (Err fault)
    texts_refused MaySay fault h r =
        record { inputs = inputs; are_told = are_told; ends = refused MaySay inputs fault h within r }

    -- by a bound that was passed
    pub bound_passed : (fault : RunFault) → IsExcess fault → Refused inputs fault
        → Runs Answers Refused told contents old new (Err fault)
    bound_passed (TooMany excess) h r =
        record { inputs = inputs; are_told = are_told; ends = (within, r) }
    bound_passed fault h r = absurd h

    -- or answered
    pub answered : (status : Status) (text : List ℕ) → Answers inputs status text
        → (result : Result Status RunFault) → WritesAnswer contents old new text status result
        → Runs Answers Refused told contents old new result
    answered status text h (Ok ended) w =
        let P : Status → Type 0 = λ s. Answers inputs s text in
        record { inputs = inputs; are_told = are_told; ends = (within, (text, subst P (sym w.0) h, w.1)) }
    answered status text h (Err fault) w =
        let P : RunFault → Type 0 = λ f. EndsAs Answers Refused inputs contents old new (Err f) in
        record { inputs = inputs; are_told = are_told; ends = subst P (sym w.0) (within, (status, text, h, w.1)) }
