-- What is given for lists that are read is what is answered on their texts.
use Rattle.std.proofs.Common.{◌≡◌, ◌⊎◌, inl, inr, ℕ, List, [], ◌∷◌, Result, Ok, Err, refl, ap, ◌∙◌, sym, subst}
use Rattle.pep508_url.specs.Vars.{Variables}
use Rattle.reqtable_requirements.specs.LineReading.{LineRecord}
use Rattle.pep508_tree.specs.Meaning.{NodeRecord}
use Rattle.reqs_io_faults.specs.declared.fault.Input.{Input}
use Rattle.reqs_io_faults.specs.declared.fault.Input.TheVariants.{First, Second}
use Rattle.reqs_io_faults.specs.Ends.{of_input}
use Rattle.reqs_io_faults.specs.Within.{Bounded, PassesAt}
use Rattle.reqs_io_faults.specs.declared.fault.RunFault.{RunFault}
use Rattle.reqs_io_faults.specs.declared.fault.RunFault.TheVariants.{Memory, Requirement}
use Rattle.reqs_io_faults.specs.Faults.{Cause, Refuses, IsOfTexts}
use Rattle.reqs_io_faults.specs.Inputs.{◌>>=◌, lines_from}
use Rattle.reqs_io_faults.proofs.Steps.{refuses_rest}
use Rattle.reqtable_candidates.specs.TextLines.{text_lines}
use Rattle.reqtable_requirements.specs.Requirements.{IsErrorIn}
use Rattle.reqtable_requirements.specs.declared.requirements.RequirementsError.TheVariants as errors
use Rattle.reqs_lists.specs.declared.answer.Answer.{Answer}
use Rattle.reqs_lists.specs.Lists.{one_list, two_lists, with_right, Answered, Refused, Gives, AnswersLists}
use Rattle.reqs_lists.specs.Lists.{IsOfLists, RefusesLists, PassesInFirst, PassesInEither}

-- what is given for what lists are read as
pub given : {A : Type 0} (IsOne : RunFault → Type 0) (memory : IsOne Memory) (Answers : Answered A)
    (Declines : Refused A) (lists : Result A Cause) (read : A) → lists ≡ Ok read
    → (result : Result Answer RunFault) → Gives Answers Declines read result
    → AnswersLists IsOne Answers Declines lists result
given IsOne memory Answers Declines lists read e (Ok answer) h = (read, e, h)
given IsOne memory Answers Declines lists read e (Err fault) (inl m) =
    let P : RunFault → Type 0 = λ f. Refuses IsOne f lists in inl (subst P (sym m) (memory, tt))
given IsOne memory Answers Declines lists read e (Err fault) (inr h) = inr (read, e, h)

-- and so within bounds, of which others hold then
pub given_within : {A : Type 0} (IsOne : RunFault → Type 0) (memory : IsOne Memory) (Answers : Answered A)
    (Declines : Refused A) (lists : Result A Cause) (read : A) → lists ≡ Ok read → (Fits Fit : Type 0) → (Fits → Fit)
    → (Passes Passed : RunFault → Type 0) → ((fault : RunFault) → Passes fault → Passed fault)
    → (result : Result Answer RunFault) → Bounded (Gives Answers Declines read) Fits Passes result
    → Bounded (AnswersLists IsOne Answers Declines lists) Fit Passed result
given_within IsOne memory Answers Declines lists read e Fits Fit fit Passes Passed pass (Ok answer) h =
    ((read, e, h.0), fit h.1)
given_within IsOne memory Answers Declines lists read e Fits Fit fit Passes Passed pass (Err fault) (inl h) =
    inl (given IsOne memory Answers Declines lists read e (Err fault) h)
given_within IsOne memory Answers Declines lists read e Fits Fit fit Passes Passed pass (Err fault) (inr h) =
    inr (pass fault h)

-- a fault of one list's text is one of texts that are lists
of_texts : (vars : Variables) (inputs : List (List ℕ)) (list : Input) (bytes : List ℕ) (fault : RunFault)
    → of_input inputs list ≡ bytes → IsOfTexts vars list bytes fault → IsOfLists vars inputs fault
of_texts vars inputs list bytes (Requirement input number error) e h =
    let P : List ℕ → Type 0 = λ bs. IsErrorIn vars (text_lines bs) (errors.Line number error) in
    subst P (sym e ∙ ap (of_input inputs) (sym h.0)) h.1
of_texts vars inputs list bytes fault e h = h

-- a list that is not parsed within the bound
pub one_passes : (vars : Variables) (bytes : List ℕ) (Declines : Refused (List LineRecord)) (most : ℕ)
    (nodes : List NodeRecord) (fault : RunFault)
    → Refuses (IsOfTexts vars First bytes) fault (lines_from vars First bytes)
    ⊎ PassesAt vars First most nodes bytes fault
    → RefusesLists (IsOfLists vars (bytes ∷ [])) Declines (lines_from vars First bytes) fault
    ⊎ PassesInFirst vars most nodes (bytes ∷ []) fault
one_passes vars bytes Declines most nodes fault (inl h) =
    inl (inl (of_texts vars (bytes ∷ []) First bytes fault refl h.0, h.1))
one_passes vars bytes Declines most nodes fault (inr h) = inr h

module _ (vars : Variables) (left right : List ℕ) (Declines : Refused (List LineRecord × List LineRecord)) (most : ℕ)
    (nodes : List NodeRecord) (fault : RunFault) where
  pub left_passes : Refuses (IsOfTexts vars First left) fault (lines_from vars First left)
      ⊎ PassesAt vars First most nodes left fault
      → RefusesLists (IsOfLists vars (left ∷ right ∷ [])) Declines (two_lists vars (left ∷ right ∷ [])) fault
      ⊎ PassesInEither vars most nodes (left ∷ right ∷ []) fault
  left_passes (inl h) =
      inl (inl (
        of_texts vars (left ∷ right ∷ []) First left fault refl h.0,
        (refuses_rest (IsOfTexts vars First left) fault (lines_from vars First left) (with_right vars right) h).1,
      ))
  left_passes (inr h) = inr (inl h)

  pub right_passes : (said : List LineRecord) → lines_from vars First left ≡ Ok said
      → Refuses (IsOfTexts vars Second right) fault (lines_from vars Second right)
      ⊎ PassesAt vars Second most nodes right fault
      → RefusesLists (IsOfLists vars (left ∷ right ∷ [])) Declines (two_lists vars (left ∷ right ∷ [])) fault
      ⊎ PassesInEither vars most nodes (left ∷ right ∷ []) fault
  right_passes said e (inl h) =
      let P : Result (List LineRecord) Cause → Type 0 =
      λ first. Refuses (IsOfTexts vars Second right) fault (first >>= with_right vars right) in
      let rest = refuses_rest (IsOfTexts vars Second right) fault (lines_from vars Second right)
      (λ lines. Ok (said, lines)) h in
      inl (inl (of_texts vars (left ∷ right ∷ []) Second right fault refl h.0, (subst P (sym e) rest).1))
  right_passes said e (inr h) = inr (inr (said, e, h))

-- a bound that was passed is that one or another
pub wider : {A B C : Type 0} → A ⊎ B → A ⊎ (B ⊎ C)
wider (inl a) = inl a
wider (inr b) = inr (inl b)

-- two lists that are read
pub two_read : (vars : Variables) (left right : List ℕ) (said others : List LineRecord)
    → lines_from vars First left ≡ Ok said → lines_from vars Second right ≡ Ok others
    → two_lists vars (left ∷ right ∷ []) ≡ Ok (said, others)
two_read vars left right said others l r = rw (l, r) refl

-- lists are read as one thing
pub read_once : {A : Type 0} (lists : Result A Cause) (one other : A) → lists ≡ Ok one → lists ≡ Ok other
    → one ≡ other
read_once lists one other e f = cc
