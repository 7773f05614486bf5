-- A command on readers of texts ends as on the texts.
use Rattle.std.proofs.Common.{◌≡◌, ◌∙◌, ◌++◌, ℕ, true, List, [], ◌∷◌, map, inl, Option, Some, Result, Ok, Err}
use Rattle.std.proofs.Common.{ap, arith, refl, sym, subst}
use Rattle.std.specs.Io.KnownBytes.{Appends}
use Rattle.std.specs.List.{AllZip}
use Rattle.std.specs.Str.{is_utf8}
use Rattle.pep508_url.specs.Vars.{Variables}
use Rattle.pep508_tree.specs.Meaning.{NodeRecord}
use Rattle.pep508_tree.specs.Nodes.{AreSound}
use Rattle.reqs_io.specs.Front.{AreAsTold}
use Rattle.reqs_io_faults.specs.declared.fault.RunFault.{RunFault}
use Rattle.reqs_io_faults.specs.declared.fault.RunFault.TheVariants as faults
use Rattle.reqs_io_faults.specs.declared.fault.Status.{Status}
use Rattle.reqs_io_faults.specs.declared.fault.Status.TheVariants as status
use Rattle.reqs_io_faults.specs.Ends.{Answering, Refusing, AreWithin, EndsAs, Runs}
use Rattle.reqs_io_faults.specs.Faults.{status_of}
use Rattle.reqs_c_reply.specs.Endings.{Ending, Answered, Different, Refused, OutOfMemory}
use Rattle.reqs_c_reply.specs.declared.place.Place.{Place}
use Rattle.reqs_c_reply.specs.Lines.{filled_lines}
use Rattle.reqs_c_markers.specs.Parts.{no_variables}
use Rattle.reqs_c_lists.specs.Refusals.{IsToldAt}
use Rattle.reqs_c_lists.specs.Commands.{RefusesInputs, CommandEnds, RefusesOfNodes, WithNodes, WithExtras, TellsRun}

-- readers that tell their texts have those
all_told : (inputs read : List (List ℕ)) → AllZip AreAsTold (map Some inputs) read → read ≡ inputs
all_told [] [] h = refl
all_told [] (bytes ∷ read) h = absurd h
all_told (input ∷ inputs) [] h = absurd h
all_told (input ∷ inputs) (bytes ∷ read) h =
    let first : bytes ≡ input = h.0 in
    let others : read ≡ inputs = all_told inputs read h.1 in (λ k. first k ∷ others k)

-- a writer that held nothing has what was written
is_written : (old new : Option (List ℕ)) (written text : List ℕ) → old ≡ Some [] → new ≡ Some written
    → Appends old new text → written ≡ text
is_written old new written text begins ends h =
    let from : Appends (Some []) new text = subst (λ (o : Option (List ℕ)). Appends o new text) begins h in
    subst (λ (o : Option (List ℕ)). Appends (Some []) o text) ends from

module _ (Answers : Answering) (Refuses : Refusing) (names : List (List ℕ)) (extras : ℕ) (inputs : List (List ℕ))
    {W : Type 0} (contents : W → Option (List ℕ)) (old new : W) where
  -- a fault that refuses inputs is one of them
  refused : (fault : RunFault) → status_of fault ≡ 2 → EndsAs Answers Refuses inputs contents old new (Err fault)
      → RefusesInputs Refuses inputs fault
  refused (faults.Read input) e h = absurd (omega arith)
  refused faults.Write e h = absurd (omega arith)
  refused faults.Memory e h = absurd (omega arith)
  refused (faults.TooLong input) e h = h
  refused fault e h = h

  module _ (written : List ℕ) (begins : contents old ≡ Some []) (ends : contents new ≡ Some written)
      (ran : Result Status RunFault) where
    answered : (ended : Status) (text : List ℕ) → EndsAs Answers Refuses inputs contents old new ran → ran ≡ Ok ended
        → text ≡ written → AreWithin inputs × Answers inputs ended text
    answered ended text h is same =
        let all = subst (EndsAs Answers Refuses inputs contents old new) is h in
        let wrote : written ≡ all.1.0 =
        is_written (contents old) (contents new) written all.1.0 begins ends all.1.2.0 in
        (all.0, subst (Answers inputs ended) (sym (same ∙ wrote)) all.1.1)

    by_ending : (ending : Ending) → EndsAs Answers Refuses inputs contents old new ran
        → TellsRun names extras ran written ending → CommandEnds Answers Refuses (IsToldAt names extras) inputs ending
    by_ending (Answered text) h t = answered status.Answered text h t.0 t.1
    by_ending (Different text) h t = answered status.Different text h t.0 t.1
    by_ending (Refused place message) h t =
        (t.0, refused t.0 t.2.refuses (subst (EndsAs Answers Refuses inputs contents old new) t.1 h), t.2)
    by_ending OutOfMemory h t = tt

    -- so a call ends that tells what the command returned
    pub at_hand : (ending : Ending) → Runs Answers Refuses (map Some inputs) contents old new ran
        → TellsRun names extras ran written ending → CommandEnds Answers Refuses (IsToldAt names extras) inputs ending
    at_hand ending runs t =
        let P : List (List ℕ) → Type 0 = λ all. EndsAs Answers Refuses all contents old new ran in
        by_ending ending (subst P (all_told inputs runs.inputs runs.are_told) runs.ends) t

-- with the nodes that it made
module _ (Answers : List NodeRecord → Answering) (Refuses : List NodeRecord → Refusing)
    (Tells : RunFault → Place → List ℕ → Type 0) (inputs : List (List ℕ)) (nodes : List NodeRecord)
    (sound : AreSound nodes) where
  refused_so : (fault : RunFault) → RefusesInputs (Refuses nodes) inputs fault
      → RefusesInputs (RefusesOfNodes Refuses) inputs fault
  refused_so (faults.TooLong input) h = h
  refused_so fault h = (h.0, (nodes, sound, h.1))

  pub of_nodes : (ending : Ending) → CommandEnds (Answers nodes) (Refuses nodes) Tells inputs ending
      → WithNodes Answers Refuses Tells inputs ending
  of_nodes (Answered text) h = (h.0, (nodes, sound, h.1))
  of_nodes (Different text) h = (h.0, (nodes, sound, h.1))
  of_nodes (Refused place message) h = (h.0, refused_so h.0 h.1, h.2)
  of_nodes OutOfMemory h = tt

-- with no variables, and the extras of an argument's lines
pub with_extras : (argument : ℕ) (Ends : Variables → List (List ℕ) → Ending → Type 0) (bytes : List ℕ) (vars : Variables)
    (lines : List (List ℕ)) (ending : Ending) → is_utf8 bytes ≡ true → vars ≡ no_variables → lines ≡ filled_lines bytes
    → Ends vars lines ending → WithExtras argument (Ends no_variables) bytes ending
with_extras argument Ends bytes vars lines ending e none is h =
    let alone = subst (λ (v : Variables). Ends v lines ending) none h in
    inl (e, subst (λ (l : List (List ℕ)). Ends no_variables l ending) is alone)
