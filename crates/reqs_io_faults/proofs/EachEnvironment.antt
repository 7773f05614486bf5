-- Environments that are read one after another.
use Rattle.std.proofs.Common.{◌≡◌, ◌∙◌, ◌<◌, ◌≤◌, ◌+◌, ◌++◌, ◌∷◌, [], ℕ, suc, List, length, map, drop, get_or}
use Rattle.std.proofs.Common.{Option, Some, None, Result, Ok, Err, refl, sym, ap, append_assoc, add-one}
use Rattle.std.proofs.Common.{drop-cons}
use Rattle.std.proofs.lemmas.List.{drop_all}
use Rattle.serde_json.specs.Data.{Data}
use Rattle.serde_json.specs.View.{items_of}
use Rattle.read_outcome.specs.Outcome.{Tells}
use Rattle.pep508_environment.specs.Environment.{EnvironmentRecord}
use Rattle.reqtable_candidates.specs.TextLines.{with_first}
use Rattle.reqs_io_faults.specs.declared.fault.Input.{Input}
use Rattle.reqs_io_faults.specs.declared.fault.RunFault.{RunFault}
use Rattle.reqs_io_faults.specs.Faults.{Cause, told_run, IsPlain, Refuses}
use Rattle.reqs_io_faults.specs.Inputs.{listed, environment_in, environments_of}

-- the values of a list are those that were listed
pub listed_is : (values : List Data) → listed (items_of values) ≡ values
listed_is [] = refl
listed_is (value ∷ values) = ap (λ l. value ∷ l) (listed_is values)

-- those that are read before others
abbrev pub behind : {A E : Type 0} → List A → Result (List A) E → Result (List A) E
behind xs (Ok ys) = Ok (xs ++ ys)
behind xs (Err cause) = Err cause

one_behind : {A E : Type 0} (xs : List A) (x : A) (rest : Result (List A) E)
    → behind xs (with_first (Ok x) rest) ≡ behind (xs ++ x ∷ []) rest
one_behind xs x (Ok ys) = ap Ok (sym (append_assoc xs (x ∷ []) ys))
one_behind xs x (Err cause) = refl

module _ {V : Type 0} (view : V → Data) (input : Input) (values : List V) (i : ℕ) (names : List EnvironmentRecord)
    (all : Result (List EnvironmentRecord) Cause)
    (so_far : behind names (environments_of input (i + 1) (map view (drop i values))) ≡ all) where
  -- those that follow the first `place` values, numbered from `number` on
  later : ℕ → ℕ → Result (List EnvironmentRecord) Cause
  later number place = environments_of input number (map view (drop place values))

  module _ (x : V) (below : i < length values) (is : x ≡ get_or values i x) where
    next : behind names (with_first (environment_in input (i + 1) (Some (view x))) (later (i + 1 + 1) (i + 1))) ≡ all
    unfolding later
    next =
        let first : V → Result EnvironmentRecord Cause = λ v. environment_in input (i + 1) (Some (view v)) in
        ap (λ v. behind names (with_first (first v) (later (i + 1 + 1) (i + 1)))) is
        ∙ ap (λ n. behind names (with_first (first (get_or values i x)) (later n (i + 1)))) (add-one (i + 1))
        ∙ ap (λ k. behind names (with_first (first (get_or values i x)) (later (suc (i + 1)) k))) (add-one i)
        ∙ ap (λ left. behind names (environments_of input (i + 1) (map view left))) (sym (drop-cons values i x below))
        ∙ so_far

    -- one more is read
    pub one_more : (name : EnvironmentRecord) → environment_in input (i + 1) (Some (view x)) ≡ Ok name
        → behind (names ++ name ∷ []) (environments_of input (i + 1 + 1) (map view (drop (i + 1) values))) ≡ all
    unfolding later
    one_more name e =
        sym (one_behind names name (later (i + 1 + 1) (i + 1)))
        ∙ sym (ap (λ r. behind names (with_first r (later (i + 1 + 1) (i + 1)))) e) ∙ next
