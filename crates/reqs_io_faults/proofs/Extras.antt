-- Extras that are read one after another.
use Rattle.std.proofs.Common.{◌≡◌, ◌<◌, ◌+◌, ◌++◌, ◌∷◌, [], ℕ, List, length, map, take, drop, suc, get_or}
use Rattle.std.proofs.Common.{Option, Some, None, Result, Ok, Err, refl, sym, ap, subst, ◌∙◌}
use Rattle.std.proofs.lemmas.List.{map_more, map-append, take-append-drop}
use Rattle.std.proofs.Math.Seq.{drop-cons}
use Rattle.read_outcome.specs.Outcome.{Tells}
use Rattle.reqtable_candidates.specs.TextLines.{with_first}
use Rattle.reqs_io_faults.specs.declared.fault.RunFault.{RunFault}
use Rattle.reqs_io_faults.specs.Faults.{Cause, told_run, IsPlain, Refuses}
use Rattle.reqs_io_faults.specs.Inputs.{extra_of, extras_of}

-- where all are read, so is the first
after : (first : Result (List ℕ) Cause) (others : Result (List (List ℕ)) Cause) (names : List (List ℕ))
    → with_first first others ≡ Ok names
    → (name : List ℕ) × (rest : List (List ℕ)) × (first ≡ Ok name) × (others ≡ Ok rest) × (name ∷ rest ≡ names)
after (Ok name) (Ok rest) names h = (name, rest, refl, refl, cc)
after (Ok name) (Err cause) names h = absurd (cc)
after (Err cause) others names h = absurd (cc)

none_read : (names : List (List ℕ)) → extras_of [] ≡ Ok names → [] ≡ names
none_read names h = cc

more : (texts names : List (List ℕ)) (text name : List ℕ) → extras_of texts ≡ Ok names → extra_of text ≡ Ok name
    → extras_of (texts ++ text ∷ []) ≡ Ok (names ++ name ∷ [])
more [] names text name h e =
    let P : List (List ℕ) → Type 0 = λ l. with_first (extra_of text) (Ok []) ≡ Ok (l ++ name ∷ []) in
    subst P (none_read names h) (ap (λ r. with_first r (Ok [])) e)
more (first ∷ texts) names text name h e =
    let a = after (extra_of first) (extras_of texts) names h in
    let P : List (List ℕ) → Type 0 = λ l. extras_of (first ∷ texts ++ text ∷ []) ≡ Ok (l ++ name ∷ []) in
    subst P a.4 (ap (λ r. with_first r (extras_of (texts ++ text ∷ []))) a.2
    ∙ ap (λ r. with_first (Ok a.0) r) (more texts a.1 text name a.3 e))

stop : (texts names : List (List ℕ)) (text : List ℕ) (rest : List (List ℕ)) (cause : Cause)
    → extras_of texts ≡ Ok names → extra_of text ≡ Err cause → extras_of (texts ++ text ∷ rest) ≡ Err cause
stop [] names text rest cause h e = ap (λ r. with_first r (extras_of rest)) e
stop (first ∷ texts) names text rest cause h e =
    let a = after (extra_of first) (extras_of texts) names h in
    ap (λ r. with_first r (extras_of (texts ++ text ∷ rest))) a.2
    ∙ ap (λ r. with_first (Ok a.0) r) (stop texts a.1 text rest cause a.3 e)

stop_told : (told : Option Cause) (texts names : List (List ℕ)) (text : List ℕ) (rest : List (List ℕ))
    → extras_of texts ≡ Ok names → Tells told (extra_of text) → Tells told (extras_of (texts ++ text ∷ rest))
stop_told None texts names text rest h t = tt
stop_told (Some cause) texts names text rest h t = stop texts names text rest cause h t

module _ {A : Type 0} (f : A → List ℕ) (words : List A) (i : ℕ) (d : A) (below : i < length words) (names : List (List ℕ))
    (read : extras_of (map f (take i words)) ≡ Ok names) where
  -- one more extra is read
  pub one_more : (name : List ℕ) → extra_of (f (get_or words i d)) ≡ Ok name
      → extras_of (map f (take (i + 1) words)) ≡ Ok (names ++ name ∷ [])
  one_more name e =
      ap extras_of (map_more f words i d below) ∙ more (map f (take i words)) names (f (get_or words i d)) name read e

  -- the next one is refused
  pub refused : (fault : RunFault) → Refuses IsPlain fault (extra_of (f (get_or words i d)))
      → Refuses IsPlain fault (extras_of (map f words))
  refused fault h =
      let split : words ≡ take i words ++ (get_or words i d ∷ drop (suc i) words) = sym (take-append-drop i words) ∙ ap (λ l. take i words ++ l) (drop-cons words i d below) in
      let mapped : map f words ≡ map f (take i words) ++ (f (get_or words i d) ∷ map f (drop (suc i) words)) =
      ap (map f) split ∙ map-append f (take i words) (get_or words i d ∷ drop (suc i) words) in
      let P : List (List ℕ) → Type 0 = λ all. Tells (told_run fault) (extras_of all) in (
        h.0,
        subst P (sym mapped) (stop_told (told_run fault) (map f (take i words)) names (f (get_or words i d)) (map f (drop (suc i) words)) read h.1),
      )
