-- Lines that are read as names, one after another.
use Rattle.std.proofs.Common.{◌≡◌, ◌<◌, ◌+◌, ◌++◌, ◌∷◌, [], ℕ, List, length, map, take, drop, suc, get_or}
use Rattle.std.proofs.Common.{Option, Some, None, Result, Ok, Err, refl, sym, ap, subst, ◌∙◌}
use Rattle.std.proofs.lemmas.List.{map_more, map-append, take-append-drop}
use Rattle.std.proofs.Math.Seq.{drop-cons}
use Rattle.read_outcome.specs.Outcome.{Tells}
use Rattle.pep508_name.specs.Name.{name_reading}
use Rattle.reqtable_candidates.specs.TextLines.{with_first}
use Rattle.reqs_c_algebra.specs.Arguments.{names_of}

-- where all are read, so is the first
after : (first : Result (List ℕ) (List ℕ)) (others : Result (List (List ℕ)) (List ℕ)) (names : List (List ℕ))
    → with_first first others ≡ Ok names
    → (name : List ℕ) × (rest : List (List ℕ)) × (first ≡ Ok name) × (others ≡ Ok rest) × (name ∷ rest ≡ names)
after (Ok name) (Ok rest) names h = (name, rest, refl, refl, cc)
after (Ok name) (Err line) names h = absurd (cc)
after (Err line) others names h = absurd (cc)

none_read : (names : List (List ℕ)) → names_of [] ≡ Ok names → [] ≡ names
none_read names h = cc

more : (lines names : List (List ℕ)) (line name : List ℕ) → names_of lines ≡ Ok names → name_reading line ≡ Ok name
    → names_of (lines ++ line ∷ []) ≡ Ok (names ++ name ∷ [])
more [] names line name h e =
    let P : List (List ℕ) → Type 0 = λ l. with_first (name_reading line) (Ok []) ≡ Ok (l ++ name ∷ []) in
    subst P (none_read names h) (ap (λ r. with_first r (Ok [])) e)
more (first ∷ lines) names line name h e =
    let a = after (name_reading first) (names_of lines) names h in
    let P : List (List ℕ) → Type 0 = λ l. names_of (first ∷ lines ++ line ∷ []) ≡ Ok (l ++ name ∷ []) in
    subst P a.4 (ap (λ r. with_first r (names_of (lines ++ line ∷ []))) a.2
    ∙ ap (λ r. with_first (Ok a.0) r) (more lines a.1 line name a.3 e))

stop : (lines names : List (List ℕ)) (line : List ℕ) (rest : List (List ℕ)) (text : List ℕ)
    → names_of lines ≡ Ok names → name_reading line ≡ Err text → names_of (lines ++ line ∷ rest) ≡ Err text
stop [] names line rest text h e = ap (λ r. with_first r (names_of rest)) e
stop (first ∷ lines) names line rest text h e =
    let a = after (name_reading first) (names_of lines) names h in
    ap (λ r. with_first r (names_of (lines ++ line ∷ rest))) a.2
    ∙ ap (λ r. with_first (Ok a.0) r) (stop lines a.1 line rest text a.3 e)

stop_told : (told : Option (List ℕ)) (lines names : List (List ℕ)) (line : List ℕ) (rest : List (List ℕ))
    → names_of lines ≡ Ok names → Tells told (name_reading line) → Tells told (names_of (lines ++ line ∷ rest))
stop_told None lines names line rest h t = tt
stop_told (Some text) lines names line rest h t = stop lines names line rest text h t

module _ {A : Type 0} (f : A → List ℕ) (lines : List A) (i : ℕ) (d : A) (below : i < length lines) (names : List (List ℕ))
    (read : names_of (map f (take i lines)) ≡ Ok names) where
  -- one more line is read
  pub one_more : (name : List ℕ) → name_reading (f (get_or lines i d)) ≡ Ok name
      → names_of (map f (take (i + 1) lines)) ≡ Ok (names ++ name ∷ [])
  one_more name e =
      ap names_of (map_more f lines i d below) ∙ more (map f (take i lines)) names (f (get_or lines i d)) name read e

  -- the next one is refused
  pub refused : (told : Option (List ℕ)) → Tells told (name_reading (f (get_or lines i d)))
      → Tells told (names_of (map f lines))
  refused told h =
      let split : lines ≡ take i lines ++ (get_or lines i d ∷ drop (suc i) lines) =
      sym (take-append-drop i lines) ∙ ap (λ l. take i lines ++ l) (drop-cons lines i d below) in
      let mapped : map f lines ≡ map f (take i lines) ++ (f (get_or lines i d) ∷ map f (drop (suc i) lines)) =
      ap (map f) split ∙ map-append f (take i lines) (get_or lines i d ∷ drop (suc i) lines) in
      subst (λ all. Tells told (names_of all)) (sym mapped)
      (stop_told told (map f (take i lines)) names (f (get_or lines i d)) (map f (drop (suc i) lines)) read h)
