-- The first candidate that may be taken, and how many specifiers are asked up to it.
use Rattle.std.proofs.Common.{◌≡◌, ◌∙◌, ◌≤◌, ◌<◌, ◌+◌, ◌&&◌, ℕ, zero, suc, Bool, true, false, cond, List, []}
use Rattle.std.proofs.Common.{◌∷◌, ◌++◌, map, take, length, get_or, find, Option, Some, None, refl, sym, ap}
use Rattle.std.proofs.Common.{subst, arith}
use Rattle.std.proofs.lemmas.List.{take_more, map-append}
use Rattle.std.proofs.lemmas.List.Folds.{find-append}
use Rattle.std.specs.List.{list_all, AllByRecursion, AllWithin}
use Rattle.std.specs.Option.{option_or}
use Rattle.version_ranges.specs.Point.{Point, At}
use Rattle.pep440_version.specs.Record.{VersionRecord}
use Rattle.pep440_range.specs.Agreement.{IsSaid}
use Rattle.pep508_requirement_text.specs.FrontReading.{Front}
use Rattle.reqtable_candidates.specs.declared.candidates.Candidate.{Candidate}
use Rattle.reqtable_candidates.specs.declared.ordered.Placed.{Placed}
use Rattle.reqtable_candidates.specs.Ordered.{placed_seen}
use Rattle.reqtable_table.specs.Answers.{tests_for, most_tests}
use Rattle.reqtable_answer.specs.Admission.{Admits}
use Rattle.reqtable_answer.specs.Asks.{ask_takes, names_prerelease, may_be_taken}
use Rattle.reqtable_table.specs.declared.kept.TableLine.{TableLine}
use Rattle.reqtable_search.specs.InRun.{version_of}
use Rattle.reqtable_search.specs.Told.{IsPassed}
use Rattle.reqtable_search.proofs.Places.{same_there}
use Rattle.reqtable_table.specs.Choosing.{case_asks, tests_at, AskedMore, Tells}
use Rattle.reqtable_table.proofs.AskedLines.{records, more_on, more_within}
use Rattle.reqtable_table.proofs.MarkedAsks.{same_asks}

module _ {A B : Type 0} (f : A → B) where
  pub seen_more : (xs : List A) (i : ℕ) (x : A) → i < length xs → x ≡ get_or xs i x →
      map f (take (i + 1) xs) ≡ map f (take i xs) ++ f x ∷ []
  seen_more xs i x within is =
      ap (map f) (take_more xs i x within ∙ ap (λ y. take i xs ++ y ∷ []) (sym is))
      ∙ map-append f (take i xs) (x ∷ [])

  module _ (p : B → Bool) where
    pub find_none : (xs : List A) (i : ℕ) (x : A) → i < length xs → x ≡ get_or xs i x →
        find p (map f (take i xs)) ≡ None → p (f x) ≡ false → find p (map f (take (i + 1) xs)) ≡ None
    find_none xs i x within is none fails =
        ap (find p) (seen_more xs i x within is) ∙ find-append p (map f (take i xs)) (f x ∷ [])
        ∙ (λ k. option_or (none k) (cond (fails k) (Some (f x)) None))

    past : (b : Bool) (y : A) (xs : List A) (i : ℕ) (x : A) →
        cond b (Some (f y)) (find p (map f (take i xs))) ≡ None →
        (find p (map f (take i xs)) ≡ None → find p (map f xs) ≡ Some (f x)) →
        cond b (Some (f y)) (find p (map f xs)) ≡ Some (f x)
    past true y xs i x none rest = absurd (cc)
    past false y xs i x none rest = rest none

    pub find_here : (xs : List A) (i : ℕ) (x : A) → i < length xs → x ≡ get_or xs i x →
        find p (map f (take i xs)) ≡ None → p (f x) ≡ true → find p (map f xs) ≡ Some (f x)
    find_here [] i x within is none passes = absurd (omega arith)
    find_here (y ∷ xs) zero x within is none passes =
        ap (λ z. cond (p (f z)) (Some (f z)) (find p (map f xs))) (sym is)
        ∙ ap (λ b. cond b (Some (f x)) (find p (map f xs))) passes
    find_here (y ∷ xs) (suc i) x within is none passes =
        past (p (f y)) y xs i x none (λ rest. find_here xs i x (omega arith) is rest passes)

module _ (asks : List Front) {A : Type 0} (f : A → ℕ × Candidate) where
  most_joined : (cs : List (ℕ × Candidate)) (c : ℕ × Candidate) →
      most_tests asks (cs ++ c ∷ []) ≡ most_tests asks cs + tests_for asks c
  most_joined [] c = omega arith
  most_joined (d ∷ cs) c = let rest = most_joined cs c in omega arith

  pub most_next : (xs : List A) (i : ℕ) (x : A) → i < length xs → x ≡ get_or xs i x →
      most_tests asks (map f (take (i + 1) xs)) ≡ most_tests asks (map f (take i xs)) + tests_for asks (f x)
  most_next xs i x within is =
      ap (most_tests asks) (seen_more f xs i x within is) ∙ most_joined (map f (take i xs)) (f x)

  pub most_within : (xs : List A) (i : ℕ) → most_tests asks (map f (take i xs)) ≤ most_tests asks (map f xs)
  most_within xs zero = omega arith
  most_within [] (suc i) = omega arith
  most_within (x ∷ xs) (suc i) = let rest = most_within xs i in omega arith

-- what all have that a function gives
pub all_at : {A B : Type 0} (P : B → Type 0) (f : A → B) (xs : List A) (i : ℕ) (x : A) → i < length xs →
    x ≡ get_or xs i x → AllByRecursion P (map f xs) → P (f x)
all_at P f [] i x within is all = absurd (omega arith)
all_at P f (y ∷ xs) zero x within is all = subst (λ z. P (f z)) (sym is) all.0
all_at P f (y ∷ xs) (suc i) x within is all = all_at P f xs i x (omega arith) is all.1

-- whether a candidate may be taken, by what the asks say of it and what is said of its admission
module _ (admits : Admits) (asks : List Front) (c : ℕ × Candidate) (answer : Bool)
    (says : answer ≡ list_all (ask_takes c.1.version) asks) where
  pub is_refused : answer ≡ false → may_be_taken admits asks c ≡ false
  is_refused e = ap (λ b. b && admits c.1.version (names_prerelease asks)) (sym says ∙ e)

  pub as_admitted : (named admitted : Bool) → named ≡ names_prerelease asks → admitted ≡ admits c.1.version named →
      answer ≡ true → may_be_taken admits asks c ≡ admitted
  as_admitted named admitted is_named is_admitted e =
      ap (λ b. b && admits c.1.version (names_prerelease asks)) (sym says ∙ e)
      ∙ ap (admits c.1.version) (sym is_named) ∙ sym is_admitted

-- the next candidate is tested, of lines that were asked of those before it
module _ (marks : List Bool) (lines now later : List TableLine) (own : List Placed) (i : ℕ) (item : Placed)
    (within : i < length own) (is : item ≡ get_or own i item)
    (so_far : AskedMore (most_tests (case_asks marks (records lines)) (map placed_seen (take i own)))
    (records now) (records lines))
    (more : AskedMore (tests_at (case_asks marks (records now)) item.candidate.now.version)
    (records later) (records now)) where
  abbrev asks : List Front
  asks = case_asks marks (records lines)

  pub most_more : AskedMore (most_tests (case_asks marks (records lines)) (map placed_seen (take (i + 1) own)))
      (records later) (records lines)
  most_more =
      let version = item.candidate.now.version in
      let same = same_asks marks lines now so_far.same in
      let last = subst (λ a. AskedMore (tests_at a version) (records later) (records now)) same more in
      subst (λ k. AskedMore k (records later) (records lines)) (sym (most_next asks placed_seen own i item within is))
      (more_on (most_tests asks (map placed_seen (take i own))) (tests_at asks version)
      (records lines) (records now) (records later) so_far last)

  -- and none behind it
  pub most_end : AskedMore (most_tests (case_asks marks (records lines)) (map placed_seen own))
      (records later) (records lines)
  most_end =
      more_within (most_tests asks (map placed_seen (take (i + 1) own))) (most_tests asks (map placed_seen own))
      (records lines) (records later) (most_within asks placed_seen own (i + 1)) most_more

-- ---- candidates that are passed over

-- none of them is found
module _ {A B : Type 0} (f : A → B) (p : B → Bool) where
  find_by : (b : Bool) (y : B) (front later : List B) → cond b (Some y) (find p front) ≡ None →
      (find p front ≡ None → find p later ≡ None) → cond b (Some y) (find p later) ≡ None
  find_by true y front later none rest = absurd (cc)
  find_by false y front later none rest = rest none

  pub find_on : (xs : List A) (i j : ℕ) → find p (map f (take i xs)) ≡ None → AllWithin (λ x. p (f x) ≡ false) xs i j →
      find p (map f (take j xs)) ≡ None
  find_on xs i zero none fails = refl
  find_on [] i (suc j) none fails = refl
  find_on (x ∷ xs) zero (suc j) none fails =
      ap (λ b. cond b (Some (f x)) (find p (map f (take j xs)))) (fails 0 x (omega arith) (omega arith))
      ∙ find_on xs 0 j refl (λ k d l m. fails (suc k) d (omega arith) (omega arith))
  find_on (x ∷ xs) (suc i) (suc j) none fails =
      find_by (p (f x)) (f x) (map f (take i xs)) (map f (take j xs)) none (λ rest.
      find_on xs i j rest (λ k d l m. fails (suc k) d (omega arith) (omega arith)))

refuses : (asks : List Front) (bounded : Bool) (range : Option (List (Point VersionRecord))) (version : VersionRecord) →
    Tells bounded range asks → IsSaid version → IsPassed bounded range version → list_all (ask_takes version) asks ≡ false
refuses asked bounded None version tells said passed = absurd passed
refuses asked bounded (Some set) version tells said passed =
    sym (tells.exact version said passed.0 tells.range_is.0) ∙ sym (tells.range_is.1 (At version)) ∙ passed.1

pub none_passed : (admits : Admits) (asks : List Front) (bounded : Bool) (range : Option (List (Point VersionRecord))) →
    Tells bounded range asks → (own : List Placed) (i j : ℕ) → j ≤ length own → AllByRecursion (λ c. IsSaid c.1.version) (map placed_seen own) →
    AllWithin (λ x. IsPassed bounded range (version_of x)) own i j →
    AllWithin (λ x. may_be_taken admits asks (placed_seen x) ≡ false) own i j
none_passed admits asks bounded range tells own i j within said passed k d l m =
    let x = get_or own k d in
    let is_said = all_at (λ c. IsSaid c.1.version) placed_seen own k x (omega arith) (same_there own k d x (omega arith)) said in
    ap (λ b. b && admits (version_of x) (names_prerelease asks))
    (refuses asks bounded range (version_of x) tells is_said (passed k d l m))

-- and none is asked
most_between : (asks : List Front) (xs : List Placed) (i j : ℕ) → i ≤ j →
    most_tests asks (map placed_seen (take i xs)) ≤ most_tests asks (map placed_seen (take j xs))
most_between asks xs zero j le = omega arith
most_between asks xs (suc i) zero le = absurd (omega arith)
most_between asks [] (suc i) (suc j) le = omega arith
most_between asks (x ∷ xs) (suc i) (suc j) le = let rest = most_between asks xs i j (omega arith) in omega arith

pub passed_more : (marks : List Bool) (lines later : List TableLine) (own : List Placed) (i j : ℕ) → i ≤ j →
    AskedMore (most_tests (case_asks marks (records lines)) (map placed_seen (take i own))) (records later) (records lines) →
    AskedMore (most_tests (case_asks marks (records lines)) (map placed_seen (take j own))) (records later) (records lines)
passed_more marks lines later own i j le more =
    let asks = case_asks marks (records lines) in
    more_within (most_tests asks (map placed_seen (take i own))) (most_tests asks (map placed_seen (take j own)))
    (records lines) (records later) (most_between asks own i j le) more
