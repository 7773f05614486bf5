-- The rows of packages whose best candidates are known are the answer.
use Rattle.std.proofs.Common.{◌≡◌, ◌∙◌, ℕ, zero, suc, ◌+◌, ◌<◌, Bool, true, false, not, cond, List, [], ◌∷◌, ◌++◌, map, filter, find, length, Option, Some, None, option_map, refl, sym, ap, subst, arith, append_assoc, append-nil, length-append}
use Rattle.std.specs.List.{AllByRecursion, AllZip, enumerate_from, slice_get, list_any, list_all}
use Rattle.std.specs.List.Sorted.{IsStrictlySortedBy}
use Rattle.std.specs.Ordering.{nat_cmp, is_gt}
use Rattle.std.specs.Cmp.Lexicographic.{slice_cmp}
use Rattle.std.specs.Str.{bytes_eq}
use Rattle.std.specs.declared.cmp.Ordering.{Ordering}
use Rattle.pep508_requirement_text.specs.FrontReading.{Front}
use Rattle.reqtable_candidates.specs.declared.candidates.Candidate.{Candidate}
use Rattle.reqtable_answer.specs.declared.answer.Outcome.{Outcome}
use Rattle.reqtable_answer.specs.declared.answer.Outcome.TheVariants.{Taken, Nothing, Direct}
use Rattle.reqtable_answer.specs.Answer.{Admits, RowRecord, IsRow, IsAnswer, outcome_of, first_greatest, chosen}
use Rattle.reqtable_answer.specs.Answer as answer
use Rattle.reqtable_answer.specs.Asks.{is_of, is_candidate, has_extra, has_url, may_be_taken}
use Rattle.reqtable_answer.specs.Rows.{IsTakenBelow}
use Rattle.reqtable_answer.specs.Says.{ask_seen, asks_seen}
use Rattle.reqtable_answer.proofs.Tests.{any_mapped}
use Rattle.reqtable_answer.proofs.Passing.{direct_is, chosen_is}
use Rattle.reqtable_streaming.specs.declared.required.Package.{Package}
use Rattle.reqtable_streaming.specs.Packages.{IsSound, HasBest, HaveBests, IsKeptAs, names_of}
use Rattle.reqtable_streaming.specs.Selection.{SelectsAs, IsRowAs, IsSelection}

-- ---- places in lists

get_behind : {X : Type 0} (front : List X) (x : X) (back : List X) → slice_get (front ++ x ∷ back) (length front) ≡ Some x
get_behind [] x back = refl
get_behind (y ∷ front) x back = get_behind front x back

get_in_front : {X : Type 0} (xs ys : List X) (k : ℕ) → k < length xs → slice_get (xs ++ ys) k ≡ slice_get xs k
get_in_front [] ys k h = absurd (omega arith)
get_in_front (x ∷ xs) ys zero h = refl
get_in_front (x ∷ xs) ys (suc k) h = get_in_front xs ys k (omega arith)

-- each numbered candidate stands at its place
numbered_behind : {X : Type 0} (n : ℕ) (front xs all : List X) → n ≡ length front → front ++ xs ≡ all
    → AllByRecursion (λ f. slice_get all f.0 ≡ Some f.1) (enumerate_from n xs)
numbered_behind n front [] all e split = tt
numbered_behind {X = X} n front (x ∷ xs) all e split =
    let P : List X → Type 0 = λ l. slice_get l n ≡ Some x in
    let here : slice_get (front ++ x ∷ xs) n ≡ Some x = ap (slice_get (front ++ x ∷ xs)) e ∙ get_behind front x xs in
    let long : n + 1 ≡ length (front ++ x ∷ []) = omega (arith, length-append front (x ∷ [])) in (
      subst P split here,
      numbered_behind (n + 1) (front ++ x ∷ []) xs all long (append_assoc front (x ∷ []) xs ∙ split),
    )

all_kept_by : {X : Type 0} (P : X → Type 0) (x : X) (xs : List X) (b : Bool) → P x → AllByRecursion P xs → AllByRecursion P (cond b (x ∷ xs) xs)
all_kept_by P x xs true p h = (p, h)
all_kept_by P x xs false p h = h

all_kept : {X : Type 0} (P : X → Type 0) (test : X → Bool) (xs : List X) → AllByRecursion P xs → AllByRecursion P (filter test xs)
all_kept P test [] h = tt
all_kept P test (x ∷ xs) h = all_kept_by P x (filter test xs) (test x) h.0 (all_kept P test xs h.1)

found_by : {X : Type 0} (P : X → Type 0) (b : Bool) (x y : X) (rest : Option X) → P x → (rest ≡ Some y → P y) → cond b (Some x) rest ≡ Some y → P y
found_by P true x y rest p more e = let same : x ≡ y = cc in subst P same p
found_by P false x y rest p more e = more e

all_found : {X : Type 0} (P : X → Type 0) (test : X → Bool) (xs : List X) (y : X) → AllByRecursion P xs → find test xs ≡ Some y → P y
all_found P test [] y h e = absurd (cc)
all_found P test (x ∷ xs) y h e = found_by P (test x) x y (find test xs) h.0 (λ rest. all_found P test xs y h.1 rest) e

-- the candidate that is found stands at its place
stands : (R : ℕ × Candidate → ℕ × Candidate → Ordering) (candidates : List Candidate) (named test : ℕ × Candidate → Bool) (found : ℕ × Candidate)
    → first_greatest R (filter test (filter named (enumerate_from 0 candidates))) ≡ Some found
    → slice_get candidates found.0 ≡ Some found.1
stands R candidates named test found e =
    let P : ℕ × Candidate → Type 0 = λ f. slice_get candidates f.0 ≡ Some f.1 in
    let own : List (ℕ × Candidate) = filter test (filter named (enumerate_from 0 candidates)) in
    let each : AllByRecursion P (enumerate_from 0 candidates) = numbered_behind 0 [] candidates candidates refl refl in
    let those : AllByRecursion P own = all_kept P test (filter named (enumerate_from 0 candidates)) (all_kept P named (enumerate_from 0 candidates) each) in
    all_found P (λ x. list_all (λ y. not (is_gt (R y x))) own) own found those e

-- ---- outcomes

-- a selected candidate stays where more are selected
stays : (selected more candidates : List Candidate) (a b : Outcome) → SelectsAs selected candidates a b → SelectsAs (selected ++ more) candidates a b
stays selected more candidates (Taken place) (Taken other) h =
    (omega (arith, h.0, length-append selected more), get_in_front selected more place h.0 ∙ h.1)
stays selected more candidates (Taken place) Nothing h = absurd h
stays selected more candidates (Taken place) Direct h = absurd h
stays selected more candidates Nothing (Taken other) h = absurd h
stays selected more candidates Nothing Nothing h = tt
stays selected more candidates Nothing Direct h = absurd h
stays selected more candidates Direct (Taken other) h = absurd h
stays selected more candidates Direct Nothing h = absurd h
stays selected more candidates Direct Direct h = tt

still_below : (count more : ℕ) (outcome : Outcome) → IsTakenBelow count outcome → IsTakenBelow (count + more) outcome
still_below count more (Taken place) h = omega arith
still_below count more Nothing h = tt
still_below count more Direct h = tt

-- what is kept of a package adds to the selected candidates
pub grown : (direct : Bool) (best : Option Candidate) (old new : List Candidate) (outcome : Outcome) → IsKeptAs direct best old new outcome
    → (more : List Candidate) × (new ≡ old ++ more)
grown true best old new outcome h = ([], h.1 ∙ sym (append-nil old))
grown false None old new outcome h = ([], h.1 ∙ sym (append-nil old))
grown false (Some best) old new outcome h = (best ∷ [], h.1)

pub below_new : (direct : Bool) (best : Option Candidate) (old new : List Candidate) (outcome : Outcome) → IsKeptAs direct best old new outcome
    → IsTakenBelow (length new) outcome
below_new true best old new outcome h = let P : Outcome → Type 0 = IsTakenBelow (length new) in subst P (sym h.0) tt
below_new false None old new outcome h = let P : Outcome → Type 0 = IsTakenBelow (length new) in subst P (sym h.0) tt
below_new false (Some best) old new outcome h =
    let P : Outcome → Type 0 = IsTakenBelow (length new) in
    let long : length new ≡ length old + 1 = ap length h.1 ∙ length-append old (best ∷ []) in
    let below : length old < length new = omega arith in
    subst P (sym h.0) below

module _ (admits : Admits) (candidates : List Candidate) where
  abbrev pub outcome_for : List Front → List ℕ → Outcome
  outcome_for asks name = outcome_of admits asks (filter (is_candidate name) (enumerate_from 0 candidates))

  abbrev greatest_for : List Front → List ℕ → Option (ℕ × Candidate)
  greatest_for asks name = first_greatest answer.by_version (filter (may_be_taken admits asks) (filter (is_candidate name) (enumerate_from 0 candidates)))

  selects_found : (asks : List Front) (name : List ℕ) (best : Option Candidate) (old new : List Candidate) (outcome : Outcome) (found : Option (ℕ × Candidate))
      → greatest_for asks name ≡ found → best ≡ option_map (λ f. f.1) found → IsKeptAs false best old new outcome
      → SelectsAs new candidates outcome (chosen (option_map (λ f. f.0) found))
  selects_found asks name None old new outcome None g e h =
      let P : Outcome → Type 0 = λ o. SelectsAs new candidates o Nothing in subst P (sym h.0) tt
  selects_found asks name (Some best) old new outcome None g e h = absurd (cc)
  selects_found asks name None old new outcome (Some found) g e h = absurd (cc)
  selects_found asks name (Some best) old new outcome (Some found) g e h =
      let P : Outcome → Type 0 = λ o. SelectsAs new candidates o (Taken found.0) in
      let long : length new ≡ length old + 1 = ap length h.1 ∙ length-append old (best ∷ []) in
      let below : length old < length new = omega arith in
      let same : best ≡ found.1 = cc in
      let here : slice_get new (length old) ≡ slice_get candidates found.0 =
      ap (λ l. slice_get l (length old)) h.1 ∙ get_behind old best [] ∙ ap (λ c. Some c) same
      ∙ sym (stands answer.by_version candidates (is_candidate name) (may_be_taken admits asks) found g) in
      subst P (sym h.0) (below, here)

  selects_by : (direct : Bool) (asks : List Front) (name : List ℕ) (best : Option Candidate) (old new : List Candidate) (outcome : Outcome)
      → list_any has_url asks ≡ direct → (direct ≡ false → best ≡ option_map (λ f. f.1) (greatest_for asks name))
      → IsKeptAs direct best old new outcome → SelectsAs new candidates outcome (outcome_for asks name)
  selects_by true asks name best old new outcome url kept h =
      let P : Outcome → Type 0 = λ o. SelectsAs new candidates o (outcome_for asks name) in
      let Q : Outcome → Type 0 = λ o. SelectsAs new candidates Direct o in
      subst P (sym h.0) (subst Q (direct_is admits asks (filter (is_candidate name) (enumerate_from 0 candidates)) url) tt)
  selects_by false asks name best old new outcome url kept h =
      let own = filter (is_candidate name) (enumerate_from 0 candidates) in
      let Q : Outcome → Type 0 = λ o. SelectsAs new candidates outcome o in
      subst Q (chosen_is admits asks own url (greatest_for asks name) refl)
      (selects_found asks name best old new outcome (greatest_for asks name) refl (kept refl) h)

-- ---- rows

module _ (admits : Admits) (all : List Front) (candidates : List Candidate) where
  -- a row is made of a package
  pub record IsMade (selected : List Candidate) (wanted : Package) (row : RowRecord) : Type 0 where
    pub name : row.name ≡ wanted.name.now
    pub extras_rise : IsStrictlySortedBy (slice_cmp nat_cmp) row.extras
    pub extras_are : (extra : List ℕ) → list_any (bytes_eq extra) row.extras ≡ list_any (has_extra extra) (filter (is_of row.name) all)
    pub outcome : SelectsAs selected candidates row.outcome (outcome_for admits candidates (filter (is_of row.name) all) row.name)

  pub made : (wanted : Package) (row : RowRecord) (old new : List Candidate) → IsSound wanted → HasBest admits all candidates wanted
      → row.name ≡ wanted.name.now → IsStrictlySortedBy (slice_cmp nat_cmp) row.extras
      → ((extra : List ℕ) → list_any (bytes_eq extra) row.extras ≡ list_any (has_extra extra) (asks_seen wanted.asks.items))
      → IsKeptAs wanted.direct wanted.best old new row.outcome → IsMade new wanted row
  made wanted row old new sound has named rise are kept =
      let asks : asks_seen wanted.asks.items ≡ filter (is_of row.name) all = has.asks ∙ ap (λ n. filter (is_of n) all) (sym named) in
      let url : list_any has_url (asks_seen wanted.asks.items) ≡ wanted.direct = any_mapped has_url ask_seen wanted.asks.items ∙ sym sound.direct in
      let P : List Front → Type 0 = λ a. SelectsAs new candidates row.outcome (outcome_for admits candidates a row.name) in
      let Q : List ℕ → Type 0 = λ n. SelectsAs new candidates row.outcome (outcome_for admits candidates (asks_seen wanted.asks.items) n) in
      record {
        name = named;
        extras_rise = rise;
        extras_are = λ extra. are extra ∙ ap (list_any (has_extra extra)) asks;
        outcome = subst P asks (subst Q (sym named)
            (selects_by admits candidates wanted.direct (asks_seen wanted.asks.items) wanted.name.now wanted.best old new row.outcome url has.best kept));
      }

  made_still : (selected more : List Candidate) (wanted : Package) (row : RowRecord) → IsMade selected wanted row → IsMade (selected ++ more) wanted row
  made_still selected more wanted row h = record {
    name = h.name;
    extras_rise = h.extras_rise;
    extras_are = h.extras_are;
    outcome = stays selected more candidates row.outcome (outcome_for admits candidates (filter (is_of row.name) all) row.name) h.outcome;
  }

  -- one more row
  made_more : (selected more : List Candidate) (packages : List Package) (rows : List RowRecord) (wanted : Package) (row : RowRecord)
      → AllZip (IsMade selected) packages rows → IsMade (selected ++ more) wanted row
      → AllZip (IsMade (selected ++ more)) (packages ++ wanted ∷ []) (rows ++ row ∷ [])
  made_more selected more [] [] wanted row h one = (one, tt)
  made_more selected more [] (r ∷ rows) wanted row h one = absurd h
  made_more selected more (p ∷ packages) [] wanted row h one = absurd h
  made_more selected more (p ∷ packages) (r ∷ rows) wanted row h one =
      (made_still selected more p r h.0, made_more selected more packages rows wanted row h.1 one)

  pub one_more : (old new : List Candidate) (packages : List Package) (rows : List RowRecord) (wanted : Package) (row : RowRecord)
      → (more : List Candidate) × (new ≡ old ++ more) → AllZip (IsMade old) packages rows → IsMade new wanted row
      → AllZip (IsMade new) (packages ++ wanted ∷ []) (rows ++ row ∷ [])
  one_more old new packages rows wanted row more h one =
      let P : List Candidate → Type 0 = λ l. AllZip (IsMade l) (packages ++ wanted ∷ []) (rows ++ row ∷ []) in
      let Q : List Candidate → Type 0 = λ l. IsMade l wanted row in
      subst P (sym more.1) (made_more old more.0 packages rows wanted row h (subst Q more.1 one))

  -- ---- all rows

  abbrev answered : RowRecord → RowRecord
  answered row = record row { outcome = outcome_for admits candidates (filter (is_of row.name) all) row.name }

  names_made : (selected : List Candidate) (packages : List Package) (rows : List RowRecord) → AllZip (IsMade selected) packages rows
      → map (λ row. row.name) (map answered rows) ≡ names_of packages
  names_made selected [] [] h = refl
  names_made selected [] (r ∷ rows) h = absurd h
  names_made selected (p ∷ packages) [] h = absurd h
  names_made selected (p ∷ packages) (r ∷ rows) h =
      let first = h.0.name in
      let rest = names_made selected packages rows h.1 in
      λ i. first i ∷ rest i

  rows_made : (selected : List Candidate) (packages : List Package) (rows : List RowRecord) → AllZip (IsMade selected) packages rows
      → AllByRecursion (IsRow admits all candidates) (map answered rows)
  rows_made selected [] [] h = tt
  rows_made selected [] (r ∷ rows) h = absurd h
  rows_made selected (p ∷ packages) [] h = absurd h
  rows_made selected (p ∷ packages) (r ∷ rows) h =
      (record { extras_rise = h.0.extras_rise; extras_are = h.0.extras_are; outcome = refl }, rows_made selected packages rows h.1)

  as_made : (selected : List Candidate) (packages : List Package) (rows : List RowRecord) → AllZip (IsMade selected) packages rows
      → AllZip (IsRowAs selected candidates) rows (map answered rows)
  as_made selected [] [] h = tt
  as_made selected [] (r ∷ rows) h = absurd h
  as_made selected (p ∷ packages) [] h = absurd h
  as_made selected (p ∷ packages) (r ∷ rows) h =
      (record { name = refl; extras = refl; outcome = h.0.outcome }, as_made selected packages rows h.1)

  pub selection : (selected : List Candidate) (packages : List Package) (rows : List RowRecord) → HaveBests admits all candidates packages
      → AllZip (IsMade selected) packages rows → IsSelection admits all candidates selected rows
  selection selected packages rows has h =
      let named = names_made selected packages rows h in
      record {
        answer = map answered rows;
        is_answer = record {
          rising = subst (IsStrictlySortedBy (slice_cmp nat_cmp)) (sym named) has.rising;
          asked = λ q. ap (list_any (bytes_eq q)) named ∙ has.asked q;
          each_row = rows_made selected packages rows h;
        };
        are_its_rows = as_made selected packages rows h;
      }

-- the rows before stay below
pub all_below : (old new : List Candidate) (rows : List RowRecord) (row : RowRecord) → (more : List Candidate) × (new ≡ old ++ more)
    → AllByRecursion (λ r. IsTakenBelow (length old) r.outcome) rows → IsTakenBelow (length new) row.outcome
    → AllByRecursion (λ r. IsTakenBelow (length new) r.outcome) (rows ++ row ∷ [])
all_below old new [] row more h one = (one, tt)
all_below old new (r ∷ rows) row more h one =
    let P : ℕ → Type 0 = λ n. IsTakenBelow n r.outcome in
    let long : length new ≡ length old + length more.0 = ap length more.1 ∙ length-append old more.0 in
    (subst P (sym long) (still_below (length old) (length more.0) r.outcome h.0), all_below old new rows row more h.1 one)
