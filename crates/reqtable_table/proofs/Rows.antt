-- The rows of the first packages of a table.
use Rattle.std.proofs.Common.{◌≡◌, ◌∙◌, ◌≤◌, ◌<◌, ◌+◌, ◌||◌, ℕ, zero, suc, Bool, true, false, cond, List, []}
use Rattle.std.proofs.Common.{◌∷◌, ◌++◌, map, filter, take, set, length, get_or, All, Option, Some, None}
use Rattle.std.proofs.Common.{option_map, refl, sym, ap, subst, arith, append-nil}
use Rattle.std.proofs.lemmas.List.{take_more, map-append, get_or_default}
use Rattle.std.proofs.lemmas.List.Elements.{filter-append, All-push}
use Rattle.std.specs.Option.{IfSome, option_map_or}
use Rattle.std.specs.List.{list_any, AllZip, AllByRecursion}
use Rattle.pep440_range.specs.Agreement.{IsSaid}
use Rattle.pep508_diagram.specs.Question.{Valuation}
use Rattle.pep508_tree.specs.Meaning.{NodeRecord, holds}
use Rattle.reqtable_candidates.specs.declared.candidates.Candidate.{Candidate}
use Rattle.reqtable_candidates.specs.Ordered.{AreInOrder}
use Rattle.reqtable_answer.specs.Admission.{Admits}
use Rattle.reqtable_answer.specs.Answer.{RowRecord, IsRowOf}
use Rattle.reqtable_answer.specs.Asks.{is_candidate}
use Rattle.pep508_cases.specs.Sets.{marked}
use Rattle.reqtable_answer.specs.declared.answer.Row.{Row}
use Rattle.reqtable_answer.specs.Rows.{row_seen}
use Rattle.reqtable_table.specs.declared.table.Package.{Package}
use Rattle.reqtable_table.specs.Answers.{kept_marks, kept_asked, is_asked, own_candidates, most_tests}
use Rattle.reqtable_table.specs.Answers.{most_tests_in, most_tests_of}
use Rattle.reqtable_table.specs.Answers.{IsRowFor, IsRowIf, AreRowsFor, SameLine, SamePackage}
use Rattle.reqtable_table.specs.Cases.{HasItsCases}
use Rattle.reqtable_table.specs.Choosing.{outcome_in_order, IsRowInOrder}
use Rattle.reqtable_table.specs.Runs.{RunsRecord, AreOrdered, AreRunsOf}
use Rattle.reqtable_table.specs.Standing.{HasItsLines}
use Rattle.reqtable_table.specs.Counts.{tests_of, all_tests}
use Rattle.reqtable_table.specs.Kept.{KeptLine, KeptPackage, kept_front}
use Rattle.reqtable_table.specs.KeptLines.{package_record}
use Rattle.reqtable_table.proofs.AskedLines.{same_fronts}
use Rattle.reqtable_table.proofs.Marking.{marked_map}
use Rattle.reqtable_table.proofs.Own.{run_outcome, run_tests, run_said, run_below}
use Rattle.reqtable_table.proofs.Packages.{zip_pushed}
use Rattle.reqtable_table.proofs.Finding.{all_at}
use Rattle.reqtable_table.proofs.Same.{all_same, same_package, packages_on, marks_same, have_lines, has_cases}
use Rattle.reqtable_table.proofs.Same.{runs_on}
use Rattle.reqtable_table.proofs.Searching.{zip_at, zip_long}

abbrev pub kept_records : List Package → List KeptPackage
kept_records packages = map package_record packages

-- ---- what lines ask for that stayed the same

pub asked_same : (nodes : List NodeRecord) (v : Valuation) (a b : List KeptLine) → AllZip SameLine a b →
    kept_asked nodes v a ≡ kept_asked nodes v b
asked_same nodes v a b s =
    sym (marked_map kept_front (kept_marks nodes v a) a)
    ∙ (λ i. marked (marks_same nodes v a b s i) (same_fronts a b s i))
    ∙ marked_map kept_front (kept_marks nodes v b) b

pub any_same : (nodes : List NodeRecord) (v : Valuation) (a b : List KeptLine) → AllZip SameLine a b →
    list_any (λ (l : KeptLine). holds nodes l.marker v) a ≡ list_any (λ (l : KeptLine). holds nodes l.marker v) b
any_same nodes v [] [] s = refl
any_same nodes v [] (y ∷ b) s = absurd s
any_same nodes v (x ∷ a) [] s = absurd s
any_same nodes v (x ∷ a) (y ∷ b) s =
    let here = ap (λ t. holds nodes t v) s.0.marker in
    let rest = any_same nodes v a b s.1 in
    λ i. here i || rest i

module _ (admits : Admits) (nodes : List NodeRecord) (v : Valuation) (candidates : List Candidate) where
  row_same : (a b : KeptPackage) → SamePackage a b → (row : RowRecord) → IsRowFor admits nodes v candidates a row →
      IsRowFor admits nodes v candidates b row
  row_same a b s row is = record {
    named = is.named ∙ s.name;
    its =
        subst (λ n. IsRowOf admits (kept_asked nodes v b.lines) (own_candidates candidates n) row) s.name
        (subst (λ asks. IsRowOf admits asks (own_candidates candidates a.name) row) (asked_same nodes v a.lines b.lines s.lines) is.its);
  }

  pub row_if_same : (a b : KeptPackage) → SamePackage a b → (row : Option RowRecord) →
      IsRowIf admits nodes v candidates a row → IsRowIf admits nodes v candidates b row
  row_if_same a b s None is = sym (any_same nodes v a.lines b.lines s.lines) ∙ is
  row_if_same a b s (Some row) is =
      (sym (any_same nodes v a.lines b.lines s.lines) ∙ is.0, row_same a b s row is.1)

  -- by the package's candidates in order
  pub row_in_order : (placed : List (ℕ × Candidate)) → AreInOrder candidates placed → (kept : KeptPackage) (run : List (ℕ × Candidate)) →
      run ≡ filter (is_candidate kept.name) placed → (row : Option RowRecord) → IsRowInOrder admits nodes v run kept row →
      IsRowIf admits nodes v candidates kept row
  row_in_order placed order kept run e None is = is
  row_in_order placed order kept run e (Some row) is =
      let asks = kept_asked nodes v kept.lines in (
        is.asked,
        record {
          named = is.named;
          its = record {
            extras_rise = is.extras_rise;
            extras_are = is.extras_are;
            outcome = is.outcome ∙ ap (outcome_in_order admits asks) e ∙ run_outcome candidates placed order kept.name admits asks;
          };
        },
      )

  abbrev asked : KeptPackage → Bool
  asked = is_asked nodes v

  one_more : (table : List KeptPackage) (kept : KeptPackage) (b : Bool) → asked kept ≡ b →
      filter asked (table ++ kept ∷ []) ≡ filter asked table ++ cond b (kept ∷ []) []
  one_more table kept b e =
      filter-append asked table (kept ∷ []) ∙ ap (λ t. filter asked table ++ cond t (kept ∷ []) []) e

  pub none_more : (table : List KeptPackage) (kept : KeptPackage) (rows : List RowRecord) →
      AreRowsFor admits nodes v candidates table rows → IsRowIf admits nodes v candidates kept None →
      AreRowsFor admits nodes v candidates (table ++ kept ∷ []) rows
  none_more table kept rows are is =
      subst (λ l. AllZip (IsRowFor admits nodes v candidates) l rows)
      (sym (one_more table kept false is ∙ append-nil (filter asked table))) are

  pub row_more : (table : List KeptPackage) (kept : KeptPackage) (rows : List RowRecord) (row : RowRecord) →
      AreRowsFor admits nodes v candidates table rows → IsRowIf admits nodes v candidates kept (Some row) →
      AreRowsFor admits nodes v candidates (table ++ kept ∷ []) (rows ++ row ∷ [])
  row_more table kept rows row are is =
      zip_pushed (IsRowFor admits nodes v candidates) (filter asked table) (filter asked (table ++ kept ∷ [])) rows
      (rows ++ row ∷ []) kept row (one_more table kept true is.0) refl are is.1

-- ---- tests

set_tests : (nodes : List NodeRecord) (v : Valuation) (candidates : List Candidate) (table : List KeptPackage) (kept : KeptPackage) →
    most_tests_of nodes v candidates (table ++ kept ∷ [])
    ≡ most_tests_of nodes v candidates table + most_tests (kept_asked nodes v kept.lines) (own_candidates candidates kept.name)
set_tests nodes v candidates [] kept = omega arith
set_tests nodes v candidates (p ∷ table) kept = let rest = set_tests nodes v candidates table kept in omega arith

tests_set : (packages : List Package) (i k : ℕ) (kept new : Package) → i < length packages → kept ≡ get_or packages i kept →
    tests_of (package_record new).lines ≤ tests_of (package_record kept).lines + k →
    all_tests (kept_records (set packages i new)) ≤ all_tests (kept_records packages) + k
tests_set [] i k kept new within is le = absurd (omega arith)
tests_set (p ∷ packages) zero k kept new within is le =
    let few = subst (λ q. tests_of (package_record new).lines ≤ tests_of (package_record q).lines + k) is le in
    omega arith
tests_set (p ∷ packages) (suc i) k kept new within is le =
    let rest = tests_set packages i k kept new (omega arith) is le in
    omega arith

pub no_more_set : (packages : List Package) (i : ℕ) (kept new : Package) → i < length packages → kept ≡ get_or packages i kept →
    tests_of (package_record new).lines ≤ tests_of (package_record kept).lines →
    all_tests (kept_records (set packages i new)) ≤ all_tests (kept_records packages)
no_more_set packages i kept new within is le =
    let more = tests_set packages i 0 kept new within is (omega (arith, le)) in
    omega (arith, more)

same_set : (packages : List Package) (i : ℕ) (kept new : Package) → i < length packages → kept ≡ get_or packages i kept →
    SamePackage (package_record new) (package_record kept) → AllZip SamePackage (kept_records (set packages i new)) (kept_records packages)
same_set [] i kept new within is same = absurd (omega arith)
same_set (p ∷ packages) zero kept new within is same =
    (subst (λ q. SamePackage (package_record new) (package_record q)) is same, all_same (kept_records packages))
same_set (p ∷ packages) (suc i) kept new within is same =
    (same_package (package_record p), same_set packages i kept new (omega arith) is same)

-- what a package was at first
was : (now old : List Package) (i : ℕ) (kept first : Package) → AllZip SamePackage (kept_records now) (kept_records old) →
    i < length now → kept ≡ get_or now i kept → first ≡ get_or old i first → SamePackage (package_record kept) (package_record first)
was [] old i kept first same within is at = absurd (omega arith)
was (p ∷ now) [] i kept first same within is at = absurd same
was (p ∷ now) (q ∷ old) zero kept first same within is at =
    subst (λ a. SamePackage (package_record a) (package_record first)) (sym is)
    (subst (λ b. SamePackage (package_record p) (package_record b)) (sym at) same.0)
was (p ∷ now) (q ∷ old) (suc i) kept first same within is at = was now old i kept first same.1 (omega arith) is at

as_long : (now old : List Package) → AllZip SamePackage (kept_records now) (kept_records old) → length now ≡ length old
as_long [] [] same = refl
as_long [] (q ∷ old) same = absurd same
as_long (p ∷ now) [] same = absurd same
as_long (p ∷ now) (q ∷ old) same = ap suc (as_long now old same.1)

most_front : (nodes : List NodeRecord) (v : Valuation) (candidates : List Candidate) (packages : List Package) (i : ℕ) →
    most_tests_of nodes v candidates (kept_records (take i packages)) ≤ most_tests_of nodes v candidates (kept_records packages)
most_front nodes v candidates packages zero = omega arith
most_front nodes v candidates [] (suc i) = omega arith
most_front nodes v candidates (p ∷ packages) (suc i) = let rest = most_front nodes v candidates packages i in omega arith

-- ---- the loop

module _ (nodes : List NodeRecord) (v : Valuation) (candidates : List Candidate) (old : List Package) where
  -- the packages are as they were, and at most so many tests more than the first i take
  pub record AreAnswered (now : List Package) (i : ℕ) : Type 0 where
    pub same : AllZip SamePackage (kept_records now) (kept_records old)
    pub tests : all_tests (kept_records now)
        ≤ all_tests (kept_records old) + most_tests_of nodes v candidates (kept_records (take i old))

  pub none_answered : AreAnswered old 0
  none_answered = record { same = all_same (kept_records old); tests = omega arith }

  -- before the one at a place, of which alone is looked at
  pub none_before : (i : ℕ) → AreAnswered old i
  none_before i = record { same = all_same (kept_records old); tests = omega arith }

  module _ (now : List Package) (i : ℕ) (kept : Package) (so_far : AreAnswered now i) (within : i < length now)
      (is : kept ≡ get_or now i kept) where
    abbrev pub first : Package
    first = get_or old i kept

    inside : i < length old
    inside = let long = as_long now old so_far.same in omega arith

    first_is : first ≡ get_or old i first
    first_is = get_or_default old i kept first inside

    pub was_here : SamePackage (package_record kept) (package_record first)
    was_here = was now old i kept first so_far.same within is first_is

    pub taken : kept_records (take (i + 1) old) ≡ kept_records (take i old) ++ package_record first ∷ []
    taken =
        ap kept_records (take_more old i first inside ∙ ap (λ y. take i old ++ y ∷ []) (sym first_is))
        ∙ map-append package_record (take i old) (first ∷ [])

    module _ (new : Package) (same : SamePackage (package_record new) (package_record kept))
        (tests : tests_of (package_record new).lines ≤ tests_of (package_record kept).lines
        + most_tests (kept_asked nodes v (package_record kept).lines) (own_candidates candidates kept.name)) where
      pub next_answered : AreAnswered (set now i new) (i + 1)
      next_answered =
          let most : List KeptPackage → ℕ = most_tests_of nodes v candidates in
          let his = most_tests (kept_asked nodes v (package_record kept).lines) (own_candidates candidates kept.name) in
          let here : his ≡ most_tests (kept_asked nodes v (package_record first).lines) (own_candidates candidates first.name) =
          (λ j. most_tests (asked_same nodes v (package_record kept).lines (package_record first).lines was_here.lines j)
          (own_candidates candidates (was_here.name j))) in
          let sum = ap most taken ∙ set_tests nodes v candidates (kept_records (take i old)) (package_record first) in
          let more = tests_set now i his kept new within is tests in
          let before = so_far.tests in
          record {
            same = packages_on (kept_records (set now i new)) (kept_records now) (kept_records old) (same_set now i kept new within is same) so_far.same;
            tests = omega arith;
          }

      -- also where no more are looked at
      pub answered_so_far : AllZip SamePackage (kept_records (set now i new)) (kept_records old)
          × (all_tests (kept_records (set now i new)) ≤ all_tests (kept_records old) + most_tests_of nodes v candidates (kept_records old))
      answered_so_far =
          let next = next_answered in
          let all = most_front nodes v candidates old (i + 1) in
          let few = next.tests in
          (next.same, omega arith)

-- ---- one more package, with its candidates

module _ (nodes : List NodeRecord) (v : Valuation) (runs : RunsRecord) (ordered : AreOrdered runs.candidates runs.placed)
    (old : List Package) (lines : AllByRecursion HasItsLines (kept_records old))
    (cases : AllByRecursion (HasItsCases nodes) (kept_records old)) (are : AreRunsOf (kept_records old) runs)
    (now : List Package) (i : ℕ) (kept : Package) (so_far : AreAnswered nodes v runs.candidates old now i) (within : i < length now)
    (is : kept ≡ get_or now i kept) where
  are_now : AreRunsOf (kept_records now) runs
  are_now = runs_on runs (kept_records now) (kept_records old) so_far.same are

  pub lines_here : HasItsLines (package_record kept)
  lines_here = all_at HasItsLines package_record now i kept within is (have_lines (kept_records now) (kept_records old) so_far.same lines)

  pub cases_here : HasItsCases nodes (package_record kept)
  cases_here =
      all_at (HasItsCases nodes) package_record now i kept within is (has_cases nodes (kept_records now) (kept_records old) so_far.same cases)

  pub within_runs : i < length runs.runs
  within_runs =
      let long = zip_long (λ (k : KeptPackage) run. run ≡ filter (is_candidate k.name) runs.placed) package_record now runs.runs are_now in
      omega arith

  module _ (own : List (ℕ × Candidate)) (own_at : (other : List (ℕ × Candidate)) → own ≡ get_or runs.runs i other) where
    own_is : own ≡ filter (is_candidate kept.name) runs.placed
    own_is =
        own_at [] ∙ zip_at (λ (k : KeptPackage) run. run ≡ filter (is_candidate k.name) runs.placed) package_record now runs.runs i kept [] are_now within
        ∙ ap (λ (k : Package). filter (is_candidate k.name) runs.placed) (sym is)

    pub said_here : AllByRecursion (λ c. IsSaid c.1.version) own
    said_here =
        subst (AllByRecursion (λ (c : ℕ × Candidate). IsSaid c.1.version)) (sym own_is)
        (run_said runs.candidates runs.placed ordered.in_order kept.name ordered.printable)

    pub below_here : AllByRecursion (λ c. c.0 < length runs.candidates) own
    below_here =
        subst (AllByRecursion (λ (c : ℕ × Candidate). c.0 < length runs.candidates)) (sym own_is)
        (run_below runs.candidates runs.placed ordered.in_order kept.name)

    -- its row
    pub row_here : (admits : Admits) (row : Option RowRecord) → IsRowInOrder admits nodes v own (package_record kept) row →
        IsRowIf admits nodes v runs.candidates (package_record kept) row
    row_here admits = row_in_order admits nodes v runs.candidates runs.placed ordered.in_order (package_record kept) own own_is

    module _ (new : Package) (same : SamePackage (package_record new) (package_record kept))
        (tests : tests_of (package_record new).lines ≤ tests_of (package_record kept).lines
        + most_tests (kept_asked nodes v (package_record kept).lines) own) where
      tests_here : tests_of (package_record new).lines ≤ tests_of (package_record kept).lines
          + most_tests (kept_asked nodes v (package_record kept).lines) (own_candidates runs.candidates kept.name)
      tests_here =
          let asks = kept_asked nodes v (package_record kept).lines in
          subst (λ n. tests_of (package_record new).lines ≤ tests_of (package_record kept).lines + n)
          (ap (most_tests asks) own_is ∙ run_tests runs.candidates runs.placed ordered.in_order kept.name asks) tests

      pub next_here : AreAnswered nodes v runs.candidates old (set now i new) (i + 1)
      next_here = next_answered nodes v runs.candidates old now i kept so_far within is new same tests_here

      -- so many tests more than before it
      pub more_here : all_tests (kept_records (set now i new)) ≤ all_tests (kept_records now)
          + most_tests_in nodes v runs.candidates (package_record kept)
      more_here = tests_set now i (most_tests_in nodes v runs.candidates (package_record kept)) kept new within is tests_here

      pub end_here : AllZip SamePackage (kept_records (set now i new)) (kept_records old)
          × (all_tests (kept_records (set now i new)) ≤ all_tests (kept_records old) + most_tests_of nodes v runs.candidates (kept_records old))
      end_here = answered_so_far nodes v runs.candidates old now i kept so_far within is new same tests_here

    module _ (admits : Admits) (rows : List RowRecord)
        (before : AreRowsFor admits nodes v runs.candidates (kept_records (take i old)) rows) where
      row_if : (row : Option RowRecord) → IsRowInOrder admits nodes v own (package_record kept) row →
          IsRowIf admits nodes v runs.candidates (package_record (first nodes v runs.candidates old now i kept so_far within is)) row
      row_if row h =
          row_if_same admits nodes v runs.candidates (package_record kept)
          (package_record (first nodes v runs.candidates old now i kept so_far within is))
          (was_here nodes v runs.candidates old now i kept so_far within is) row
          (row_in_order admits nodes v runs.candidates runs.placed ordered.in_order (package_record kept) own own_is row h)

      -- with its row, where it has one
      pub rows_here : (row : Option RowRecord) → IsRowInOrder admits nodes v own (package_record kept) row →
          AreRowsFor admits nodes v runs.candidates (kept_records (take (i + 1) old)) (rows ++ option_map_or (λ r. r ∷ []) row [])
      rows_here None h =
          subst (λ t. AreRowsFor admits nodes v runs.candidates t (rows ++ [])) (sym (taken nodes v runs.candidates old now i kept so_far within is))
          (subst (AreRowsFor admits nodes v runs.candidates (kept_records (take i old) ++ package_record (first nodes v runs.candidates old now i kept so_far within is) ∷ []))
          (sym (append-nil rows))
          (none_more admits nodes v runs.candidates (kept_records (take i old))
          (package_record (first nodes v runs.candidates old now i kept so_far within is)) rows before (row_if None h)))
      rows_here (Some row) h =
          subst (λ t. AreRowsFor admits nodes v runs.candidates t (rows ++ row ∷ [])) (sym (taken nodes v runs.candidates old now i kept so_far within is))
          (row_more admits nodes v runs.candidates (kept_records (take i old))
          (package_record (first nodes v runs.candidates old now i kept so_far within is)) rows row before (row_if (Some row) h))

-- ---- the rows themselves

pub seen_added : (rows : List Row) (row : Option Row) →
    map row_seen (rows ++ option_map_or (λ r. r ∷ []) row []) ≡ map row_seen rows ++ option_map_or (λ r. r ∷ []) (option_map row_seen row) []
seen_added rows None = map-append row_seen rows []
seen_added rows (Some row) = map-append row_seen rows (row ∷ [])

pub all_added : (P : Row → Type 0) (rows : List Row) (row : Option Row) → All P rows → IfSome row P →
    All P (rows ++ option_map_or (λ r. r ∷ []) row [])
all_added P rows None all h = subst (All P) (sym (append-nil rows)) all
all_added P rows (Some row) all h = All-push P rows row all h
