-- What is known of a package stays so.
use Rattle.std.proofs.Common.{◌≡◌, ◌∙◌, ◌<◌, ◌≤◌, ◌⊎◌, ℕ, zero, suc, Bool, true, false, cond, List, [], ◌∷◌}
use Rattle.std.proofs.Common.{◌++◌, map, filter, take, replicate, set, length, get_or, Option, Some, None}
use Rattle.std.proofs.Common.{refl, sym, ap, subst, arith, inl, inr}
use Rattle.std.proofs.lemmas.List.{length-map}
use Rattle.std.specs.Borrow.{Bor}
use Rattle.std.specs.List.{AllZip, AllByRecursion}
use Rattle.std.specs.List.Sorted.{IsStrictlySortedBy}
use Rattle.std.specs.Ordering.{nat_cmp}
use Rattle.pep440_version.specs.Record.{VersionRecord}
use Rattle.pep508_tree.specs.Tree.{always}
use Rattle.pep508_cases.specs.Cases.{Marks}
use Rattle.reqtable_candidates.specs.Ordered.{placed_seen}
use Rattle.reqtable_candidates.specs.declared.candidates.Candidate.{Candidate}
use Rattle.reqtable_candidates.specs.declared.ordered.Placed.{Placed}
use Rattle.reqtable_answer.specs.Admission.{Admits, AnswersBy}
use Rattle.reqtable_answer.specs.Asks.{is_candidate}
use Rattle.reqtable_answer.specs.Rows.{IsTakenBelow}
use Rattle.reqtable_answer.specs.declared.answer.Outcome.{Outcome}
use Rattle.pep508_cases.specs.Sets.{marked}
use Rattle.reqtable_table.specs.Answers.{SameLine, SamePackage}
use Rattle.reqtable_table.specs.Choosing.{case_asks, outcome_in_order}
use Rattle.reqtable_table.specs.Kept.{KeptLine, KeptCase, KeptPackage, kept_front}
use Rattle.reqtable_table.specs.Runs.{OwnRecord, RunsRecord, AreRunsOf, IsTold, AreTold, AreUntold, owns_of}
use Rattle.reqtable_table.specs.KeptLines.{line_record, package_record}
use Rattle.reqtable_table.specs.Owns.{own_record}
use Rattle.reqtable_table.specs.declared.runs.Told.{Told}
use Rattle.reqtable_table.specs.declared.table.Package.{Package}
use Rattle.reqtable_table.specs.Standing.{HasItsLines}
use Rattle.reqtable_table.proofs.AskedLines.{same_fronts}
use Rattle.reqtable_table.proofs.Marking.{marked_map}
use Rattle.reqtable_table.proofs.Packages.{as_long}
use Rattle.reqtable_table.proofs.Same.{numbers_same}
use Rattle.reqtable_table.proofs.ByNumbers.{same_marked}

no_case : KeptCase
no_case = record { set = []; numbers = []; tree = always; prerelease = false }

abbrev number : KeptLine → ℕ
number line = line.number

-- ---- one more is told

abbrev IsThere : List (Option Outcome) → ℕ → Outcome → Type 0
IsThere told place outcome = get_or told place None ≡ Some outcome

same_some : (a b : Outcome) → Some a ≡ Some b → a ≡ b
same_some a b e = cc

told_or : (told : List (Option Outcome)) (p q : ℕ) (now found : Outcome) → IsThere (set told p (Some now)) q found →
    ((q ≡ p) × (now ≡ found)) ⊎ IsThere told q found
told_or [] p q now found h = inr h
told_or (t ∷ told) zero zero now found h = inl (refl, same_some now found h)
told_or (t ∷ told) zero (suc q) now found h = inr h
told_or (t ∷ told) (suc p) zero now found h = inr h
told_or (t ∷ told) (suc p) (suc q) now found h = elim (told_or told p q now found h) [
  | inl both ↦ inl (ap suc both.0, both.1)
  | inr before ↦ inr before
]

-- lines of the same numbers are the same
pub one_set : (lines : List KeptLine) (s t : Marks) → IsStrictlySortedBy nat_cmp (map number lines) → length s ≡ length lines →
    length t ≡ length lines → map number (marked s lines) ≡ map number (marked t lines) → s ≡ t
one_set lines s t rising a b e =
    let long = length-map lines number in
    let same = marked_map number s lines ∙ e ∙ sym (marked_map number t lines) in
    same_marked (map number lines) s t rising (omega arith) (omega arith) same

module _ (returns : Bor VersionRecord → Bool → Bool → Type 0) (kept : KeptPackage) where
  pub told_more : (own new : OwnRecord) (place : ℕ) (marks : Marks) (now : Outcome) → IsTold returns kept own →
      new.run ≡ own.run → new.told ≡ set own.told place (Some now) → HasItsLines kept → length marks ≡ length kept.lines →
      ((other : KeptCase) → (get_or kept.cases place other).numbers ≡ map (λ line. line.number) (marked marks kept.lines)) →
      ((admits : Admits) → AnswersBy returns admits → now ≡ outcome_in_order admits (case_asks marks kept.lines) own.run) →
      ((count : ℕ) → AllByRecursion (λ c. c.0 < count) own.run → IsTakenBelow count now) → IsTold returns kept new
  told_more own new place marks now known same_run same_told stands long numbers right below = record {
    right = λ admits by q set_there other found there long_there at.
        elim (told_or own.told place q now found (ap (λ l. get_or l q None) (sym same_told) ∙ there)) [
          | inl both ↦
              let same : set_there ≡ marks =
              one_set kept.lines set_there marks stands.rising long_there long
              (sym at ∙ ap (λ n. (get_or kept.cases n other).numbers) both.0 ∙ numbers other) in
              sym both.1 ∙ right admits by
              ∙ (λ i. outcome_in_order admits (case_asks (sym same i) kept.lines) (sym same_run i))
          | inr before ↦
              known.right admits by q set_there other found before long_there at
              ∙ (λ i. outcome_in_order admits (case_asks set_there kept.lines) (sym same_run i))
        ];
    below = λ count q found there under.
        let run_under = subst (AllByRecursion (λ (c : ℕ × Candidate). c.0 < count)) same_run under in
        elim (told_or own.told place q now found (ap (λ l. get_or l q None) (sym same_told) ∙ there)) [
          | inl both ↦ subst (IsTakenBelow count) both.1 (below count run_under)
          | inr before ↦ known.below count q found before run_under
        ];
  }

-- what was told
pub told_outcome : (returns : Bor VersionRecord → Bool → Bool → Type 0) (kept : Package) (run : List Placed) (told : Told) (marks : Marks)
    (place : ℕ) (outcome : Outcome) → IsTold returns (package_record kept) (own_record run told) →
    get_or told.outcomes.items place None ≡ Some outcome → length marks ≡ length kept.lines.items →
    ((other : KeptCase) → (get_or (package_record kept).cases place other).numbers
    ≡ map (λ line. line.number) (marked marks (package_record kept).lines)) →
    (admits : Admits) → AnswersBy returns admits →
    outcome ≡ outcome_in_order admits (case_asks marks (map line_record kept.lines.items)) (map placed_seen run)
told_outcome returns kept run told marks place outcome known there long numbers admits by =
    known.right admits by place marks no_case outcome there (long ∙ sym (length-map kept.lines.items line_record)) (numbers no_case)

-- ---- where nothing is told yet

abbrev untold : Option Outcome
untold = None

nothing_taken : (n : ℕ) → take {A = Option Outcome} n [] ≡ []
nothing_taken zero = refl
nothing_taken (suc n) = refl

all_none : (m place : ℕ) → get_or (replicate m untold) place None ≡ None
all_none zero place = refl
all_none (suc m) zero = refl
all_none (suc m) (suc place) = all_none m place

by_result : (b : Bool) (n m place : ℕ) → get_or (cond b (take n [] ++ replicate m untold) []) place None ≡ None
by_result true n m place = ap (λ l. get_or (l ++ replicate m None) place None) (nothing_taken n) ∙ all_none m place
by_result false n m place = refl

pub none_told : (b : Bool) (n m : ℕ) (old new : List (Option Outcome)) → old ≡ [] →
    new ≡ cond b (take n old ++ replicate m None) old → (place : ℕ) → get_or new place None ≡ None
none_told b n m old new e grown place =
    ap (λ l. get_or l place None) (grown ∙ (λ i. cond b (take n (e i) ++ replicate m None) (e i))) ∙ by_result b n m place

-- ---- of packages of whose lines more was asked

asks_same : (marks : Marks) (a b : List KeptLine) → AllZip SameLine a b → case_asks marks a ≡ case_asks marks b
asks_same marks a b s =
    sym (marked_map kept_front marks a) ∙ ap (marked marks) (same_fronts a b s) ∙ marked_map kept_front marks b

pub marked_numbers : (marks : Marks) (a b : List KeptLine) → AllZip SameLine a b → map number (marked marks a) ≡ map number (marked marks b)
marked_numbers marks a b s =
    sym (marked_map number marks a) ∙ ap (marked marks) (numbers_same a b s) ∙ marked_map number marks b

module _ (returns : Bor VersionRecord → Bool → Bool → Type 0) where
  pub told_same : (a b : KeptPackage) (own : OwnRecord) → SamePackage a b → IsTold returns b own → IsTold returns a own
  told_same a b own s known = record {
    right = λ admits by place marks other found there long at.
        known.right admits by place marks other found there (long ∙ as_long SameLine a.lines b.lines s.lines)
        (ap (λ cases. (get_or cases place other).numbers) (sym s.cases) ∙ at ∙ marked_numbers marks a.lines b.lines s.lines)
        ∙ ap (λ asks. outcome_in_order admits asks own.run) (sym (asks_same marks a.lines b.lines s.lines));
    below = known.below;
  }

  -- ---- at first

  none_there : (own : OwnRecord) → ((place : ℕ) → get_or own.told place None ≡ None) → (place : ℕ) (found : Outcome) →
      IsThere own.told place found → ⊥
  none_there own none place found there =
      let e : None ≡ Some found = sym (none place) ∙ there in
      absurd (cc)

  first_told : (placed : List (ℕ × Candidate)) (table : List KeptPackage) (runs : List (List (ℕ × Candidate)))
      (all : List (List (Option Outcome))) → AllZip (λ kept run. run ≡ filter (is_candidate kept.name) placed) table runs →
      AllZip (λ run told. (place : ℕ) → get_or told place None ≡ None) runs all → AllZip (IsTold returns) table (owns_of runs all)
  first_told placed [] [] [] are none = tt
  first_told placed [] [] (told ∷ all) are none = absurd none
  first_told placed [] (run ∷ runs) all are none = absurd are
  first_told placed (kept ∷ table) [] all are none = absurd are
  first_told placed (kept ∷ table) (run ∷ runs) [] are none = absurd none
  first_told placed (kept ∷ table) (run ∷ runs) (told ∷ all) are none = (
    record {
      right = λ admits by place marks other found there long at.
          absurd (none_there (record { run = run; told = told }) none.0 place found there);
      below = λ count place found there under. absurd (none_there (record { run = run; told = told }) none.0 place found there);
    },
    first_told placed table runs all are.1 none.1,
  )

  -- what is known of a table's packages where nothing is
  pub told_at_first : (table : List KeptPackage) (all : RunsRecord) → AreRunsOf table all → AreUntold all → AreTold returns table all
  told_at_first table all are none = first_told all.placed table all.runs all.told are none

  -- ---- at a place

  abbrev outcomes : Told → List (Option Outcome)
  outcomes told = told.outcomes.items

  abbrev AllTold : List Package → List (List (ℕ × Candidate)) → List Told → Type 0
  AllTold table runs all = AllZip (IsTold returns) (map package_record table) (owns_of runs (map outcomes all))

  pub told_here : (table : List Package) (runs : List (List (ℕ × Candidate))) (all : List Told) (i : ℕ) (kept : Package) (one : Told)
      (d : List (ℕ × Candidate)) → AllTold table runs all → i < length table → kept ≡ get_or table i kept → one ≡ get_or all i one →
      IsTold returns (package_record kept) (record { run = get_or runs i d; told = outcomes one })
  told_here [] runs all i kept one d h within is at = absurd (omega arith)
  told_here (p ∷ table) [] all i kept one d h within is at = absurd h
  told_here (p ∷ table) (run ∷ runs) [] i kept one d h within is at = absurd h
  told_here (p ∷ table) (run ∷ runs) (t ∷ all) zero kept one d h within is at =
      subst (λ k. IsTold returns (package_record k) (record { run = run; told = outcomes one })) (sym is)
      (subst (λ o. IsTold returns (package_record p) (record { run = run; told = outcomes o })) (sym at) h.0)
  told_here (p ∷ table) (run ∷ runs) (t ∷ all) (suc i) kept one d h within is at =
      told_here table runs all i kept one d h.1 (omega arith) is at

  pub told_long : (table : List Package) (runs : List (List (ℕ × Candidate))) (all : List Told) → AllTold table runs all →
      length table ≤ length all
  told_long [] runs all h = omega arith
  told_long (p ∷ table) [] all h = absurd h
  told_long (p ∷ table) (run ∷ runs) [] h = absurd h
  told_long (p ∷ table) (run ∷ runs) (t ∷ all) h = let rest = told_long table runs all h.1 in omega arith

  pub told_next : (table : List Package) (runs : List (List (ℕ × Candidate))) (all : List Told) (i : ℕ) (new : Package) (more : Told)
      (d : List (ℕ × Candidate)) → AllTold table runs all → i < length table →
      IsTold returns (package_record new) (record { run = get_or runs i d; told = outcomes more }) →
      AllTold (set table i new) runs (set all i more)
  told_next [] runs all i new more d h within is = absurd (omega arith)
  told_next (p ∷ table) [] all i new more d h within is = absurd h
  told_next (p ∷ table) (run ∷ runs) [] i new more d h within is = absurd h
  told_next (p ∷ table) (run ∷ runs) (t ∷ all) zero new more d h within is = (is, h.1)
  told_next (p ∷ table) (run ∷ runs) (t ∷ all) (suc i) new more d h within is =
      (h.0, told_next table runs all i new more d h.1 (omega arith) is)

  -- by the candidates at that place
  module _ (table : List Package) (runs : List (List (ℕ × Candidate))) (all : List Told) (i : ℕ) (kept : Package)
      (h : AllTold table runs all) (within : i < length table) (is : kept ≡ get_or table i kept) (own : List (ℕ × Candidate))
      (own_at : own ≡ get_or runs i own) where
    pub told_own : (one : Told) → one ≡ get_or all i one →
        IsTold returns (package_record kept) (record { run = own; told = outcomes one })
    told_own one at =
        subst (λ r. IsTold returns (package_record kept) (record { run = r; told = outcomes one })) (sym own_at)
        (told_here table runs all i kept one own h within is at)

    pub own_told : (new : Package) (more : Told) → SamePackage (package_record new) (package_record kept) →
        IsTold returns (package_record kept) (record { run = own; told = outcomes more }) →
        AllTold (set table i new) runs (set all i more)
    own_told new more same known =
        told_next table runs all i new more own h within
        (subst (λ r. IsTold returns (package_record new) (record { run = r; told = outcomes more })) own_at
        (told_same (package_record new) (package_record kept) (record { run = own; told = outcomes more }) same known))
