-- A case by the set of its lines.
use Rattle.std.proofs.Common.{◌≡◌, ◌∙◌, ◌<◌, ◌≤◌, ◌+◌, ◌||◌, ◌⊎◌, ℕ, zero, suc, true, false, List, [], ◌∷◌}
use Rattle.std.proofs.Common.{map, length, get_or, refl, sym, ap, subst, arith, Less, Equal}
use Rattle.std.proofs.Common.{Greater, inl, inr, true≢false}
use Rattle.std.proofs.lemmas.Bool.{cases_Bool}
use Rattle.std.proofs.lemmas.List.{length-map, get_or-map}
use Rattle.std.proofs.lemmas.List.Sorted.{searchable_from_sorted}
use Rattle.std.specs.List.{list_any, AllZip}
use Rattle.std.specs.List.Sorted.{IsStrictlySortedBy, IsSortedBy, IsNonDecreasingBy, IsPartitionPoint}
use Rattle.std.specs.Cmp.{tied_itself}
use Rattle.std.specs.Ordering.{is_lt, ordering_index, ordering_reverse}
use Rattle.pep508_diagram.specs.Question.{Valuation}
use Rattle.pep508_tree.specs.Tree.{Tree}
use Rattle.pep508_tree.specs.Meaning.{NodeRecord, holds}
use Rattle.pep508_cases.specs.Cases.{Marks, same_marks, marks_cmp, marks_of, sets_of}
use Rattle.pep508_cases.proofs.Counting.{marks_total}
use Rattle.pep508_cases.proofs.Marks.{marks_is}
use Rattle.reqtable_answer.specs.Asks.{names_prerelease}
use Rattle.pep508_cases.specs.Sets.{marked}
use Rattle.reqtable_table.specs.declared.table.Case.{Case}
use Rattle.reqtable_table.specs.declared.table.Package.{Package}
use Rattle.reqtable_table.specs.Answers.{kept_marks}
use Rattle.reqtable_table.specs.Cases.{IsCaseOf}
use Rattle.reqtable_table.specs.Casing.{case_record}
use Rattle.reqtable_table.specs.Choosing.{AreApplying, IsCaseFor}
use Rattle.reqtable_table.specs.Kept.{KeptLine, KeptCase, kept_front}
use Rattle.reqtable_table.specs.KeptLines.{line_record, package_record}
use Rattle.reqtable_table.specs.Standing.{HasItsLines}

-- ---- sets

pub marked_equal : (s t : Marks) → marks_cmp s t ≡ Equal → s ≡ t
marked_equal [] [] e = refl
marked_equal [] (y ∷ t) e = absurd (cc)
marked_equal (x ∷ s) [] e = absurd (cc)
marked_equal (true ∷ s) (true ∷ t) e = ap (λ l. true ∷ l) (marked_equal s t e)
marked_equal (true ∷ s) (false ∷ t) e = absurd (cc)
marked_equal (false ∷ s) (true ∷ t) e = absurd (cc)
marked_equal (false ∷ s) (false ∷ t) e = ap (λ l. false ∷ l) (marked_equal s t e)

pub differ : (a b : Marks) → (marks_cmp a b ≡ Equal → ⊥) → same_marks b a ≡ false
differ a b apart = elim (cases_Bool (same_marks b a)) [
  | inl e ↦ absurd (apart (ap (λ m. marks_cmp m b) (sym (marks_is b a e)) ∙ tied_itself marks_total b))
  | inr e ↦ e
]

adjacent : (sets : List Marks) → IsStrictlySortedBy marks_cmp sets → (k : ℕ) (d : Marks) → suc k < length sets →
    marks_cmp (get_or sets k d) (get_or sets (suc k) d) ≡ Less
unfolding IsStrictlySortedBy
adjacent [] h k d within = absurd (omega arith)
adjacent (s ∷ []) h k d within = absurd (omega arith)
adjacent (s ∷ (t ∷ sets)) h zero d within = h.0.0
adjacent (s ∷ (t ∷ sets)) h (suc k) d within = adjacent (t ∷ sets) h.1 k d (omega arith)

sorted : (sets : List Marks) → IsStrictlySortedBy marks_cmp sets → IsSortedBy (λ (a b : Marks). is_lt (marks_cmp a b)) sets
sorted sets h k d low within =
    let next : k + 1 ≡ suc k = omega arith in
    let less = adjacent sets h k d (omega arith) in
    ap (λ n. is_lt (marks_cmp (get_or sets n d) (get_or sets k d))) next
    ∙ ap is_lt (marks_total.antisymm (get_or sets (suc k) d) (get_or sets k d) ∙ ap ordering_reverse less)

-- a case of some lines by its set
record IsSetOf (lines : List KeptLine) (case : KeptCase) (set : Marks) : Type 0 where
  set_is : case.set ≡ set
  numbers : case.numbers ≡ map (λ (l : KeptLine). l.number) (marked set lines)
  prerelease : case.prerelease ≡ names_prerelease (map kept_front (marked set lines))

sets_are : (lines : List KeptLine) (cases : List KeptCase) (sets : List (Marks × Tree)) →
    AllZip (IsCaseOf lines) cases sets → AllZip (IsSetOf lines) cases (sets_of sets)
sets_are lines [] [] h = tt
sets_are lines [] (set ∷ sets) h = absurd h
sets_are lines (case ∷ cases) [] h = absurd h
sets_are lines (case ∷ cases) (set ∷ sets) h = (
  record { set_is = h.0.set_is; numbers = h.0.numbers; prerelease = h.0.prerelease },
  sets_are lines cases sets h.1,
)

module _ {A B C : Type 0} (R : A → B → Type 0) (f : C → A) where
  pub zip_at : (xs : List C) (ys : List B) (i : ℕ) (d : C) (e : B) → AllZip R (map f xs) ys → i < length xs →
      R (f (get_or xs i d)) (get_or ys i e)
  zip_at [] ys i d e h within = absurd (omega arith)
  zip_at (x ∷ xs) [] i d e h within = absurd h
  zip_at (x ∷ xs) (y ∷ ys) zero d e h within = h.0
  zip_at (x ∷ xs) (y ∷ ys) (suc i) d e h within = zip_at xs ys i d e h.1 (omega arith)

  pub zip_long : (xs : List C) (ys : List B) → AllZip R (map f xs) ys → length xs ≡ length ys
  zip_long [] [] h = refl
  zip_long [] (y ∷ ys) h = absurd h
  zip_long (x ∷ xs) [] h = absurd h
  zip_long (x ∷ xs) (y ∷ ys) h = ap suc (zip_long xs ys h.1)

none_same : (marks : Marks) (cases : List Case) (sets : List Marks) → length cases ≡ length sets →
    ((k : ℕ) (d : Case) → k < length cases → same_marks marks (get_or sets k []) ≡ false) →
    list_any (same_marks marks) sets ≡ false
none_same marks cases [] e h = refl
none_same marks [] (set ∷ sets) e h = absurd (omega arith)
none_same marks (case ∷ cases) (set ∷ sets) e h =
    let here = h 0 case (omega arith) in
    let rest = none_same marks cases sets (omega arith) (λ k d within. h (suc k) d (omega arith)) in
    λ i. here i || rest i

marks_of_lines : (nodes : List NodeRecord) (v : Valuation) (lines : List KeptLine) →
    marks_of nodes (map (λ (l : KeptLine). l.marker) lines) v ≡ kept_marks nodes v lines
marks_of_lines nodes v [] = refl
marks_of_lines nodes v (line ∷ lines) = ap (λ l. holds nodes line.marker v ∷ l) (marks_of_lines nodes v lines)

either_side : (k i : ℕ) → (k < i) ⊎ (i ≤ k)
either_side k zero = inr (omega arith)
either_side zero (suc i) = inl (omega arith)
either_side (suc k) (suc i) = elim (either_side k i) [
  | inl e ↦ inl (omega arith)
  | inr e ↦ inr (omega arith)
]

less_apart : (a b : Marks) → marks_cmp a b ≡ Less → marks_cmp a b ≡ Equal → ⊥
less_apart a b less equal = absurd (cc)

pub greater_apart : (a b : Marks) → marks_cmp a b ≡ Greater → marks_cmp a b ≡ Equal → ⊥
greater_apart a b greater equal = absurd (cc)

first_of : (cases : List Case) (place : ℕ) → place < length cases → Case
first_of [] place within = absurd (omega arith)
first_of (case ∷ cases) place within = case

-- ---- the case of the lines that apply

module _ (kept : Package) (marks : Marks) (stands : HasItsLines (package_record kept))
    (applying : AreApplying marks (package_record kept)) where
  abbrev lines : List KeptLine
  lines = map line_record kept.lines.items

  abbrev sets : List Marks
  sets = sets_of applying.has.sets

  abbrev cases : List Case
  cases = kept.cases.items

  pub marks_long : length marks ≡ length lines
  marks_long = ap length applying.are ∙ length-map lines (λ (l : KeptLine). holds applying.nodes l.marker applying.valuation)

  pub marks_lines_long : length marks ≡ length kept.lines.items
  marks_lines_long = marks_long ∙ length-map kept.lines.items line_record

  are : AllZip (IsSetOf lines) (map case_record cases) sets
  are = sets_are lines (map case_record cases) applying.has.sets applying.has.each

  cases_long : length cases ≡ length sets
  cases_long = zip_long (IsSetOf lines) case_record cases sets are

  set_at : (i : ℕ) (d : Case) → i < length cases → (get_or cases i d).set ≡ get_or sets i []
  set_at i d within = (zip_at (IsSetOf lines) case_record cases sets i d [] are within).set_is

  pub searchable : IsNonDecreasingBy (λ (case : Case). ordering_index (marks_cmp case.set marks)) cases
  searchable i j d low within =
      let long = cases_long in
      let rises = searchable_from_sorted marks_total (λ (m : Marks). m) sets marks (sorted sets applying.has.are.rising) in
      subst (λ s. ordering_index (marks_cmp s marks) ≤ ordering_index (marks_cmp (get_or cases j d).set marks))
      (sym (set_at i d (omega arith)))
      (subst (λ s. ordering_index (marks_cmp (get_or sets i []) marks) ≤ ordering_index (marks_cmp s marks))
      (sym (set_at j d within)) (rises i j [] low (omega arith)))

  same_at : (place : ℕ) (d : Case) → place < length cases → marks_cmp (get_or cases place d).set marks ≡ Equal →
      get_or sets place [] ≡ marks
  same_at place d within equal =
      sym (set_at place d within) ∙ marked_equal (get_or cases place d).set marks equal

  pub found_case : (place : ℕ) → place < length cases →
      ((d : Case) → marks_cmp (get_or cases place d).set marks ≡ Equal) →
      (other : Case) → IsCaseFor marks lines (get_or cases place other)
  found_case place within equal other =
      let is = zip_at (IsSetOf lines) case_record cases sets place other [] are within in
      subst (λ m. IsCaseFor m lines (get_or cases place other)) (same_at place other within (equal other))
      (record { numbers = is.numbers; prerelease = is.prerelease })

  pub found_numbers : (place : ℕ) → place < length cases →
      ((d : Case) → marks_cmp (get_or cases place d).set marks ≡ Equal) → (other : KeptCase) →
      (get_or (map case_record cases) place other).numbers ≡ map (λ (l : KeptLine). l.number) (marked marks lines)
  found_numbers place within equal other =
      let case = first_of cases place within in
      let is = zip_at (IsSetOf lines) case_record cases sets place case [] are within in
      let same = same_at place case within (equal case) in
      ap (λ (c : KeptCase). c.numbers) (get_or-map case_record cases place case other within)
      ∙ is.numbers ∙ ap (λ m. map (λ (l : KeptLine). l.number) (marked m lines)) same

  pub is_there : (i : ℕ) → IsPartitionPoint (λ (case : Case). marks_cmp case.set marks ≡ Less)
      (λ case. marks_cmp case.set marks ≡ Greater) cases i → ⊥
  is_there i parted =
      let there : list_any (same_marks marks) sets ≡ true =
      ap (λ m. list_any (same_marks m) sets)
      (applying.are ∙ sym (marks_of_lines applying.nodes applying.valuation lines))
      ∙ applying.has.are.all applying.valuation in
      let at : (k : ℕ) (d : Case) → k < length cases → marks_cmp (get_or sets k []) marks ≡ marks_cmp (get_or cases k d).set marks =
      (λ k d within. ap (λ s. marks_cmp s marks) (sym (set_at k d within))) in
      true≢false (sym there ∙ none_same marks cases sets cases_long (λ k d within. elim (either_side k i) [
        | inl less ↦ differ (get_or sets k []) marks
            (less_apart (get_or sets k []) marks (at k d within ∙ parted.0 k d (omega arith) less))
        | inr not_less ↦ differ (get_or sets k []) marks
            (greater_apart (get_or sets k []) marks (at k d within ∙ parted.1 k d not_less within))
      ]))
