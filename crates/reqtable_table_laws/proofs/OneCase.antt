-- Which case a valuation lies in, and cases of lines with other numbers.
use Rattle.std.proofs.Common.{◌≡◌, ◌∙◌, ◌||◌, suc, Bool, true, false, cond, List, [], ◌∷◌, map, filter}
use Rattle.std.proofs.Common.{length, refl, sym, ap, subst, true≢false, Less, inl, inr}
use Rattle.std.proofs.lemmas.Bool.{cases_Bool}
use Rattle.std.specs.List.{list_any, AllZip, AllByRecursion}
use Rattle.std.specs.List.Sorted.{IsStrictlySortedBy}
use Rattle.std.specs.Ordering.{ordering_reverse}
use Rattle.pep508_diagram.specs.Question.{Valuation}
use Rattle.pep508_tree.specs.Tree.{Tree}
use Rattle.pep508_tree.specs.Meaning.{NodeRecord, holds}
use Rattle.pep508_cases.specs.Cases.{Marks, same_marks, marks_cmp, sets_of, IsCase, AreCases}
use Rattle.pep508_cases.proofs.Counting.{marks_total}
use Rattle.pep508_cases.proofs.Marks.{marks_is}
use Rattle.reqtable_answer.specs.Asks.{names_prerelease}
use Rattle.reqtable_requirements.specs.Asks.{applies}
use Rattle.reqtable_requirements.specs.LineReading.{LineRecord}
use Rattle.pep508_cases.specs.Sets.{marked}
use Rattle.reqtable_cases.specs.Lines.{line_marks, numbers_of, asked_by}
use Rattle.reqtable_table.specs.Cases.{IsCaseOfLines, AreCasesOf, IsRenumbered, SameCase}
use Rattle.reqtable_table.specs.Kept.{KeptCase}
use Rattle.reqtable_table.proofs.Marking.{marked_map}
use Rattle.reqtable_table.proofs.Searching.{differ, greater_apart}

-- ---- one set is that of a valuation

none_behind : (m s : Marks) (sets : List Marks) → m ≡ s → AllByRecursion (λ y. marks_cmp s y ≡ Less) sets →
    length (filter (same_marks m) sets) ≡ 0
none_behind m s [] e h = refl
none_behind m s (y ∷ sets) e h =
    let apart : same_marks s y ≡ false =
    differ y s (greater_apart y s (marks_total.antisymm y s ∙ ap ordering_reverse h.0)) in
    let here : same_marks m y ≡ false = ap (λ x. same_marks x y) e ∙ apart in
    ap (λ b. length (cond b (y ∷ filter (same_marks m) sets) (filter (same_marks m) sets))) here
    ∙ none_behind m s sets e h.1

just_one : (m : Marks) (sets : List Marks) → IsStrictlySortedBy marks_cmp sets → list_any (same_marks m) sets ≡ true →
    length (filter (same_marks m) sets) ≡ 1
unfolding IsStrictlySortedBy
just_one m [] rising there = absurd (true≢false (sym there))
just_one m (s ∷ sets) rising there = elim (cases_Bool (same_marks m s)) [
  | inl e ↦
      ap (λ b. length (cond b (s ∷ filter (same_marks m) sets) (filter (same_marks m) sets))) e
      ∙ ap suc (none_behind m s sets (marks_is m s e) rising.0)
  | inr e ↦
      ap (λ b. length (cond b (s ∷ filter (same_marks m) sets) (filter (same_marks m) sets))) e
      ∙ just_one m sets rising.1 (sym (ap (λ b. b || list_any (same_marks m) sets) e) ∙ there)
]

module _ {A B : Type 0} where
  kept_by : (a b : Bool) (x : A) (y : B) (xs : List A) (ys : List B) → a ≡ b → length xs ≡ length ys →
      length (cond a (x ∷ xs) xs) ≡ length (cond b (y ∷ ys) ys)
  kept_by true true x y xs ys e h = ap suc h
  kept_by true false x y xs ys e h = absurd (true≢false e)
  kept_by false true x y xs ys e h = absurd (true≢false (sym e))
  kept_by false false x y xs ys e h = h

module _ (nodes : List NodeRecord) (lines : List LineRecord) (v : Valuation) where
  as_many : (cases : List KeptCase) (sets : List (Marks × Tree)) → AllZip (IsCaseOfLines lines) cases sets →
      AllByRecursion (IsCase (line_marks lines) nodes) sets →
      length (filter (λ case. holds nodes case.tree v) cases) ≡ length (filter (same_marks (line_marks lines v)) (sets_of sets))
  as_many [] [] each are = refl
  as_many [] (set ∷ sets) each are = absurd each
  as_many (case ∷ cases) [] each are = absurd each
  as_many (case ∷ cases) (set ∷ sets) each are =
      kept_by (holds nodes case.tree v) (same_marks (line_marks lines v) set.0) case set.0
      (filter (λ c. holds nodes c.tree v) cases) (filter (same_marks (line_marks lines v)) (sets_of sets))
      (ap (λ t. holds nodes t v) each.0.tree ∙ are.0.means v) (as_many cases sets each.1 are.1)

  pub one_case : (cases : List KeptCase) → AreCasesOf nodes lines cases →
      length (filter (λ case. holds nodes case.tree v) cases) ≡ 1
  one_case cases h =
      as_many cases h.sets h.each h.are.each ∙ just_one (line_marks lines v) (sets_of h.sets) h.are.rising (h.are.all v)

-- ---- the same lines with other numbers

marks_alike : (v : Valuation) (lines others : List LineRecord) → AllZip IsRenumbered lines others →
    line_marks lines v ≡ line_marks others v
marks_alike v [] [] h = refl
marks_alike v [] (o ∷ others) h = absurd h
marks_alike v (l ∷ lines) [] h = absurd h
marks_alike v (l ∷ lines) (o ∷ others) h =
    let here : applies v l ≡ applies v o = (λ i. applies v (record { number = l.number; front = h.0.front i; formula = h.0.formula i })) in
    let rest = marks_alike v lines others h.1 in
    λ i. here i ∷ rest i

fronts_alike : (lines others : List LineRecord) → AllZip IsRenumbered lines others →
    map (λ (l : LineRecord). l.front) lines ≡ map (λ (l : LineRecord). l.front) others
fronts_alike [] [] h = refl
fronts_alike [] (o ∷ others) h = absurd h
fronts_alike (l ∷ lines) [] h = absurd h
fronts_alike (l ∷ lines) (o ∷ others) h =
    let here = h.0.front in
    let rest = fronts_alike lines others h.1 in
    λ i. here i ∷ rest i

asked_alike : (set : Marks) (lines others : List LineRecord) → AllZip IsRenumbered lines others →
    asked_by set lines ≡ asked_by set others
asked_alike set lines others h =
    sym (marked_map (λ (l : LineRecord). l.front) set lines) ∙ ap (marked set) (fronts_alike lines others h)
    ∙ marked_map (λ (l : LineRecord). l.front) set others

renumbered : List LineRecord → List KeptCase → List (Marks × Tree) → List KeptCase
renumbered others [] sets = []
renumbered others (case ∷ cases) [] = []
renumbered others (case ∷ cases) (set ∷ sets) =
    record { set = case.set; numbers = numbers_of set.0 others; tree = case.tree; prerelease = case.prerelease }
    ∷ renumbered others cases sets

module _ (lines others : List LineRecord) (alike : AllZip IsRenumbered lines others) where
  each_again : (cases : List KeptCase) (sets : List (Marks × Tree)) → AllZip (IsCaseOfLines lines) cases sets →
      AllZip (IsCaseOfLines others) (renumbered others cases sets) sets
  unfolding renumbered
  each_again [] [] h = tt
  each_again [] (set ∷ sets) h = absurd h
  each_again (case ∷ cases) [] h = absurd h
  each_again (case ∷ cases) (set ∷ sets) h = (
    record {
      numbers = refl;
      tree = h.0.tree;
      prerelease = h.0.prerelease ∙ ap names_prerelease (asked_alike set.0 lines others alike);
    },
    each_again cases sets h.1,
  )

  same_again : (cases : List KeptCase) (sets : List (Marks × Tree)) → AllZip (IsCaseOfLines lines) cases sets →
      AllZip SameCase cases (renumbered others cases sets)
  unfolding renumbered
  same_again [] [] h = tt
  same_again [] (set ∷ sets) h = absurd h
  same_again (case ∷ cases) [] h = absurd h
  same_again (case ∷ cases) (set ∷ sets) h = (record { tree = refl; prerelease = refl }, same_again cases sets h.1)

  pub cases_again : (nodes : List NodeRecord) (cases : List KeptCase) → AreCasesOf nodes lines cases →
      (found : List KeptCase) × AreCasesOf nodes others found × AllZip SameCase cases found
  cases_again nodes cases h =
      let same : line_marks lines ≡ line_marks others = (λ i v. marks_alike v lines others alike i) in (
        renumbered others cases h.sets,
        record {
          sets = h.sets;
          are = subst (λ marking. AreCases marking nodes h.sets) same h.are;
          each = each_again cases h.sets h.each;
        },
        same_again cases h.sets h.each,
      )
