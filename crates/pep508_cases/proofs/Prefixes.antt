-- The cases of some of the trees are among those of all.
use Rattle.std.proofs.Common.{◌≡◌, ℕ, suc, ◌<◌, ◌++◌, List, [], ◌∷◌, map, length, take, drop, refl, ap, ap₂, sym, subst}
use Rattle.std.proofs.Common.{◌∙◌, arith, Less}
use Rattle.std.specs.List.{AllByRecursion}
use Rattle.std.proofs.lemmas.List.{map-append, take-append-drop}
use Rattle.std.specs.List.Sorted.{IsStrictlySortedBy}
use Rattle.pep508_diagram.specs.Question.{Valuation}
use Rattle.pep508_tree.specs.Tree.{Tree}
use Rattle.pep508_tree.specs.Meaning.{NodeRecord, holds}
use Rattle.pep508_cases.specs.declared.cases.TreeCase.{TreeCase}
use Rattle.pep508_cases.specs.Cases.{Marks, Marking, marks_cmp, marks_of, IsRealised, IsCase}
use Rattle.pep508_cases.specs.Cases.{AreCases, HasMore, sets_of}
use Rattle.pep508_cases.specs.Seen.{cases_seen}
use Rattle.pep508_cases.proofs.Marks.{longer_rise}

pub marks_long : (old : List NodeRecord) (trees : List Tree) (v : Valuation) → length (marks_of old trees v) ≡ length trees
marks_long old [] v = refl
marks_long old (t ∷ trees) v = ap suc (marks_long old trees v)

-- ---- cases of some of the trees are among those of all

module _ (nodes : List NodeRecord) (front full : Marking) (n : ℕ) (long : (v : Valuation) → length (front v) ≡ n)
    (back : Marking) (is : (v : Valuation) → full v ≡ front v ++ back v) where
  full_sets : (cases : List (Marks × Tree)) → AllByRecursion (IsCase front nodes) cases → List Marks
  full_sets [] each = []
  full_sets (c ∷ cases) each = full each.0.realised.0 ∷ full_sets cases each.1

  sets_many : (cases : List (Marks × Tree)) (each : AllByRecursion (IsCase front nodes) cases) →
      length (full_sets cases each) ≡ length cases
  unfolding full_sets
  sets_many [] each = refl
  sets_many (c ∷ cases) each = ap suc (sets_many cases each.1)

  sets_realised : (cases : List (Marks × Tree)) (each : AllByRecursion (IsCase front nodes) cases) →
      AllByRecursion (IsRealised full) (full_sets cases each)
  unfolding full_sets
  sets_realised [] each = tt
  sets_realised (c ∷ cases) each = ((each.0.realised.0, refl), sets_realised cases each.1)

  less_full : (v w : Valuation) (set : Marks) → front w ≡ set → marks_cmp (front v) set ≡ Less → marks_cmp (full v) (full w) ≡ Less
  less_full v w set e less =
      ap₂ marks_cmp (is v) (is w)
      ∙ longer_rise (front v) (front w) (back v) (back w) (long v ∙ sym (long w)) (ap (marks_cmp (front v)) e ∙ less)

  less_sets : (v : Valuation) (cases : List (Marks × Tree)) (each : AllByRecursion (IsCase front nodes) cases) →
      AllByRecursion (λ y. marks_cmp (front v) y ≡ Less) (sets_of cases) →
      AllByRecursion (λ y. marks_cmp (full v) y ≡ Less) (full_sets cases each)
  unfolding full_sets
  less_sets v [] each less = tt
  less_sets v (c ∷ cases) each less =
      (less_full v each.0.realised.0 c.0 each.0.realised.1 less.0, less_sets v cases each.1 less.1)

  sets_rise : (cases : List (Marks × Tree)) (each : AllByRecursion (IsCase front nodes) cases) →
      IsStrictlySortedBy marks_cmp (sets_of cases) → IsStrictlySortedBy marks_cmp (full_sets cases each)
  unfolding full_sets IsStrictlySortedBy
  sets_rise [] each rises = tt
  sets_rise (c ∷ cases) each rises = (
    less_sets each.0.realised.0 cases each.1
        (subst (λ m. AllByRecursion (λ y. marks_cmp m y ≡ Less) (sets_of cases)) (sym each.0.realised.1) rises.0),
    sets_rise cases each.1 rises.1,
  )

  pub more_sets : (limit : ℕ) (cases : List (Marks × Tree)) → AreCases front nodes cases → limit < length cases →
      HasMore limit full
  more_sets limit cases are many = record {
    sets = full_sets cases are.each;
    rising = sets_rise cases are.each are.rising;
    realised = sets_realised cases are.each;
    more = let e = sets_many cases are.each in omega arith;
  }

-- ---- as a loop over the trees has them

pub marks_split : (nodes : List NodeRecord) (k : ℕ) (trees : List Tree) (v : Valuation) →
    marks_of nodes trees v ≡ marks_of nodes (take k trees) v ++ marks_of nodes (drop k trees) v
marks_split nodes k trees v =
    ap (map (λ t. holds nodes t v)) (sym (take-append-drop k trees))
    ∙ map-append (λ t. holds nodes t v) (take k trees) (drop k trees)

seen_long : (cases : List TreeCase) → length (cases_seen cases) ≡ length cases
seen_long [] = refl
seen_long (c ∷ cases) = ap suc (seen_long cases)

pub too_many : (start nodes : List NodeRecord) (limit k : ℕ) (trees : List Tree) (cases : List TreeCase) →
    AreCases (marks_of start (take k trees)) nodes (cases_seen cases) → limit < length cases →
    HasMore limit (marks_of start trees)
too_many start nodes limit k trees cases are many =
    more_sets nodes (marks_of start (take k trees)) (marks_of start trees) (length (take k trees))
    (marks_long start (take k trees)) (marks_of start (drop k trees)) (marks_split start k trees) limit
    (cases_seen cases) are
    (let e = seen_long cases in omega arith)
