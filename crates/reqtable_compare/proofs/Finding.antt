-- Where the set of a valuation stands among the summaries of cases.
use Rattle.std.proofs.Common.{◌≡◌, ◌∙◌, ◌||◌, Bool, true, false, List, [], ◌∷◌, ◌++◌, refl, sym, ap, subst}
use Rattle.std.proofs.Common.{Less, Greater}
use Rattle.std.specs.List.{list_any, AllZip, AllByRecursion}
use Rattle.std.specs.List.Sorted.{IsStrictlySortedBy}
use Rattle.std.specs.Ordering.{ordering_reverse}
use Rattle.pep508_diagram.specs.Question.{Valuation}
use Rattle.pep508_tree.specs.Tree.{Tree}
use Rattle.pep508_tree.specs.Meaning.{NodeRecord, holds}
use Rattle.pep508_cases.specs.Cases.{Marks, same_marks, marks_cmp, sets_of, IsCase}
use Rattle.pep508_cases.proofs.Counting.{marks_total}
use Rattle.pep508_cases.proofs.Marks.{marks_is}
use Rattle.reqtable_requirements.specs.LineReading.{LineRecord}
use Rattle.reqtable_cases.specs.Lines.{line_marks}
use Rattle.reqtable_compare.specs.Summed.{SummaryRecord, IsOfSet, AreSummaries}

-- the one whose lines are those that apply
pub record Found (nodes : List NodeRecord) (lines : List LineRecord) (summaries : List SummaryRecord)
    (v : Valuation) : Type 1 where
  pub summary : SummaryRecord
  pub set : Marks × Tree
  pub of : IsOfSet lines summary set
  pub marks : line_marks lines v ≡ set.0
  pub there : holds nodes summary.tree v ≡ true
  pub any : (P : SummaryRecord → Type 0) → AllByRecursion P summaries → P summary

later : (nodes : List NodeRecord) (lines : List LineRecord) (s : SummaryRecord) (summaries : List SummaryRecord)
    (v : Valuation) → Found nodes lines summaries v → Found nodes lines (s ∷ summaries) v
later nodes lines s summaries v found = record {
  summary = found.summary;
  set = found.set;
  of = found.of;
  marks = found.marks;
  there = found.there;
  any = λ P all. found.any P all.1;
}

pub itself : (m : Marks) → same_marks m m ≡ true
itself [] = refl
itself (true ∷ m) = itself m
itself (false ∷ m) = itself m

abbrev pub here : (nodes : List NodeRecord) (lines : List LineRecord) (s : SummaryRecord) (summaries : List SummaryRecord)
    (set : Marks × Tree) (v : Valuation) → IsOfSet lines s set → IsCase (line_marks lines) nodes set →
    line_marks lines v ≡ set.0 → Found nodes lines (s ∷ summaries) v
here nodes lines s summaries set v of case same = record {
  summary = s;
  set = set;
  of = of;
  marks = same;
  there = ap (λ t. holds nodes t v) of.tree ∙ case.means v ∙ ap (λ m. same_marks m set.0) same ∙ itself set.0;
  any = λ P all. all.0;
}

found_by : (nodes : List NodeRecord) (lines : List LineRecord) (s : SummaryRecord) (summaries : List SummaryRecord)
    (set : Marks × Tree) (sets : List (Marks × Tree)) (v : Valuation) (b : Bool) →
    same_marks (line_marks lines v) set.0 ≡ b → IsOfSet lines s set → IsCase (line_marks lines) nodes set →
    (b || list_any (same_marks (line_marks lines v)) (sets_of sets)) ≡ true →
    (list_any (same_marks (line_marks lines v)) (sets_of sets) ≡ true → Found nodes lines summaries v) →
    Found nodes lines (s ∷ summaries) v
found_by nodes lines s summaries set sets v true e of case any below =
    here nodes lines s summaries set v of case (marks_is (line_marks lines v) set.0 e)
found_by nodes lines s summaries set sets v false e of case any below =
    later nodes lines s summaries v (below any)

found_in : (nodes : List NodeRecord) (lines : List LineRecord) (summaries : List SummaryRecord)
    (sets : List (Marks × Tree)) (v : Valuation) → AllZip (IsOfSet lines) summaries sets →
    AllByRecursion (IsCase (line_marks lines) nodes) sets →
    list_any (same_marks (line_marks lines v)) (sets_of sets) ≡ true → Found nodes lines summaries v
found_in nodes lines [] [] v each cases any = absurd (cc)
found_in nodes lines [] (set ∷ sets) v each cases any = absurd each
found_in nodes lines (s ∷ summaries) [] v each cases any = absurd each
found_in nodes lines (s ∷ summaries) (set ∷ sets) v each cases any =
    found_by nodes lines s summaries set sets v (same_marks (line_marks lines v) set.0) refl each.0 cases.0 any
    (found_in nodes lines summaries sets v each.1 cases.1)

pub found : (nodes : List NodeRecord) (lines : List LineRecord) (summaries : List SummaryRecord) (v : Valuation) →
    AreSummaries nodes lines summaries → Found nodes lines summaries v
found nodes lines summaries v h = found_in nodes lines summaries h.sets v h.each h.are.each (h.are.all v)

-- ---- beside one of them

earlier : (a b : Marks) → marks_cmp a b ≡ Less → marks_cmp b a ≡ Less → ⊥
earlier a b h back =
    let turned : Less ≡ Greater = sym back ∙ marks_total.antisymm b a ∙ ap ordering_reverse h in absurd (cc)

not_here : (a b : Marks) → marks_cmp a b ≡ Less → a ≡ b → ⊥
not_here a b h same =
    let itself : marks_cmp b b ≡ Less = subst (λ m. marks_cmp m b ≡ Less) same h in earlier b b itself itself

behind_by : (m n : Marks) (s : Marks × Tree) (sets : List (Marks × Tree)) (b : Bool) → same_marks m s.0 ≡ b →
    marks_cmp n s.0 ≡ Less → (b || list_any (same_marks m) (sets_of sets)) ≡ true →
    (list_any (same_marks m) (sets_of sets) ≡ true → marks_cmp n m ≡ Less) → marks_cmp n m ≡ Less
behind_by m n s sets true e less any below = subst (λ k. marks_cmp n k ≡ Less) (sym (marks_is m s.0 e)) less
behind_by m n s sets false e less any below = below any

behind : (m n : Marks) (sets : List (Marks × Tree)) → AllByRecursion (λ y. marks_cmp n y ≡ Less) (sets_of sets) →
    list_any (same_marks m) (sets_of sets) ≡ true → marks_cmp n m ≡ Less
behind m n [] all any = absurd (cc)
behind m n (s ∷ sets) all any =
    behind_by m n s sets (same_marks m s.0) refl all.0 any (behind m n sets all.1)

-- one of them with its set: a set before it stands in front
pub record Parted (nodes : List NodeRecord) (lines : List LineRecord) (front : List SummaryRecord)
    (one : SummaryRecord) (sets : List (Marks × Tree)) : Type 1 where
  pub set : Marks × Tree
  pub of : IsOfSet lines one set
  pub case : IsCase (line_marks lines) nodes set
  pub before : (v : Valuation) → list_any (same_marks (line_marks lines v)) (sets_of sets) ≡ true →
      marks_cmp (line_marks lines v) set.0 ≡ Less → Found nodes lines front v

no_front_by : (nodes : List NodeRecord) (lines : List LineRecord) (set : Marks × Tree) (sets : List (Marks × Tree))
    (v : Valuation) (b : Bool) → same_marks (line_marks lines v) set.0 ≡ b →
    AllByRecursion (λ y. marks_cmp set.0 y ≡ Less) (sets_of sets) →
    (b || list_any (same_marks (line_marks lines v)) (sets_of sets)) ≡ true →
    marks_cmp (line_marks lines v) set.0 ≡ Less → ⊥
no_front_by nodes lines set sets v true e rise any less =
    not_here (line_marks lines v) set.0 less (marks_is (line_marks lines v) set.0 e)
no_front_by nodes lines set sets v false e rise any less =
    earlier (line_marks lines v) set.0 less (behind (line_marks lines v) set.0 sets rise any)

parted_in : (nodes : List NodeRecord) (lines : List LineRecord) (front : List SummaryRecord) (one : SummaryRecord)
    (back : List SummaryRecord) (sets : List (Marks × Tree)) → AllZip (IsOfSet lines) (front ++ one ∷ back) sets →
    AllByRecursion (IsCase (line_marks lines) nodes) sets → IsStrictlySortedBy marks_cmp (sets_of sets) →
    Parted nodes lines front one sets
unfolding IsStrictlySortedBy
parted_in nodes lines [] one back [] each cases rise = absurd each
parted_in nodes lines [] one back (set ∷ sets) each cases rise = record {
  set = set;
  of = each.0;
  case = cases.0;
  before = λ v any less. absurd (no_front_by nodes lines set sets v (same_marks (line_marks lines v) set.0)
      refl rise.0 any less);
}
parted_in nodes lines (f ∷ front) one back [] each cases rise = absurd each
parted_in nodes lines (f ∷ front) one back (set ∷ sets) each cases rise =
    let rest = parted_in nodes lines front one back sets each.1 cases.1 rise.1 in
    record {
      set = rest.set;
      of = rest.of;
      case = rest.case;
      before = λ v any less. found_by nodes lines f front set sets v (same_marks (line_marks lines v) set.0) refl
          each.0 cases.0 any (λ there. rest.before v there less);
    }

pub parted : (nodes : List NodeRecord) (lines : List LineRecord) (summaries front : List SummaryRecord)
    (one : SummaryRecord) (back : List SummaryRecord) → (h : AreSummaries nodes lines summaries) →
    summaries ≡ front ++ one ∷ back → Parted nodes lines front one h.sets
parted nodes lines summaries front one back h split =
    parted_in nodes lines front one back h.sets (subst (λ s. AllZip (IsOfSet lines) s h.sets) split h.each)
    h.are.each h.are.rising
