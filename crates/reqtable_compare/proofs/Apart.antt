-- A case beside the cases of which one has its tree.
use Rattle.std.proofs.Common.{◌≡◌, ◌∙◌, ◌&&◌, true, false, Bool, ℕ, List, [], ◌∷◌, ◌++◌, map}
use Rattle.std.proofs.Common.{refl, sym, ap, subst, inl, inr, Less, Greater}
use Rattle.std.specs.List.{AllZip, AllByRecursion}
use Rattle.std.specs.List.Sorted.{IsStrictlySortedBy}
use Rattle.std.specs.Ordering.{ordering_reverse}
use Rattle.pep508_tree.specs.Tree.{Tree}
use Rattle.pep508_tree.specs.Meaning.{NodeRecord, holds}
use Rattle.pep508_tree.specs.Disjoint.{AreDisjoint}
use Rattle.pep508_cases.specs.Cases.{Marks, Marking, same_marks, marks_cmp, marks_of, sets_of, IsCase}
use Rattle.pep508_cases.proofs.Counting.{marks_total}
use Rattle.pep508_cases.proofs.Marks.{marks_is}
use Rattle.reqtable_requirements.specs.declared.requirements.Line.{Line}
use Rattle.reqtable_table.specs.Cases.{IsCaseOf, HasItsCases, cases_under}
use Rattle.reqtable_table.specs.Kept.{KeptLine, KeptCase, KeptPackage, kept_under}
use Rattle.reqtable_compare.specs.declared.sides.Relation.{Relation}
use Rattle.reqtable_compare.specs.Summed.{SummaryRecord}
use Rattle.reqtable_compare.specs.Totals.{IsSummed, AreSummed, no_lines}
use Rattle.reqtable_compare.specs.Pairs.{PassesAll, AreApart, ArePartners}
use Rattle.reqtable_compare.proofs.Packages.{summed_under}

-- ---- it passes beside all of them

swapped : (a b : Bool) → (a && b) ≡ false → (b && a) ≡ false
swapped true true h = h
swapped true false h = refl
swapped false true h = refl
swapped false false h = refl

behind : (relation : Relation) (nodes : List NodeRecord) (one other : SummaryRecord) (back : List SummaryRecord) → one.tree ≡ other.tree →
    AllByRecursion (λ s. AreDisjoint nodes other.tree s.tree) back → PassesAll relation nodes back one
behind relation nodes one other [] same apart = tt
behind relation nodes one other (s ∷ back) same apart = (
  inr (subst (λ t. AreDisjoint nodes t s.tree) (sym same) apart.0),
  behind relation nodes one other back same apart.1,
)

middle : (nodes : List NodeRecord) (f other : SummaryRecord) (front back : List SummaryRecord) →
    AllByRecursion (λ s. AreDisjoint nodes f.tree s.tree) (front ++ other ∷ back) → AreDisjoint nodes f.tree other.tree
middle nodes f other [] back apart = apart.0
middle nodes f other (s ∷ front) back apart = middle nodes f other front back apart.1

beside : (relation : Relation) (nodes : List NodeRecord) (one other : SummaryRecord) (front back : List SummaryRecord) →
    ArePartners relation one other → AreApart nodes (front ++ other ∷ back) → PassesAll relation nodes (front ++ other ∷ back) one
beside relation nodes one other [] back partners apart = (
  inl partners.fit,
  behind relation nodes one other back partners.tree apart.0,
)
beside relation nodes one other (f ∷ front) back partners apart = (
  inr (subst (λ t. AreDisjoint nodes t f.tree) (sym partners.tree)
      (λ v. swapped (holds nodes f.tree v) (holds nodes other.tree v)
      (middle nodes f other front back apart.0 v))),
  beside relation nodes one other front back partners apart.1,
)

pub passes_beside : (relation : Relation) (nodes : List NodeRecord) (one other : SummaryRecord)
    (all front back : List SummaryRecord) →
    all ≡ front ++ other ∷ back → ArePartners relation one other → AreApart nodes all → PassesAll relation nodes all one
passes_beside relation nodes one other all front back split partners apart =
    subst (λ l. PassesAll relation nodes l one) (sym split)
    (beside relation nodes one other front back partners (subst (AreApart nodes) split apart))

-- ---- the cases of a package are such

itself : (a b : Marks) → marks_cmp a b ≡ Less → a ≡ b → ⊥
itself a b less same =
    let here : marks_cmp b b ≡ Less = subst (λ m. marks_cmp m b ≡ Less) same less in
    let turned : Less ≡ Greater = sym here ∙ marks_total.antisymm b b ∙ ap ordering_reverse here in absurd (cc)

not_both : (m a b : Marks) (x y : Bool) → same_marks m a ≡ x → same_marks m b ≡ y → marks_cmp a b ≡ Less →
    (x && y) ≡ false
not_both m a b true true e f less = absurd (itself a b less (sym (marks_is m a e) ∙ marks_is m b f))
not_both m a b true false e f less = refl
not_both m a b false true e f less = refl
not_both m a b false false e f less = refl

two_apart : (nodes : List NodeRecord) (marking : Marking) (lines : List Line) (kept : List KeptLine)
    (s t : SummaryRecord) (case other : KeptCase) (a b : Marks × Tree) → s.tree ≡ case.tree → t.tree ≡ other.tree →
    case.tree ≡ a.1 → other.tree ≡ b.1 → IsCase marking nodes a → IsCase marking nodes b →
    marks_cmp a.0 b.0 ≡ Less → AreDisjoint nodes s.tree t.tree
two_apart nodes marking lines kept s t case other a b st tt' ca ob isa isb less v =
    let left = ap (λ x. holds nodes x v) (st ∙ ca) ∙ isa.means v in
    let right = ap (λ x. holds nodes x v) (tt' ∙ ob) ∙ isb.means v in
    (λ i. left i && right i)
    ∙ not_both (marking v) a.0 b.0 (same_marks (marking v) a.0) (same_marks (marking v) b.0) refl refl less

apart_from : (nodes : List NodeRecord) (marking : Marking) (lines : List Line) (own kept : List KeptLine)
    (s : SummaryRecord) (case : KeptCase) (a : Marks × Tree) (summaries : List SummaryRecord) (cases : List KeptCase)
    (sets : List (Marks × Tree)) → s.tree ≡ case.tree → case.tree ≡ a.1 → IsCase marking nodes a →
    AllZip (IsSummed lines own) summaries cases → AllZip (IsCaseOf kept) cases sets →
    AllByRecursion (IsCase marking nodes) sets → AllByRecursion (λ y. marks_cmp a.0 y ≡ Less) (sets_of sets) →
    AllByRecursion (λ other. AreDisjoint nodes s.tree other.tree) summaries
apart_from nodes marking lines own kept s case a [] cases sets st ca isa sums of each less = tt
apart_from nodes marking lines own kept s case a (t ∷ summaries) [] sets st ca isa sums of each less = absurd sums
apart_from nodes marking lines own kept s case a (t ∷ summaries) (other ∷ cases) [] st ca isa sums of each less = absurd of
apart_from nodes marking lines own kept s case a (t ∷ summaries) (other ∷ cases) (b ∷ sets) st ca isa sums of each less = (
  two_apart nodes marking lines kept s t case other a b st sums.0.tree ca of.0.tree isa each.0 less.0,
  apart_from nodes marking lines own kept s case a summaries cases sets st ca isa sums.1 of.1 each.1 less.1,
)

apart_each : (nodes : List NodeRecord) (marking : Marking) (lines : List Line) (own kept : List KeptLine)
    (summaries : List SummaryRecord) (cases : List KeptCase) (sets : List (Marks × Tree)) →
    AllZip (IsSummed lines own) summaries cases → AllZip (IsCaseOf kept) cases sets →
    AllByRecursion (IsCase marking nodes) sets → IsStrictlySortedBy marks_cmp (sets_of sets) → AreApart nodes summaries
unfolding IsStrictlySortedBy
apart_each nodes marking lines own kept [] cases sets sums of each rise = tt
apart_each nodes marking lines own kept (s ∷ summaries) [] sets sums of each rise = absurd sums
apart_each nodes marking lines own kept (s ∷ summaries) (case ∷ cases) [] sums of each rise = absurd of
apart_each nodes marking lines own kept (s ∷ summaries) (case ∷ cases) (a ∷ sets) sums of each rise = (
  apart_from nodes marking lines own kept s case a summaries cases sets sums.0.tree of.0.tree each.0 sums.1 of.1 each.1 rise.0,
  apart_each nodes marking lines own kept summaries cases sets sums.1 of.1 each.1 rise.1,
)

of_package : (nodes : List NodeRecord) (lines : List Line) (own : List KeptLine) (kept : KeptPackage) (summaries : List SummaryRecord) →
    HasItsCases nodes kept → AllZip (IsSummed lines own) summaries kept.cases → AreApart nodes summaries
of_package nodes lines own kept summaries has sums =
    apart_each nodes (marks_of nodes (map (λ line. line.marker) kept.lines)) lines own kept.lines summaries kept.cases has.sets
    sums has.each has.are.each has.are.rising

nothing : (nodes : List NodeRecord) (summaries : List SummaryRecord) → summaries ≡ no_lines ∷ [] →
    AreApart nodes summaries
nothing nodes summaries is = subst (AreApart nodes) (sym is) (tt, tt)

pub apart_under : (nodes : List NodeRecord) (lines : List Line) (name : List ℕ) (table : List KeptPackage)
    (summaries : List SummaryRecord) → AllByRecursion (HasItsCases nodes) table →
    AreSummed lines (kept_under name table) (cases_under name table) summaries → AreApart nodes summaries
apart_under nodes lines name table =
    summed_under (AreApart nodes) nodes lines (kept_under name table) (nothing nodes)
    (of_package nodes lines (kept_under name table)) name table
