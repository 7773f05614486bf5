-- The summaries of a table's cases have trees of its nodes.
use Rattle.std.proofs.Common.{◌≡◌, ◌∙◌, ℕ, List, [], ◌∷◌, ◌++◌, map, Result, Ok, Err, IfOk, sym, subst, arith}
use Rattle.std.specs.List.{AllZip, AllByRecursion}
use Rattle.pep508_tree.specs.Tree.{Tree}
use Rattle.pep508_tree.specs.Meaning.{NodeRecord, IsTree}
use Rattle.pep508_tree.specs.Disjoint.{AreDisjoint}
use Rattle.pep508_cases.specs.Cases.{Marks, Marking, IsCase, marks_of}
use Rattle.reqtable_requirements.specs.declared.requirements.Line.{Line}
use Rattle.reqtable_table.specs.Cases.{IsCaseOf, HasItsCases, cases_under}
use Rattle.reqtable_table.specs.Kept.{KeptLine, KeptCase, KeptPackage, kept_under}
use Rattle.reqtable_compare.specs.Summed.{SummaryRecord}
use Rattle.reqtable_compare.specs.Totals.{IsSummed, AreSummed, no_lines}
use Rattle.reqtable_compare.specs.Pairs.{AreOfTrees}
use Rattle.reqtable_compare.specs.declared.sides.Relation.{Relation}
use Rattle.reqtable_compare.specs.declared.sides.Same.{Same}
use Rattle.reqtable_compare.specs.declared.sides.Same.TheVariants.{Yes, No}
use Rattle.reqtable_compare.specs.declared.sides.SameError.{SameError}
use Rattle.reqtable_compare.specs.Related.{HasTree}
use Rattle.reqtable_compare.specs.Differences.{Listed, Place, IsFirstPlace, AnswersPlace, ComparesTables}
use Rattle.reqtable_compare.proofs.Packages.{summed_under}

made_each : (nodes : List NodeRecord) (marking : Marking) (lines : List Line) (own kept : List KeptLine)
    (summaries : List SummaryRecord) (cases : List KeptCase) (sets : List (Marks × Tree)) →
    AllZip (IsSummed lines own) summaries cases → AllZip (IsCaseOf kept) cases sets →
    AllByRecursion (IsCase marking nodes) sets → AreOfTrees nodes summaries
made_each nodes marking lines own kept [] cases sets sums of made = tt
made_each nodes marking lines own kept (s ∷ summaries) [] sets sums of made = absurd sums
made_each nodes marking lines own kept (s ∷ summaries) (case ∷ cases) [] sums of made = absurd of
made_each nodes marking lines own kept (s ∷ summaries) (case ∷ cases) (set ∷ sets) sums of made = (
  subst (IsTree nodes) (sym (sums.0.tree ∙ of.0.tree)) made.0.made,
  made_each nodes marking lines own kept summaries cases sets sums.1 of.1 made.1,
)

nothing_made : (nodes : List NodeRecord) (summaries : List SummaryRecord) → summaries ≡ no_lines ∷ [] →
    AreOfTrees nodes summaries
nothing_made nodes summaries is = subst (AreOfTrees nodes) (sym is) (omega arith, tt)

of_package : (nodes : List NodeRecord) (lines : List Line) (own : List KeptLine) (kept : KeptPackage) (summaries : List SummaryRecord) →
    HasItsCases nodes kept → AllZip (IsSummed lines own) summaries kept.cases → AreOfTrees nodes summaries
of_package nodes lines own kept summaries has sums =
    made_each nodes (marks_of nodes (map (λ line. line.marker) kept.lines)) lines own kept.lines summaries kept.cases has.sets
    sums has.each has.are.each

pub trees_under : (nodes : List NodeRecord) (lines : List Line) (name : List ℕ) (table : List KeptPackage)
    (summaries : List SummaryRecord) → AllByRecursion (HasItsCases nodes) table →
    AreSummed lines (kept_under name table) (cases_under name table) summaries → AreOfTrees nodes summaries
trees_under nodes lines name table =
    summed_under (AreOfTrees nodes) nodes lines (kept_under name table) (nothing_made nodes)
    (of_package nodes lines (kept_under name table)) name table

-- ---- and so has the place at which two lists differ

in_middle : {A : Type 0} (P : A → Type 0) (front : List A) (x : A) (back : List A) → AllByRecursion P (front ++ x ∷ back) →
    P x
in_middle P [] x back all = all.0
in_middle P (y ∷ front) x back all = in_middle P front x back all.1

-- two trees that hold together
pub record Meet (nodes : List NodeRecord) (one other : Tree) : Type 0 where
  pub made : IsTree nodes one
  pub other_made : IsTree nodes other
  pub meet : AreDisjoint nodes one other → ⊥

pub place_meets : (relation : Relation) (nodes : List NodeRecord) (left right : Listed) (names : List (List ℕ)) (place : Place) →
    AllByRecursion (HasItsCases nodes) left.table → AllByRecursion (HasItsCases nodes) right.table →
    IsFirstPlace relation nodes left right names place → Meet nodes place.1.0 place.1.1
place_meets relation nodes left right names place ours theirs first =
    let d = first.differ in
    let p = d.pair in
    let b = p.beside in
    let own = trees_under nodes left.lines place.0 left.table d.ours ours d.our_sums in
    let others = trees_under nodes right.lines place.0 right.table d.theirs theirs d.their_sums in
    let T : SummaryRecord → Type 0 = λ s. IsTree nodes s.tree in
    record {
      made = subst (IsTree nodes) (sym p.is) (in_middle T p.front p.first p.back (subst (AreOfTrees nodes) p.split own));
      other_made = subst (IsTree nodes) (sym b.is)
          (in_middle T b.front b.other b.back (subst (AreOfTrees nodes) b.split others));
      meet = λ apart. b.fails.meet (subst (λ t. AreDisjoint nodes t b.other.tree) p.is
          (subst (AreDisjoint nodes place.1.0) b.is apart));
    }

pub answers_are : (relation : Relation) (old new : List NodeRecord) (left right : Listed) (names : List (List ℕ)) (place : Place)
    (result : Result Same SameError) → IsFirstPlace relation old left right names place → AnswersPlace old new place result →
    ComparesTables relation old new left right names result
answers_are relation old new left right names place (Ok Yes) first h = absurd h
answers_are relation old new left right names place (Ok (No name tree)) first h = record {
  place = place;
  first = first;
  named = h.0;
  both = h.1;
}
answers_are relation old new left right names place (Err error) first h = h

pub has_tree : (relation : Relation) (old new : List NodeRecord) (left right : Listed) (names : List (List ℕ))
    (result : Result Same SameError) → ComparesTables relation old new left right names result →
    IfOk result (HasTree new)
has_tree relation old new left right names (Ok Yes) h = tt
has_tree relation old new left right names (Ok (No name tree)) h = h.both.made
has_tree relation old new left right names (Err error) h = tt
