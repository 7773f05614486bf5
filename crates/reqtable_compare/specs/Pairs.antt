-- Pairs of cases of two sides.
use Rattle.std.specs.Prelude.{◌≡◌, ◌⊎◌, Bool, true, false, List, [], ◌∷◌, ◌++◌, Option, Some, None, map}
use Rattle.std.specs.List.{AllByRecursion}
use Rattle.std.specs.List.Sorted.{IsStrictlySortedBy}
use Rattle.std.specs.Ordering.{nat_cmp}
use Rattle.std.specs.Cmp.Lexicographic.{slice_cmp}
use Rattle.pep508_tree.specs.Tree.{Tree}
use Rattle.pep508_tree.specs.Meaning.{NodeRecord, IsTree}
use Rattle.pep508_tree.specs.Disjoint.{AreDisjoint}
use Rattle.reqtable_compare.specs.declared.pairing.Meeting.{Meeting}
use Rattle.reqtable_compare.specs.declared.pairing.Standing.{Standing}
use Rattle.reqtable_compare.specs.declared.pairing.Standing.TheVariants as standings
use Rattle.reqtable_compare.specs.declared.sides.Relation.{Relation}
use Rattle.reqtable_compare.specs.Summed.{SummaryRecord, Fit}

-- the cases of a pair require what the relation has, or never hold together
abbrev pub Passes : Relation → List NodeRecord → SummaryRecord → SummaryRecord → Type 0
Passes relation nodes a b = Fit relation a b ⊎ AreDisjoint nodes a.tree b.tree

abbrev pub PassesAll : Relation → List NodeRecord → List SummaryRecord → SummaryRecord → Type 0
PassesAll relation nodes right a = AllByRecursion (Passes relation nodes a) right

-- a case and each of the others require what the relation has
abbrev pub FitsAll : Relation → List SummaryRecord → SummaryRecord → Type 0
FitsAll relation right a = AllByRecursion (Fit relation a) right

abbrev pub AreOfTrees : List NodeRecord → List SummaryRecord → Type 0
AreOfTrees nodes summaries = AllByRecursion (λ s. IsTree nodes s.tree) summaries

-- the extras of a case are in the order of their bytes
abbrev pub ExtrasRise : SummaryRecord → Type 0
ExtrasRise s = IsStrictlySortedBy (slice_cmp nat_cmp) s.extras

-- the trees of some cases
abbrev pub case_trees : List SummaryRecord → List Tree
case_trees = map (λ s. s.tree)

-- no two cases hold together
abbrev pub AreApart : List NodeRecord → List SummaryRecord → Type 0
AreApart nodes [] = Unit {0}
AreApart nodes (s ∷ rest) =
    AllByRecursion (λ other. AreDisjoint nodes s.tree other.tree) rest × AreApart nodes rest

-- both cases hold under the same valuations, and require what the relation has
pub record ArePartners (relation : Relation) (a b : SummaryRecord) : Type 0 where
  pub tree : a.tree ≡ b.tree
  pub fit : Fit relation a b

-- the cases of a pair don't require what the relation has, and hold together somewhere
pub record Fails (relation : Relation) (nodes : List NodeRecord) (a b : SummaryRecord) : Type 0 where
  pub differ : Fit relation a b → ⊥
  pub meet : AreDisjoint nodes a.tree b.tree → ⊥

abbrev pub Decides : Relation → List NodeRecord → SummaryRecord → SummaryRecord → Bool → Type 0
Decides relation nodes a b true = Passes relation nodes a b
Decides relation nodes a b false = Fails relation nodes a b

-- the tree of the first case of a side that fails with `one`
pub record IsFirstOther (relation : Relation) (nodes : List NodeRecord) (one : SummaryRecord)
    (right : List SummaryRecord) (tree : Tree) : Type 0 where
  pub front : List SummaryRecord
  pub other : SummaryRecord
  pub back : List SummaryRecord
  pub split : right ≡ front ++ other ∷ back
  pub before : PassesAll relation nodes front one
  pub fails : Fails relation nodes one other
  pub is : tree ≡ other.tree

abbrev pub FindsStanding : Relation → List NodeRecord → SummaryRecord → List SummaryRecord → Standing → Type 0
FindsStanding relation nodes one right standings.Fits = FitsAll relation right one
FindsStanding relation nodes one right standings.Passes = PassesAll relation nodes right one
FindsStanding relation nodes one right (standings.Fails tree) = IsFirstOther relation nodes one right tree

-- the trees of the first failing pair, by the left cases and then by the right ones
pub record IsFirstPair (relation : Relation) (nodes : List NodeRecord) (left right : List SummaryRecord)
    (one other : Tree) : Type 0 where
  pub front : List SummaryRecord
  pub first : SummaryRecord
  pub back : List SummaryRecord
  pub split : left ≡ front ++ first ∷ back
  pub before : AllByRecursion (PassesAll relation nodes right) front
  pub is : one ≡ first.tree
  pub beside : IsFirstOther relation nodes first right other

abbrev pub FindsTrees : Relation → List NodeRecord → List SummaryRecord → List SummaryRecord → Option Meeting
    → Type 0
FindsTrees relation nodes left right None = AllByRecursion (PassesAll relation nodes right) left
FindsTrees relation nodes left right (Some meeting) =
    IsFirstPair relation nodes left right meeting.one meeting.other
