-- What two lists are compared by: both require the same, or the left one whatever the right one does.
use Rattle.std.specs.Prelude.{◌≡◌, ◌&&◌, ℕ, true, List, [], ◌∷◌}
use Rattle.std.specs.List.{list_any}
use Rattle.std.specs.Ordering.{nat_cmp}
use Rattle.std.specs.Cmp.Lexicographic.{slice_cmp}
use Rattle.std.specs.declared.cmp.Ordering.TheVariants.{Less}
use Rattle.version_ranges.specs.Point.{Point}
use Rattle.pep440_version.specs.Record.{VersionRecord}
use Rattle.pep508_diagram.specs.Question.{Valuation}
use Rattle.pep508_tree.specs.Tree.{Tree}
use Rattle.pep508_tree.specs.Meaning.{NodeRecord, IsTree, holds}
use Rattle.pep508_requirement_text.specs.FrontReading.{Front}
use Rattle.pep508_cases.specs.Cases.{Marks, same_marks}
use Rattle.reqtable_answer.specs.Asks.{has_extra}
use Rattle.reqtable_requirements.specs.LineReading.{LineRecord}
use Rattle.reqtable_requirements.specs.Asks.{lines_of}
use Rattle.reqtable_cases.specs.Lines.{line_marks, asked_by}
use Rattle.reqtable_cases.specs.Usable.{points_of}
use Rattle.reqtable_cases.specs.Requires.{RequireAlike, ComesBefore, asked_of}
use Rattle.reqtable_compare.specs.declared.sides.Relation.{Relation}
use Rattle.reqtable_compare.specs.declared.sides.Relation.TheVariants as relations

-- requirements have at least the extras of others, and only points of these
pub record AskAtLeast (asks others : List Front) : Type 0 where
  pub extras : (extra : List ℕ) → list_any (has_extra extra) others ≡ true →
      list_any (has_extra extra) asks ≡ true
  pub points : (p : Point VersionRecord) → points_of asks p ≡ true → points_of others p ≡ true

-- the others require nothing, or the first require the package too, and at least as much
abbrev pub IsCovered : List Front → List Front → Type 0
IsCovered [] [] = Unit {0}
IsCovered [] (other ∷ others) = ⊥
IsCovered (ask ∷ asks) [] = Unit {0}
IsCovered (ask ∷ asks) (other ∷ others) = AskAtLeast (ask ∷ asks) (other ∷ others)

-- what both sides require of a package is as the relation has it
abbrev pub Relate : Relation → List Front → List Front → Type 0
Relate relations.Alike asks others = RequireAlike asks others
Relate relations.Covering asks others = IsCovered asks others

-- of every package under every valuation
abbrev pub RelateThroughout : Relation → List LineRecord → List LineRecord → Type 0
RelateThroughout relation left right =
    (name : List ℕ) (v : Valuation) → Relate relation (asked_of name v left) (asked_of name v right)

-- a package and a tree are the first place where lists aren't as the relation has it: the tree holds under
-- some valuation, and exactly where both sets of a pair of cases apply that aren't; each pair before it
-- is, and so is each package before this one
pub record IsFirstUnrelated (relation : Relation) (left right : List LineRecord) (nodes : List NodeRecord)
    (name : List ℕ) (tree : Tree) : Type 0 where
  pub pair : Marks × Marks
  pub made : IsTree nodes tree
  pub somewhere : (v : Valuation) × (holds nodes tree v ≡ true)
  pub means : (v : Valuation) → holds nodes tree v
      ≡ (same_marks (line_marks (lines_of name left) v) pair.0
      && same_marks (line_marks (lines_of name right) v) pair.1)
  pub differ : Relate relation (asked_by pair.0 (lines_of name left)) (asked_by pair.1 (lines_of name right))
      → ⊥
  pub first : (v : Valuation) →
      ComesBefore (line_marks (lines_of name left) v, line_marks (lines_of name right) v) pair →
      Relate relation (asked_of name v left) (asked_of name v right)
  pub before : (other : List ℕ) (v : Valuation) → slice_cmp nat_cmp other name ≡ Less →
      Relate relation (asked_of other v left) (asked_of other v right)
