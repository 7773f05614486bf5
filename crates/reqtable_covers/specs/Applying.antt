-- The lines of a package that apply where a tree holds.
use Rattle.std.specs.Prelude.{◌≡◌, ◌&&◌, ℕ, Bool, true, List, map, filter}
use Rattle.std.specs.List.{AllByRecursion}
use Rattle.pep508_diagram.specs.Question.{Valuation}
use Rattle.pep508_tree.specs.Tree.{Tree}
use Rattle.pep508_tree.specs.Meaning.{NodeRecord, holds}
use Rattle.reqtable_requirements.specs.declared.requirements.Line.{Line}
use Rattle.reqtable_table.specs.Given.{is_under}

-- a line is of the package, and its marker holds
abbrev pub applies_to : List NodeRecord → List ℕ → Valuation → Line → Bool
applies_to nodes name v line = is_under name line && holds nodes line.requirement.marker v

-- a line of the package applies wherever the tree holds, or nowhere there
abbrev pub IsFixed : List NodeRecord → List ℕ → Tree → Line → Type 0
IsFixed nodes name tree line = is_under name line ≡ true → (v w : Valuation) → holds nodes tree v ≡ true →
    holds nodes tree w ≡ true → holds nodes line.requirement.marker v ≡ holds nodes line.requirement.marker w

-- whether a line applies to the package where the tree holds, if that is everywhere or nowhere there
abbrev pub AppliesWhere : List NodeRecord → List ℕ → Tree → Line → Bool → Type 0
AppliesWhere nodes name tree line applies = IsFixed nodes name tree line → (v : Valuation) →
    holds nodes tree v ≡ true → applies ≡ applies_to nodes name v line

-- the numbers of the lines that apply to a package
abbrev pub numbers_to : List NodeRecord → List ℕ → Valuation → List Line → List ℕ
numbers_to nodes name v lines = map (λ line. line.number) (filter (applies_to nodes name v) lines)

-- those of the lines that apply where the tree holds
abbrev pub AreNumbersWhere : List NodeRecord → List ℕ → Tree → List Line → List ℕ → Type 0
AreNumbersWhere nodes name tree lines numbers = AllByRecursion (IsFixed nodes name tree) lines →
    (v : Valuation) → holds nodes tree v ≡ true → numbers ≡ numbers_to nodes name v lines
