-- When a list covers another, and the results of asking whether it does.
use Rattle.std.specs.Prelude.{◌≡◌, ◌&&◌, ℕ, true, List, Option, Result, Ok, Err}
use Rattle.std.specs.Ordering.{nat_cmp}
use Rattle.std.specs.Cmp.Lexicographic.{slice_cmp}
use Rattle.std.specs.declared.cmp.Ordering.TheVariants.{Less}
use Rattle.pep508_diagram.specs.Question.{Valuation}
use Rattle.pep508_tree.specs.Tree.{Tree}
use Rattle.pep508_tree.specs.Meaning.{NodeRecord, IsTree, holds}
use Rattle.pep508_cases.specs.Cases.{Marks, same_marks}
use Rattle.reqtable_requirements.specs.LineReading.{LineRecord}
use Rattle.reqtable_requirements.specs.Asks.{lines_of}
use Rattle.reqtable_cases.specs.Lines.{line_marks, numbers_of, asked_by}
use Rattle.reqtable_cases.specs.Requires.{ComesBefore, asked_of}
use Rattle.reqtable_compare.specs.declared.sides.SameError.{SameError}
use Rattle.reqtable_compare.specs.Compared.{MayCompare, ComparesBy}
use Rattle.reqtable_compare.specs.Relations.{IsCovered}
use Rattle.reqtable_covers.specs.declared.answer.Covers.{Covers}
use Rattle.reqtable_covers.specs.declared.answer.Covers.TheVariants.{Yes, No}

-- whatever lines require of a package under a valuation is covered by what the lock requires of it there
abbrev pub CoversLines : List LineRecord → List LineRecord → Type 0
CoversLines lock lines =
    (name : List ℕ) (v : Valuation) → IsCovered (asked_of name v lock) (asked_of name v lines)

-- a package and a tree are the first that isn't covered: the tree holds under some valuation, and exactly
-- where both sets of a pair of cases apply of which the lock's doesn't cover the other; it does so in each
-- pair before this one, and everywhere for each package before this one; and the numbers are those of the
-- other set's lines
pub record IsFirstUncovered (lock lines : List LineRecord) (nodes : List NodeRecord) (name : List ℕ)
    (tree : Tree) (numbers : List ℕ) : Type 0 where
  pub pair : Marks × Marks
  pub made : IsTree nodes tree
  pub somewhere : (v : Valuation) × (holds nodes tree v ≡ true)
  pub means : (v : Valuation) → holds nodes tree v
      ≡ (same_marks (line_marks (lines_of name lock) v) pair.0
      && same_marks (line_marks (lines_of name lines) v) pair.1)
  pub uncovered : IsCovered (asked_by pair.0 (lines_of name lock)) (asked_by pair.1 (lines_of name lines)) → ⊥
  pub first : (v : Valuation) →
      ComesBefore (line_marks (lines_of name lock) v, line_marks (lines_of name lines) v) pair →
      IsCovered (asked_of name v lock) (asked_of name v lines)
  pub before : (other : List ℕ) (v : Valuation) → slice_cmp nat_cmp other name ≡ Less →
      IsCovered (asked_of other v lock) (asked_of other v lines)
  pub told : numbers ≡ numbers_of pair.1 (lines_of name lines)

-- the result of asking whether a lock covers lines, with or without a bound on the cases of all packages:
-- whether it does, and if not, the first package that it doesn't cover; lists are refused as where the
-- question is whether both require the same
abbrev pub FindsCovered : ℕ → Option ℕ → List NodeRecord → List LineRecord → List LineRecord
    → Result Covers SameError → Type 0
FindsCovered limit in_all nodes lock lines (Ok Yes) = MayCompare limit lock lines × CoversLines lock lines
FindsCovered limit in_all nodes lock lines (Ok (No name tree numbers)) =
    MayCompare limit lock lines × IsFirstUncovered lock lines nodes name tree numbers.items
FindsCovered limit in_all nodes lock lines (Err error) = ComparesBy limit in_all nodes lock lines (Err error)
