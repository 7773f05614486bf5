-- The results of comparing two lists.
use Rattle.std.specs.Prelude.{◌≡◌, ℕ, List, Option, Some, None, Result, Ok, Err}
use Rattle.pep508_tree.specs.Meaning.{NodeRecord}
use Rattle.reqtable_requirements.specs.LineReading.{LineRecord}
use Rattle.reqtable_cases.specs.Lines.{HasTooMany, IsFirstTooMany}
use Rattle.reqtable_cases.specs.Requires.{RequireTheSame, IsFirstDifference}
use Rattle.reqtable_table.specs.Cases.{Builds}
use Rattle.reqtable_table.specs.InAll.{HasTooManyInAll}
use Rattle.reqtable_table.specs.Kept.{KeptPackage}
use Rattle.reqtable_compare.specs.declared.sides.Same.{Same}
use Rattle.reqtable_compare.specs.declared.sides.Same.TheVariants.{Yes, No}
use Rattle.reqtable_compare.specs.declared.sides.SameError.{SameError}
use Rattle.reqtable_compare.specs.declared.sides.SameError.TheVariants.{Line, TooManyCases, Memory}
use Rattle.reqtable_compare.specs.declared.sides.SameError.TheVariants.{TooManyCasesInAll}
use Rattle.reqtable_compare.specs.declared.sides.Side.{Side}
use Rattle.reqtable_compare.specs.declared.sides.Side.TheVariants.{Left, Right}
use Rattle.reqtable_compare.specs.Refusals.{line_refusal}

-- no package has more cases than the limit
abbrev pub NoneTooMany : ℕ → List LineRecord → Type 0
NoneTooMany limit lines = (name : List ℕ) → HasTooMany limit lines name → ⊥

-- two lists can be compared
pub record MayCompare (limit : ℕ) (left right : List LineRecord) : Type 0 where
  pub lines : line_refusal left right ≡ None
  pub ours : NoneTooMany limit left
  pub theirs : NoneTooMany limit right

-- the result of comparing the lines of two lists, with these nodes afterwards: whether both require the same,
-- and if not, the first difference; or the first line that can't be compared, those of the left list first;
-- or the first package by name that has too many cases, those of the left list first; or out of memory
abbrev pub Compares : ℕ → List NodeRecord → List LineRecord → List LineRecord → Result Same SameError → Type 0
Compares limit nodes left right (Ok Yes) = MayCompare limit left right × RequireTheSame left right
Compares limit nodes left right (Ok (No name tree)) =
    MayCompare limit left right × IsFirstDifference left right nodes name tree
Compares limit nodes left right (Err (Line side number cause)) =
    line_refusal left right ≡ Some (record { side = side; number = number; cause = cause })
Compares limit nodes left right (Err (TooManyCases Left name)) =
    (line_refusal left right ≡ None) × IsFirstTooMany limit left name
Compares limit nodes left right (Err (TooManyCases Right name)) =
    (line_refusal left right ≡ None) × NoneTooMany limit left × IsFirstTooMany limit right name
Compares limit nodes left right (Err (TooManyCasesInAll side)) = ⊥
Compares limit nodes left right (Err Memory) = Unit {0}

-- the result of comparing the lines of two lists with a bound on the cases of all packages of either: it is
-- passed only where a list has more cases in all, the left one first
abbrev pub ComparesWithin : ℕ → ℕ → List NodeRecord → List LineRecord → List LineRecord
    → Result Same SameError → Type 0
ComparesWithin limit in_all nodes left right (Ok same) = Compares limit nodes left right (Ok same)
ComparesWithin limit in_all nodes left right (Err (Line side number cause)) =
    Compares limit nodes left right (Err (Line side number cause))
ComparesWithin limit in_all nodes left right (Err (TooManyCases side name)) =
    Compares limit nodes left right (Err (TooManyCases side name))
ComparesWithin limit in_all nodes left right (Err (TooManyCasesInAll Left)) =
    (line_refusal left right ≡ None) × HasTooManyInAll limit in_all left
ComparesWithin limit in_all nodes left right (Err (TooManyCasesInAll Right)) =
    (line_refusal left right ≡ None) × NoneTooMany limit left × HasTooManyInAll limit in_all right
ComparesWithin limit in_all nodes left right (Err Memory) = Unit {0}

-- the result of comparing the lines of two lists, with or without a bound on the cases of all packages
abbrev pub ComparesBy : ℕ → Option ℕ → List NodeRecord → List LineRecord → List LineRecord
    → Result Same SameError → Type 0
ComparesBy limit None nodes left right result = Compares limit nodes left right result
ComparesBy limit (Some in_all) nodes left right result = ComparesWithin limit in_all nodes left right result

-- all packages together have more cases than they may have, if that is bounded
abbrev pub PassesInAll : ℕ → Option ℕ → List LineRecord → Type 0
PassesInAll limit None said = ⊥
PassesInAll limit (Some in_all) said = HasTooManyInAll limit in_all said

-- the result of building the table of one of two lists, with or without that bound
abbrev pub TablesSide : Side → ℕ → Option ℕ → List NodeRecord → List LineRecord
    → Result (List KeptPackage) SameError → Type 0
TablesSide side limit in_all nodes said (Ok table) = Builds limit nodes said (Ok table)
TablesSide side limit in_all nodes said (Err (Line other number cause)) = ⊥
TablesSide side limit in_all nodes said (Err (TooManyCases other name)) =
    (other ≡ side) × IsFirstTooMany limit said name
TablesSide side limit in_all nodes said (Err (TooManyCasesInAll other)) =
    (other ≡ side) × PassesInAll limit in_all said
TablesSide side limit in_all nodes said (Err Memory) = Unit {0}
