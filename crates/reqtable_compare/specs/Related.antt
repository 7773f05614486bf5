-- The results of comparing two lists by a relation.
use Rattle.std.specs.Prelude.{ℕ, List, Option, Result, Ok, Err}
use Rattle.pep508_tree.specs.Meaning.{NodeRecord, IsTree}
use Rattle.reqtable_requirements.specs.LineReading.{LineRecord}
use Rattle.reqtable_compare.specs.declared.sides.Relation.{Relation}
use Rattle.reqtable_compare.specs.declared.sides.Same.{Same}
use Rattle.reqtable_compare.specs.declared.sides.Same.TheVariants.{Yes, No}
use Rattle.reqtable_compare.specs.declared.sides.SameError.{SameError}
use Rattle.reqtable_compare.specs.Compared.{MayCompare, Compares, ComparesBy}
use Rattle.reqtable_compare.specs.Relations.{RelateThroughout, IsFirstUnrelated}

-- whether two lists that can be compared are as the relation has it, and if not, the first place where they
-- aren't; lists are refused as where the question is whether both require the same
abbrev pub Relates : Relation → ℕ → List NodeRecord → List LineRecord → List LineRecord
    → Result Same SameError → Type 0
Relates relation limit nodes left right (Ok Yes) =
    MayCompare limit left right × RelateThroughout relation left right
Relates relation limit nodes left right (Ok (No name tree)) =
    MayCompare limit left right × IsFirstUnrelated relation left right nodes name tree
Relates relation limit nodes left right (Err error) = Compares limit nodes left right (Err error)

-- with or without a bound on the cases of all packages
abbrev pub RelatesBy : Relation → ℕ → Option ℕ → List NodeRecord → List LineRecord → List LineRecord
    → Result Same SameError → Type 0
RelatesBy relation limit in_all nodes left right (Ok same) = Relates relation limit nodes left right (Ok same)
RelatesBy relation limit in_all nodes left right (Err error) =
    ComparesBy limit in_all nodes left right (Err error)

-- the tree of a place is one of these nodes'
abbrev pub HasTree : List NodeRecord → Same → Type 0
HasTree nodes Yes = Unit {0}
HasTree nodes (No name tree) = IsTree nodes tree
