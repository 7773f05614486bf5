-- Trees that are simplified to a range of versions of Python, and what is remembered of them.
use Rattle.std.specs.Prelude.{ℕ, Bool, true, false, ◌∷◌, [], List, Option, Some, None, IfSome}
use Rattle.std.specs.BTreeMap.{BTreeMap, get}
use Rattle.std.specs.declared.cmp.Ordering.{Ordering}
use Rattle.std.specs.declared.ops.Bound.{Bound}
use Rattle.std.specs.Ordering.{nat_cmp, bool_cmp, ordering_then}
use Rattle.version_ranges.specs.Order.{start_point}
use Rattle.pep440_text.specs.Record.{VersionRecord}
use Rattle.pep440_version.specs.Order.{version_cmp}
use Rattle.pep440_range.specs.Ranges.{PointTest}
use Rattle.pep508_diagram.specs.declared.branch.Branch.{Branch}
use Rattle.pep508_diagram.specs.declared.variable.VersionVariable.TheVariants.{ImplementationVersion}
use Rattle.pep508_diagram.specs.declared.variable.VersionVariable.TheVariants.{PythonFullVersion}
use Rattle.pep508_diagram.specs.Branches.{branch_at}
use Rattle.pep508_diagram.specs.Question.{version_rank}
use Rattle.pep508_tree.specs.Tree.{Tree}
use Rattle.pep508_tree.specs.Meaning.{NodeRecord, Versions, Texts, Flagged, holds, IsTree}
use Rattle.pep508_tree.specs.Nodes.{Above}
use Rattle.pep508_simplification.specs.Simplified.{IsSimplified}
use Rattle.pep508_simplification.specs.Within.{behind, up_to}

-- ---- nodes of versions

-- the first child and the branches of a node of `python_full_version`; else the tree alone
abbrev pub python_of : Tree → Option NodeRecord → Tree × List (Branch VersionRecord Tree)
python_of tree None = (tree, [])
python_of tree (Some (Versions ImplementationVersion first later)) = (tree, [])
python_of tree (Some (Versions PythonFullVersion first later)) = (first, later)
python_of tree (Some (Texts key first later)) = (tree, [])
python_of tree (Some (Flagged flag set unset)) = (tree, [])

abbrev pub asks_python : Option NodeRecord → Bool
asks_python None = false
asks_python (Some (Versions ImplementationVersion first later)) = false
asks_python (Some (Versions PythonFullVersion first later)) = true
asks_python (Some (Texts key first later)) = false
asks_python (Some (Flagged flag set unset)) = false

abbrev pub asks_implementation : Option NodeRecord → Bool
asks_implementation None = false
asks_implementation (Some (Versions ImplementationVersion first later)) = true
asks_implementation (Some (Versions PythonFullVersion first later)) = false
asks_implementation (Some (Texts key first later)) = false
asks_implementation (Some (Flagged flag set unset)) = false

-- the children between two bounds
abbrev pub cut : Bound VersionRecord → Bound VersionRecord → Tree × List (Branch VersionRecord Tree) →
    Tree × List (Branch VersionRecord Tree)
cut lower upper node = (
  branch_at version_cmp node.0 node.1 (start_point lower),
  up_to version_cmp upper (behind version_cmp (start_point lower) node.1),
)

-- ---- trees

-- the places of the two variables
abbrev pub implementation_place : List ℕ
implementation_place = version_rank ImplementationVersion ∷ []

abbrev pub python_place : List ℕ
python_place = version_rank PythonFullVersion ∷ []

-- a tree of the name
abbrev pub named_by : ℕ × Bool → Tree
named_by name = record { place = name.0; negated = name.1 }

-- the order of names
abbrev pub name_cmp : ℕ × Bool → ℕ × Bool → Ordering
name_cmp a b = ordering_then (nat_cmp a.0 b.0) (bool_cmp a.1 b.1)

module _ (range : PointTest) where
  -- a tree is another one, simplified to the range
  pub record IsSimpler (old new : List NodeRecord) (tree simple : Tree) : Type 0 where
    pub made : IsTree new simple
    pub truth_is : IsSimplified range (holds old tree) (holds new simple)
    pub above : Above old implementation_place tree → Above new implementation_place simple

  pub record IsRecalled (nodes : List NodeRecord) (tree simple : Tree) : Type 0 where
    pub made : IsTree nodes tree
    pub simpler : IsSimpler nodes nodes tree simple

  -- all that is remembered is so
  abbrev pub AreRecalled : List NodeRecord → BTreeMap (ℕ × Bool) Tree → Type 0
  AreRecalled nodes known = (name : ℕ × Bool) →
      IfSome (get name_cmp known name) (IsRecalled nodes (named_by name))
