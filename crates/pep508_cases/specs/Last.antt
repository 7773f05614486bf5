-- Cases that are kept for trees that may be asked for again.
use Rattle.std.specs.Prelude.{◌≡◌, ◌⊎◌, ◌≤◌, ◌<◌, ℕ, List, [], length}
use Rattle.std.specs.List.{AllByRecursion}
use Rattle.pep508_tree.specs.Tree.{Tree}
use Rattle.pep508_tree.specs.Meaning.{NodeRecord, IsTree}
use Rattle.pep508_cases.specs.declared.last_cases.LastCases.{LastCases}
use Rattle.pep508_cases.specs.Cases.{marks_of, AreCases}
use Rattle.pep508_cases.specs.Seen.{cases_seen}

-- the trees have just the cases
pub record HasCases (nodes : List NodeRecord) (last : LastCases) : Type 0 where
  pub made : AllByRecursion (IsTree nodes) last.trees.items
  pub are : AreCases (marks_of nodes last.trees.items) nodes (cases_seen last.cases.items)

-- nothing was found, or the cases of the trees were
abbrev pub IsLast : List NodeRecord → LastCases → Type 0
IsLast nodes last = (last.cases.items ≡ []) ⊎ HasCases nodes last

-- cases of these trees were found, no more than the limit
pub record IsOf (last : LastCases) (trees : List Tree) (limit : ℕ) : Type 0 where
  pub some : 0 < length last.cases.items
  pub few : length last.cases.items ≤ limit
  pub same : last.trees.items ≡ trees
