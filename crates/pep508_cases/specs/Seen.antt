-- Cases as their marks and their trees.
use Rattle.std.specs.Prelude.{List, map}
use Rattle.pep508_tree.specs.Tree.{Tree}
use Rattle.pep508_cases.specs.declared.cases.TreeCase.{TreeCase}
use Rattle.pep508_cases.specs.Cases.{Marks}

-- a case as its marks and its tree
abbrev pub case_seen : TreeCase → Marks × Tree
case_seen c = (c.set, c.tree)

abbrev pub cases_seen : List TreeCase → List (Marks × Tree)
cases_seen = map case_seen
