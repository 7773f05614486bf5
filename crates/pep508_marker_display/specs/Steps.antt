-- The steps from a tree to its subtrees: the terms for the values that lead to a subtree.
use Rattle.std.specs.Prelude.{Bool, List, [], ◌∷◌, ◌++◌, map, Option, Some, None}
use Rattle.std.specs.List.{filter, flat_map}
use Rattle.pep508_diagram.specs.declared.branch.Branch.{Branch}
use Rattle.pep508_clauses.specs.Terms.{clause_of}
use Rattle.pep508_marker_text_laws.specs.Groups.{firsts, standing, points_where}
use Rattle.pep508_marker_text_laws.specs.Saying.{Clause, Saying, set_clauses}
use Rattle.pep508_marker_text_laws.specs.Simplified.{has_some}
use Rattle.pep508_marker_text_laws.specs.Terms.{version_saying, text_saying, set_term, unset_term}
use Rattle.pep508_tree.specs.Tree.{Tree}
use Rattle.pep508_tree.specs.Meaning.{NodeRecord, Versions, Texts, Flagged}
use Rattle.pep508_tree.specs.Nodes.{turned}
use Rattle.pep508_marker_display.specs.declared.steps.Step.{Step}
use Rattle.pep508_marker_display.specs.Trees.{same_tree}

-- terms, and the tree that they lead to
pub record StepRecord : Type 0 where
  pub clause : Clause
  pub tree : Tree

abbrev pub step_of : Step → StepRecord
step_of step = record { clause = clause_of step.terms.items; tree = step.tree }

abbrev pub steps_shown : List Step → List StepRecord
steps_shown steps = map step_of steps

-- the step with its tree negated, where the flag is set
abbrev pub turned_step : Bool → StepRecord → StepRecord
turned_step turns step = record { clause = step.clause; tree = turned turns step.tree }

-- a step for each clause, to one tree
abbrev pub steps_to : Tree → List Clause → List StepRecord
steps_to tree clauses = map (λ clause. record { clause = clause; tree = tree }) clauses

-- those that lead to one tree
abbrev pub group_steps : {T : Type 0} → Saying T → Tree → List (Branch T Tree) → Tree → List StepRecord
group_steps say first later tree =
    steps_to tree (set_clauses say (points_where (same_tree tree) first later))

-- the steps between the endpoints of a key
abbrev pub branch_steps : {T : Type 0} → Saying T → Tree → List (Branch T Tree) → List StepRecord
branch_steps say first later =
    flat_map (group_steps say first later) (firsts same_tree (standing first later))

-- those of a node; a constant has none
abbrev pub node_steps : NodeRecord → List StepRecord
node_steps (Versions key first later) = branch_steps (version_saying key) first later
node_steps (Texts key first later) = branch_steps (text_saying key) first later
node_steps (Flagged flag set unset) =
    record { clause = set_term flag ∷ []; tree = set }
    ∷ record { clause = unset_term flag ∷ []; tree = unset } ∷ []

abbrev pub root_steps : Option NodeRecord → List StepRecord
root_steps None = []
root_steps (Some node) = node_steps node

-- the clauses that steps lead to, from those of their trees
abbrev pub clauses_by : (Tree → List Clause) → List StepRecord → List Clause
clauses_by at steps = flat_map (λ step. map (λ clause. step.clause ++ clause) (at step.tree)) steps

-- the clauses after a path of terms, but for one without terms
abbrev pub behind : Clause → List Clause → List Clause
behind path clauses = filter has_some (map (λ clause. path ++ clause) clauses)
