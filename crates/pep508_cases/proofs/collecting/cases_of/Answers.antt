use Rattle.pep508_cases.specs.Seen.{cases_seen}
use Rattle.pep508_cases.proofs.SetTrees.{cases_found}
use Rattle.pep508_cases.proofs.collecting.cases_of.Goals as goal

pub returns-clause-cases : goal.returns-clause-cases
returns-clause-cases c = λ trees marked.
    cases_found c.args.interner.now.nodes c.found_trees.new.interner.nodes c.args.marked.now trees c.in_ok-found.found
    marked c.in_ok-found.ensures.found c.a_tree_holds_somewhere.ensures (cases_seen c.in_ok-cases.cases.items)
    c.in_ok-cases.ensures.entries c.in_ok-cases.ensures.ordered
