use Rattle.pep508_cases.proofs.set_diagram.joined_with.Goals as goal

pub returns-clause-marked : goal.returns-clause-marked
returns-clause-marked c = λ xs marked.
    let others = rw c.in-Some.is at c.in_ok-others.ensures.marked in
    let both = rw c.in-Some-2.is at c.in_ok-all.ensures.marked in
    both xs c.args.trees.now marked others
