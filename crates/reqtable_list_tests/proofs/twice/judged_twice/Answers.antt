use Rattle.reqtable_list_tests.proofs.twice.judged_twice.Goals as goal

pub returns-clause-second : goal.returns-clause-second
returns-clause-second g c = λ vars said admits stand by.
    c.in_ok-second.ensures.answered vars said admits
    (c.lines_last_while_nodes_are_added.ensures.said vars c.args.interner.now.nodes c.parse.new.interner.nodes
    c.args.requirements.now said c.parse.ensures.keeps stand) by
