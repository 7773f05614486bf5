use Rattle.pep508_formula.specs.Postfix.{formula_of}
use Rattle.reqtable_assumption.specs.Where.{lines_where}
use Rattle.reqtable_list_tests.proofs.assumed.are_same_where.Goals as goal

pub returns-in-Yes : goal.returns-in-Yes
returns-in-Yes c = λ is vars said others left right.
    let formula = formula_of c.args.condition.now in
    let old = c.args.interner.now.nodes in
    let now = c.assume.new.interner.nodes in
    let new = c.assume-2.new.interner.nodes in
    let last = c.lines_last_while_nodes_are_added.ensures.said vars in
    let ours =
    last now new c.in_ok-left.left (lines_where formula said) c.in_ok-right.ensures.keeps
    (c.in_ok-left.ensures.restricted vars said left) in
    let theirs =
    c.in_ok-right.ensures.restricted vars others (last old now c.args.right others c.in_ok-left.ensures.keeps right) in
    let found = rw c.in-Yes.is at (c.in_ok-same.ensures.compared vars (lines_where formula said) (lines_where formula others) ours theirs) in
    (c.same_lists_where_a_condition_holds.ensures formula said others).0 found.1
