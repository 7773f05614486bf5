use Rattle.std.proofs.Common.{◌∙◌, map, sym}
use Rattle.std.proofs.lemmas.Result.{err_from_is_err_and}
use Rattle.reqtable_compare.proofs.Answering.{refusal_of, all_have_kept, answered}
use Rattle.reqtable_compare.proofs.Bounded.{related_by}
use Rattle.reqtable_compare.specs.Differences.{listed}
use Rattle.reqtable_compare.proofs.Outside.{outside}
use Rattle.reqtable_compare.proofs.Trees.{has_tree}
use Rattle.reqtable_compare.proofs.Whole.{left_refused, right_refused}
use Rattle.reqtable_requirements.proofs.Lasting.{lines_kept, nodes_kept}
use Rattle.reqtable_compare.proofs.comparing.compared_on.Goals as goal

pub returns-in_err-left_table-clause-compared : goal.returns-in_err-left_table-clause-compared
returns-in_err-left_table-clause-compared c vars said others h h' =
    let old = c.args.interner.now.nodes in
    let names = map (λ name. name.now) c.args.names.now in
    let p = err_from_is_err_and c.from_residual.result c.from_residual.ensures.1 in
    rw (p.1, p.2)
    (left_refused c.args.bounds.limit c.args.bounds.in_all names said others
    (outside vars old c.args.bounds.limit c.args.left.now c.args.right.now said others names h h' c.requires.others)
    c.side_table.new.interner.nodes c.side_table.new.interner.nodes _
    (sym (refusal_of vars old c.args.left.now c.args.right.now said others h h') ∙ c.requires.none)
    (c.in_err-left_table.ensures.made vars said h))

pub side_table-requires-2-clause-trees : goal.side_table-requires-2-clause-trees
side_table-requires-2-clause-trees c =
    nodes_kept c.args.interner.now.nodes c.side_table.new.interner.nodes c.args.right.now c.in_ok-left_table.ensures.keeps
    c.requires.right

pub returns-in_err-right_table-clause-compared : goal.returns-in_err-right_table-clause-compared
returns-in_err-right_table-clause-compared c vars said others h h' =
    let old = c.args.interner.now.nodes in
    let mid = c.side_table.new.interner.nodes in
    let names = map (λ name. name.now) c.args.names.now in
    let p = err_from_is_err_and c.from_residual-in_err-right_table.result c.from_residual-in_err-right_table.ensures.1 in
    rw (p.1, p.2)
    (right_refused c.args.bounds.limit c.args.bounds.in_all names said others
    (outside vars old c.args.bounds.limit c.args.left.now c.args.right.now said others names h h' c.requires.others)
    c.side_table-2.new.interner.nodes c.side_table-2.new.interner.nodes _
    (sym (refusal_of vars old c.args.left.now c.args.right.now said others h h') ∙ c.requires.none)
    (c.in_ok-left_table.ensures.made vars said h).2
    (c.in_err-right_table.ensures.made vars others
    (lines_kept vars old mid c.in_ok-left_table.ensures.keeps c.args.right.now others h')))

pub compared-requires-clause-left : goal.compared-requires-clause-left
compared-requires-clause-left c =
    all_have_kept c.side_table.new.interner.nodes c.side_table-2.new.interner.nodes c.in_ok-left_table.left_table
    c.in_ok-right_table.ensures.keeps c.in_ok-left_table.ensures.cases

pub returns-clause-compared : goal.returns-clause-compared
returns-clause-compared c vars said others h h' =
    let old = c.args.interner.now.nodes in
    let mid = c.side_table.new.interner.nodes in
    related_by c.args.relation c.args.bounds.limit c.args.bounds.in_all c.compared.new.interner.nodes said others
    c.compared.result
    (answered c.args.relation vars old mid c.side_table-2.new.interner.nodes c.compared.new.interner.nodes c.args.bounds.limit
    (map (λ name. name.now) c.args.names.now) c.args.left.now c.args.right.now c.in_ok-left_table.left_table
    c.in_ok-right_table.right_table said others c.compared.result h h' c.are_read.ensures.rising
    c.are_read-2.ensures.rising c.requires.none c.requires.others c.in_ok-left_table.ensures.keeps
    c.in_ok-right_table.ensures.keeps (c.in_ok-left_table.ensures.made vars said h)
    (c.in_ok-right_table.ensures.made vars others
    (lines_kept vars old mid c.in_ok-left_table.ensures.keeps c.args.right.now others h'))
    c.compared.ensures.compared)

pub returns-clause-tree : goal.returns-clause-tree
returns-clause-tree c =
    has_tree c.args.relation c.side_table-2.new.interner.nodes c.compared.new.interner.nodes
    (listed c.args.left.now c.in_ok-left_table.left_table) (listed c.args.right.now c.in_ok-right_table.right_table)
    (map (λ name. name.now) c.args.names.now) c.compared.result c.compared.ensures.compared
