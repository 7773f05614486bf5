use Rattle.std.proofs.Common.{◌∙◌, sym}
use Rattle.std.proofs.lemmas.Result.{IfOk-weaker}
use Rattle.pep508_tree.specs.Nodes.{first_place}
use Rattle.pep508_disjointness.proofs.Apart.{paired_back}
use Rattle.pep508_disjointness.proofs.Lent.{before_paired, same_paired, shown_versions, shown_texts}
use Rattle.pep508_disjointness.proofs.Lent.{turned_less}
use Rattle.pep508_disjointness.proofs.child_pairs.pairs.Goals as goal

pub pairs_with-requires-in-Equal-clause-versions :
    goal.pairs_with-requires-in-Equal-clause-versions
pairs_with-requires-in-Equal-clause-versions c =
    shown_versions c.args.interner.now.nodes c.args.b c.side_of_node.result c.side_of_node.ensures

pub pairs_with-requires-in-Equal-clause-texts : goal.pairs_with-requires-in-Equal-clause-texts
pairs_with-requires-in-Equal-clause-texts c =
    shown_texts c.args.interner.now.nodes c.args.b c.side_of_node.result c.side_of_node.ensures

pub returns-in-Less : goal.returns-in-Less
returns-in-Less c =
    let side = c.side_of_tree.ensures in
    IfOk-weaker c.pairs_with.result _ _
    (λ pairs are. before_paired c.args.interner.now.nodes c.are_sound.ensures c.args.a c.args.b c.requires.b
    c.requires.b_node c.side_of_tree.result pairs.items are (sym c.cmp_variables.ensures ∙ c.in-Less.is)
    side.first side.versions side.texts side.second side.negated)
    c.pairs_with.ensures

pub returns-in-Equal : goal.returns-in-Equal
returns-in-Equal c =
    IfOk-weaker c.pairs_with-in-Equal.result _ _
    (λ pairs are. same_paired c.args.interner.now.nodes c.are_sound.ensures c.args.a c.args.b c.requires.b
    c.requires.b_node c.side_of_node.result pairs.items are (sym c.cmp_variables.ensures ∙ c.in-Equal.is)
    c.side_of_node.ensures)
    c.pairs_with-in-Equal.ensures

pub returns-in-Greater : goal.returns-in-Greater
returns-in-Greater c =
    let ns = c.args.interner.now.nodes in
    let side = c.side_of_tree-in-Greater.ensures in
    let less = turned_less (first_place ns c.args.a) (first_place ns c.args.b)
    (sym c.cmp_variables.ensures ∙ c.in-Greater.is) in
    IfOk-weaker c.pairs_with-in-Greater.result _ _
    (λ pairs are. paired_back ns c.args.a c.args.b pairs.items
    (before_paired ns c.are_sound.ensures c.args.b c.args.a c.requires.a c.requires.a_node
    c.side_of_tree-in-Greater.result pairs.items are less
    side.first side.versions side.texts side.second side.negated))
    c.pairs_with-in-Greater.ensures
