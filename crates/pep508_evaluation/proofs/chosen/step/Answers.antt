use Rattle.std.proofs.Common.{◌∙◌, ap, sym}
use Rattle.version_ranges.specs.Point.{At}
use Rattle.pep440_version.specs.Order.{version_cmp}
use Rattle.pep508_diagram.specs.Branches.{branch_at}
use Rattle.pep508_diagram.specs.Text.{text_cmp}
use Rattle.pep508_tree.specs.Nodes.{turned}
use Rattle.pep508_evaluation.proofs.Choosing.{versions_rising, texts_rising, goes_by_versions, goes_by_texts}
use Rattle.pep508_evaluation.proofs.chosen.step.Goals as goal

pub version_child-requires : goal.version_child-requires
version_child-requires c =
    let n = c.in-Versions.children in
    versions_rising n.negated c.in-Versions.key n.first n.later.now c.in-Versions.ensures.root.rises

pub text_child-requires : goal.text_child-requires
text_child-requires c =
    let n = c.in-Texts.children in
    texts_rising n.negated c.in-Texts.key n.first n.later.now c.in-Texts.ensures.root.rises

pub returns-in-Versions : goal.returns-in-Versions
returns-in-Versions c =
    let n = c.in-Versions.children in
    goes_by_versions c.args.interner.now.nodes c.args.tree c.args.environment.now c.args.extras.now n.negated
    c.in-Versions.key n.first n.later.now c.version_child.result (sym c.in-Versions.ensures.shows)
    c.in-Versions.ensures.root
    (c.version_child.ensures
    ∙ ap (λ x. turned n.negated (branch_at version_cmp n.first n.later.now (At x))) c.variable_in.ensures)

pub returns-in-Texts : goal.returns-in-Texts
returns-in-Texts c =
    let n = c.in-Texts.children in
    goes_by_texts c.args.interner.now.nodes c.args.tree c.args.environment.now c.args.extras.now n.negated
    c.in-Texts.key n.first n.later.now c.text_child.result (sym c.in-Texts.ensures.shows)
    c.in-Texts.ensures.root
    (c.text_child.ensures
    ∙ ap (λ x. turned n.negated (branch_at text_cmp n.first n.later.now (At x))) c.get_string.ensures)
