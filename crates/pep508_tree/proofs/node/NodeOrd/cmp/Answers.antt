use Rattle.std.proofs.Common.{◌∙◌, ap, ap₂, sym}
use Rattle.std.specs.Ordering.{is_ne, ordering_then}
use Rattle.std.specs.Cmp.Lexicographic.{slice_cmp}
use Rattle.pep440_version.specs.Order.{version_cmp}
use Rattle.pep508_diagram.specs.Text.{text_cmp}
use Rattle.pep508_tree.specs.Nodes.{tree_cmp, branch_cmp, node_cmp}
use Rattle.pep508_tree.proofs.Orders.{first_decides, second_decides}
use Rattle.pep508_tree.proofs.node.NodeOrd.cmp.Goals as goal

pub returns-then-is_ne : goal.returns-then-is_ne
unfolding node_cmp
returns-then-is_ne c =
    let firsts = c.cmp_places-firsts.ensures ∙ ap₂ tree_cmp c.first.ensures c.first-2.ensures in
    firsts ∙ first_decides _ _ (ap is_ne (sym firsts) ∙ sym c.is_ne.ensures ∙ c.if-is_ne.true)

pub returns-then-is_ne-2 : goal.returns-then-is_ne-2
unfolding node_cmp
returns-then-is_ne-2 c =
    let firsts = c.cmp_places-firsts.ensures ∙ ap₂ tree_cmp c.first.ensures c.first-2.ensures in
    let seconds = c.cmp_places-seconds.ensures ∙ ap₂ tree_cmp c.second.ensures c.second-2.ensures in
    seconds ∙ first_decides _ _ (ap is_ne (sym seconds) ∙ sym c.is_ne-2.ensures ∙ c.if-is_ne-2.true)
    ∙ second_decides _ _ (ap is_ne (sym firsts) ∙ sym c.is_ne.ensures ∙ c.if-is_ne.false)

pub returns : goal.returns
unfolding node_cmp
returns c =
    let firsts = c.cmp_places-firsts.ensures ∙ ap₂ tree_cmp c.first.ensures c.first-2.ensures in
    let seconds = c.cmp_places-seconds.ensures ∙ ap₂ tree_cmp c.second.ensures c.second-2.ensures in
    c.then-2.ensures
    ∙ ap₂ ordering_then c.cmp_variable-variables.ensures
    (c.then.ensures
    ∙ ap₂ ordering_then (c.cmp_branches-versions.ensures
    ∙ ap₂ (slice_cmp (branch_cmp version_cmp)) c.versions.ensures c.versions-2.ensures)
    (c.cmp_branches-texts.ensures
    ∙ ap₂ (slice_cmp (branch_cmp text_cmp)) c.texts.ensures c.texts-2.ensures))
    ∙ second_decides _ _ (ap is_ne (sym seconds) ∙ sym c.is_ne-2.ensures ∙ c.if-is_ne-2.false)
    ∙ second_decides _ _ (ap is_ne (sym firsts) ∙ sym c.is_ne.ensures ∙ c.if-is_ne.false)
