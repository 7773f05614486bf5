use Rattle.std.proofs.Common.{sym, subst, IfSome}
use Rattle.std.specs.Cmp.Lexicographic.{nat_list_cmp_total}
use Rattle.pep440_version.specs.OrderLaws.{version_cmp_total}
use Rattle.pep440_version.specs.Order.{version_cmp}
use Rattle.pep508_diagram.specs.Text.{text_cmp}
use Rattle.pep508_diagram.specs.Branches.{RisingBranches, NeighboursDiffer}
use Rattle.pep508_tree.specs.Nodes.{IsRising}
use Rattle.pep508_tree.specs.Joining.{is_same}
use Rattle.pep508_tree.proofs.Rejoined.{joined_rises, joined_differs}
use Rattle.pep508_tree.proofs.Same.{same_trees}
use Rattle.pep508_simplification.specs.Parts.{record_of}
use Rattle.pep508_simplification.proofs.root_copy.Root.rejoined.Goals as goal

pub versions_node-requires-clause-rises : goal.versions_node-requires-clause-rises
versions_node-requires-clause-rises c =
    let both = c.first_and_others-first.result in
    subst (RisingBranches version_cmp) (sym c.in_ok-later-in-Versions.ensures)
    (joined_rises version_cmp_total is_same same_trees both.0 c.in-Versions.later.items both.1.now
    (subst (λ root. IfSome (record_of root) IsRising) c.in-Versions.is c.requires.rises))

pub versions_node-requires-clause-differ : goal.versions_node-requires-clause-differ
versions_node-requires-clause-differ c =
    let both = c.first_and_others-first.result in
    subst (NeighboursDiffer both.0) (sym c.in_ok-later-in-Versions.ensures)
    (joined_differs version_cmp_total is_same same_trees both.0 c.in-Versions.later.items both.1.now)

pub texts_node-requires-clause-rises : goal.texts_node-requires-clause-rises
texts_node-requires-clause-rises c =
    let both = c.first_and_others-first.result in
    subst (RisingBranches text_cmp) (sym c.in_ok-later-in-Texts.ensures)
    (joined_rises nat_list_cmp_total is_same same_trees both.0 c.in-Texts.later.items both.1.now
    (subst (λ root. IfSome (record_of root) IsRising) c.in-Texts.is c.requires.rises))

pub texts_node-requires-clause-differ : goal.texts_node-requires-clause-differ
texts_node-requires-clause-differ c =
    let both = c.first_and_others-first.result in
    subst (NeighboursDiffer both.0) (sym c.in_ok-later-in-Texts.ensures)
    (joined_differs nat_list_cmp_total is_same same_trees both.0 c.in-Texts.later.items both.1.now)
