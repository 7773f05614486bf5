use Rattle.std.proofs.Common.{◌≡◌, ◌∙◌, ap, sym, subst, []}
use Rattle.pep508_tree.specs.Meaning.{Versions, Texts}
use Rattle.pep508_tree.specs.Nodes.{IsChildIn, chosen, node_place}
use Rattle.pep508_leaf_diagram.specs.Forms.{record_of}
use Rattle.pep508_leaf_diagram.specs.Pairing.{ArePaired}
use Rattle.pep508_leaf_diagram.proofs.Pairs.{versions_paired, texts_paired}
use Rattle.pep508_leaf_diagram.proofs.diagram_pairs.with_second.Goals as goal

pub returns-in_ok-pairs-in-Versions : goal.returns-in_ok-pairs-in-Versions
returns-in_ok-pairs-in-Versions c =
    let form = c.args.form.now in
    let other = c.args.second.now in
    let own = c.in-Versions.first in
    let pairs = c.in_ok-pairs-in-Versions.pairs.items in
    subst (λ n. ArePaired (node_place n) (chosen n) (λ v. other) (λ d. IsChildIn d n) (λ d. d ≡ other)
    (Versions c.in-Versions.key (own, other) pairs))
    (ap (Versions c.in-Versions.key own) c.deref.ensures.value ∙ ap record_of (sym c.in-Versions.is))
    (versions_paired c.in-Versions.key own c.deref.result.now other [] pairs
    c.in_ok-pairs-in-Versions.ensures.points c.in_ok-pairs-in-Versions.ensures.rises
    c.in_ok-pairs-in-Versions.ensures.children)

pub returns-in_ok-pairs-in-Texts : goal.returns-in_ok-pairs-in-Texts
returns-in_ok-pairs-in-Texts c =
    let other = c.args.second.now in
    let own = c.in-Texts.first in
    let pairs = c.in_ok-pairs-in-Texts.pairs.items in
    subst (λ n. ArePaired (node_place n) (chosen n) (λ v. other) (λ d. IsChildIn d n) (λ d. d ≡ other)
    (Texts c.in-Texts.key (own, other) pairs))
    (ap (Texts c.in-Texts.key own) c.deref-in-Texts.ensures.value ∙ ap record_of (sym c.in-Texts.is))
    (texts_paired c.in-Texts.key own c.deref-in-Texts.result.now other [] pairs
    c.in_ok-pairs-in-Texts.ensures.points c.in_ok-pairs-in-Texts.ensures.rises
    c.in_ok-pairs-in-Texts.ensures.children)
