use Rattle.std.proofs.Common.{◌≡◌, ◌∙◌, IfOk, sym, subst}
use Rattle.pep508_tree.specs.Nodes.{IsRising}
use Rattle.pep508_leaf_diagram.specs.Forms.{record_of}
use Rattle.pep508_leaf_diagram.specs.Pairing.{PairedNodes, under}
use Rattle.pep508_leaf_diagram.proofs.Pairs.{under_same}
use Rattle.pep508_leaf_diagram.proofs.diagram_pairs.with_form.Goals as goal

pub with_parts-requires-clause-other_rising : goal.with_parts-requires-clause-other_rising
with_parts-requires-clause-other_rising c =
    let n = record_of c.args.form.now in
    let same : under n c.first-first.result c.versions.result.now c.texts.result.now c.second-second.result ≡
    record_of c.args.other.now =
    (λ i. under n (c.first-first.ensures i) (c.versions.ensures i) (c.texts.ensures i) (c.second-second.ensures i))
    ∙ under_same n (record_of c.args.other.now) c.requires.same in
    subst IsRising (sym same) c.requires.other_rising

pub returns : goal.returns
returns c =
    let n = record_of c.args.form.now in
    let same : under n c.first-first.result c.versions.result.now c.texts.result.now c.second-second.result ≡
    record_of c.args.other.now =
    (λ i. under n (c.first-first.ensures i) (c.versions.ensures i) (c.texts.ensures i) (c.second-second.ensures i))
    ∙ under_same n (record_of c.args.other.now) c.requires.same in
    subst (λ other. IfOk c.with_parts.result (λ pairs. PairedNodes n other (record_of pairs))) same
    c.with_parts.ensures
