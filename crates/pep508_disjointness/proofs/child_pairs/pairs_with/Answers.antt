use Rattle.std.proofs.Common.{false}
use Rattle.pep508_tree.specs.Meaning.{Versions, Texts}
use Rattle.pep508_disjointness.proofs.Lent.{own_rises}
use Rattle.pep508_disjointness.proofs.Sided.{versions_pairs, texts_pairs, flag_pairs}
use Rattle.pep508_disjointness.proofs.child_pairs.pairs_with.Goals as goal

pub paired_children-requires-clause-rising : goal.paired_children-requires-clause-rising
paired_children-requires-clause-rising c =
    own_rises c.args.interner.now.nodes c.args.tree c.in-Versions.children.negated
    (Versions c.in-Versions.field-0 c.in-Versions.children.first c.in-Versions.children.later.now)
    c.in-Versions.ensures.root

pub paired_children-requires-in-Texts-clause-rising :
    goal.paired_children-requires-in-Texts-clause-rising
paired_children-requires-in-Texts-clause-rising c =
    own_rises c.args.interner.now.nodes c.args.tree c.in-Texts.children.negated
    (Texts c.in-Texts.field-0 c.in-Texts.children.first c.in-Texts.children.later.now)
    c.in-Texts.ensures.root

pub returns-in_ok-pairs-in-Versions : goal.returns-in_ok-pairs-in-Versions
returns-in_ok-pairs-in-Versions c =
    let children = c.in-Versions.children in
    versions_pairs c.args.interner.now.nodes c.args.tree c.args.side children.negated
    c.in_ok-pairs-in-Versions.pairs.items c.turned_pairs.result.items c.turned_pairs.ensures
    c.in-Versions.field-0 children.first children.later.now c.in-Versions.ensures.root
    c.in_ok-pairs-in-Versions.ensures

pub returns-in_ok-pairs-in-Texts : goal.returns-in_ok-pairs-in-Texts
returns-in_ok-pairs-in-Texts c =
    let children = c.in-Texts.children in
    texts_pairs c.args.interner.now.nodes c.args.tree c.args.side children.negated
    c.in_ok-pairs-in-Texts.pairs.items c.turned_pairs-in-Texts.result.items c.turned_pairs-in-Texts.ensures
    c.in-Texts.field-0 children.first children.later.now c.in-Texts.ensures.root
    c.in_ok-pairs-in-Texts.ensures

pub returns-in_ok-pairs-in-Flagged : goal.returns-in_ok-pairs-in-Flagged
returns-in_ok-pairs-in-Flagged c =
    flag_pairs c.args.interner.now.nodes c.args.tree c.args.side false c.in_ok-pairs-in-Flagged.pairs.items
    c.turned_pairs-in-Flagged.result.items c.turned_pairs-in-Flagged.ensures c.in-Flagged.field-0.now
    c.in-Flagged.set c.in-Flagged.unset c.in-Flagged.ensures.root c.in_ok-pairs-in-Flagged.ensures.items
