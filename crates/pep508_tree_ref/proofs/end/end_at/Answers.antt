use Rattle.pep508_tree.specs.Roots.{root_of}
use Rattle.pep508_tree_ref.proofs.Edges.{version_end_some, version_end_none, text_end_some, text_end_none}
use Rattle.pep508_tree_ref.proofs.end.end_at.Goals as goal

pub returns-in-Some : goal.returns-in-Some
returns-in-Some c =
    let n = c.in-Versions.children in
    version_end_some n.negated n.first (root_of c.args.interner.now.nodes c.args.tree) c.args.index
    c.in-Versions.key n.later.now c.in-Versions.ensures.shows c.in-Some.branch.now
    c.in-Some.ensures.lookup.3.0 c.in-Some.ensures.lookup.1

pub returns-in-None : goal.returns-in-None
returns-in-None c =
    let n = c.in-Versions.children in
    version_end_none n.negated n.first (root_of c.args.interner.now.nodes c.args.tree) c.args.index
    c.in-Versions.key n.later.now c.in-Versions.ensures.shows c.in-None.ensures.lookup.3

pub returns-in-Some-get : goal.returns-in-Some-get
returns-in-Some-get c =
    let n = c.in-Texts.children in
    text_end_some n.negated n.first (root_of c.args.interner.now.nodes c.args.tree) c.args.index
    c.in-Texts.key n.later.now c.in-Texts.ensures.shows c.in-Some-get.branch.now
    c.in-Some-get.ensures.lookup.3.0 c.in-Some-get.ensures.lookup.1

pub returns-in-None-get : goal.returns-in-None-get
returns-in-None-get c =
    let n = c.in-Texts.children in
    text_end_none n.negated n.first (root_of c.args.interner.now.nodes c.args.tree) c.args.index
    c.in-Texts.key n.later.now c.in-Texts.ensures.shows c.in-None-get.ensures.lookup.3
