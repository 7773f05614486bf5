use Rattle.std.proofs.Common.{◌∙◌, rules}
use Rattle.pep508_tree.specs.Meaning.{Versions, Texts, Flagged}
use Rattle.pep508_tree.specs.Nodes.{signed}
use Rattle.pep508_leaf_diagram.proofs.Roots.{root_opened, versions_signed, texts_signed, above_constant}
use Rattle.pep508_leaf_diagram.proofs.diagram_node.form_of_tree.Goals as goal

pub returns-in-Constant : goal.returns-in-Constant
returns-in-Constant c = λ leaves nodes h place.
    above_constant c.args.interner.now.nodes place c.args.tree c.in-Constant.ensures.constant.place_is

pub returns-in_ok-later-in-Versions : goal.returns-in_ok-later-in-Versions
returns-in_ok-later-in-Versions c = λ leaves nodes h.
    let own = c.in-Versions.children in
    root_opened c.args.interner.now.nodes leaves nodes c.args.tree
    (signed own.negated (Versions c.in-Versions.key own.first own.later.now)) _ c.in-Versions.ensures.root h
    (versions_signed own.negated c.in-Versions.key own.first own.later.now ∙ search rules)

pub returns-in_ok-later-in-Texts : goal.returns-in_ok-later-in-Texts
returns-in_ok-later-in-Texts c = λ leaves nodes h.
    let own = c.in-Texts.children in
    root_opened c.args.interner.now.nodes leaves nodes c.args.tree
    (signed own.negated (Texts c.in-Texts.key own.first own.later.now)) _ c.in-Texts.ensures.root h
    (texts_signed own.negated c.in-Texts.key own.first own.later.now ∙ search rules)

pub returns-in_ok-flag-in-Flagged : goal.returns-in_ok-flag-in-Flagged
returns-in_ok-flag-in-Flagged c = λ leaves nodes h.
    root_opened c.args.interner.now.nodes leaves nodes c.args.tree
    (Flagged c.in-Flagged.flag.now c.in-Flagged.set c.in-Flagged.unset) _ c.in-Flagged.ensures.root h (search rules)
