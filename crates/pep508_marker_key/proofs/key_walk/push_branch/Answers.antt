use Rattle.std.proofs.Common.{[], ◌∷◌, ◌++◌, ◌∙◌, ap, append_assoc}
use Rattle.std.proofs.lemmas.Result.{IfOk-weaker}
use Rattle.pep508_marker_key.specs.declared.key_walk.Step.TheVariants as step
use Rattle.pep508_marker_key.proofs.Sides.{versions_asked, texts_asked, flag_asked}
use Rattle.pep508_marker_key.proofs.key_walk.push_branch.Goals as goal

pub returns-in_ok-push_version_question-in-Versions : goal.returns-in_ok-push_version_question-in-Versions
returns-in_ok-push_version_question-in-Versions c =
    let children = c.in-Versions.children in
    IfOk-weaker c.push_sides.result _ _
    (λ done pushed. versions_asked c.args.interner.now.nodes c.args.tree c.are_sound.ensures c.requires.made
    c.args.low c.args.index c.args.key.now.items c.push_version_question.new.key.items c.args.steps.now.items
    c.push_sides.new.steps.items children.negated c.in-Versions.variable children.first children.later.now
    c.in-Versions.ensures.shows c.in-Versions.ensures.root c.requires.inside c.index-children-index.result
    c.index-children-index.is c.in_ok-push_version_question-in-Versions.ensures pushed)
    c.push_sides.ensures

pub returns-in_ok-push_text_question-in-Texts : goal.returns-in_ok-push_text_question-in-Texts
returns-in_ok-push_text_question-in-Texts c =
    let children = c.in-Texts.children in
    IfOk-weaker c.push_sides-in-Texts.result _ _
    (λ done pushed. texts_asked c.args.interner.now.nodes c.args.tree c.are_sound.ensures c.requires.made
    c.args.low c.args.index c.args.key.now.items c.push_text_question.new.key.items c.args.steps.now.items
    c.push_sides-in-Texts.new.steps.items children.negated c.in-Texts.variable children.first children.later.now
    c.in-Texts.ensures.shows c.in-Texts.ensures.root c.requires.inside c.index-children-index-in-Texts.result
    c.index-children-index-in-Texts.is c.in_ok-push_text_question-in-Texts.ensures pushed)
    c.push_sides-in-Texts.ensures

pub returns-in_ok-push-in-Flagged-2 : goal.returns-in_ok-push-in-Flagged-2
returns-in_ok-push-in-Flagged-2 c =
    flag_asked c.args.interner.now.nodes c.args.tree c.are_sound.ensures c.requires.made
    c.args.low c.args.index c.args.key.now.items c.push_flag_question.new.key.items c.args.steps.now.items
    c.push-in-Flagged.new.self.items c.in-Flagged.flag.now c.in-Flagged.field-1 c.in-Flagged.unset
    c.in-Flagged.ensures.shows c.in-Flagged.ensures.root c.in_ok-push_flag_question-in-Flagged.ensures
    (c.in_ok-push-in-Flagged-2.ensures.items
    ∙ ap (λ xs. xs ++ step.Enter c.args.low ∷ []) c.in_ok-push-in-Flagged.ensures.items
    ∙ append_assoc c.args.steps.now.items (step.Enter c.in-Flagged.unset ∷ []) (step.Enter c.args.low ∷ []))
