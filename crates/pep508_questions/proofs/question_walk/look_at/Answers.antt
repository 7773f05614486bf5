use Rattle.std.proofs.Common.{refl}
use Rattle.pep508_tree.specs.declared.root.TreeNode.TheVariants as lent
use Rattle.pep508_questions.proofs.Walking.{looked}
use Rattle.pep508_questions.proofs.question_walk.look_at.Goals as goal

pub returns-in-Constant : goal.returns-in-Constant
returns-in-Constant c =
    looked c.args.interner.now.nodes c.are_sound.ensures c.args.tree c.requires
    (lent.Constant c.in-Constant.field-0) c.in-Constant.ensures.shows c.in-Constant.ensures.constant
    c.in-Constant.ensures.root c.args.left.now.entries c.args.left.now.entries _ refl refl

pub returns-in_ok-add_branches-in-Versions : goal.returns-in_ok-add_branches-in-Versions
returns-in_ok-add_branches-in-Versions c =
    looked c.args.interner.now.nodes c.are_sound.ensures c.args.tree c.requires
    (lent.Versions c.in-Versions.field-0 c.in-Versions.children) c.in-Versions.ensures.shows
    c.in-Versions.ensures.constant c.in-Versions.ensures.root c.args.left.now.entries
    c.add_branches.new.left.entries c.asked_of_versions.result c.in_ok-add_branches-in-Versions.ensures
    (c.asked_of_versions.ensures c.in-Versions.field-0)

pub returns-in_ok-add_branches-in-Texts : goal.returns-in_ok-add_branches-in-Texts
returns-in_ok-add_branches-in-Texts c =
    looked c.args.interner.now.nodes c.are_sound.ensures c.args.tree c.requires
    (lent.Texts c.in-Texts.key c.in-Texts.children) c.in-Texts.ensures.shows
    c.in-Texts.ensures.constant c.in-Texts.ensures.root c.args.left.now.entries
    c.add_branches-in-Texts.new.left.entries c.asked_of_texts.result c.in_ok-add_branches-in-Texts.ensures
    c.asked_of_texts.ensures

pub returns-in_ok-add_two-in-Flagged : goal.returns-in_ok-add_two-in-Flagged
returns-in_ok-add_two-in-Flagged c =
    looked c.args.interner.now.nodes c.are_sound.ensures c.args.tree c.requires
    (lent.Flagged c.in-Flagged.flag c.in-Flagged.set c.in-Flagged.unset) c.in-Flagged.ensures.shows
    c.in-Flagged.ensures.constant c.in-Flagged.ensures.root c.args.left.now.entries
    c.add_two.new.left.entries c.asked_of_flag.result c.in_ok-add_two-in-Flagged.ensures
    c.asked_of_flag.ensures
