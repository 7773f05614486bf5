use Rattle.std.proofs.Common.{◌∙◌, refl, sym}
use Rattle.reqtable_compare.proofs.comparing.difference.Goals as goal

pub returns-clause-answered : goal.returns-clause-answered
returns-clause-answered c =
    let tree = c.in_ok-tree.tree in
    let made = c.in_ok-tree.ensures.made in
    let truth = c.in_ok-tree.ensures.truth in (
      refl,
      record {
        made = made;
        somewhere = c.a_tree_holds_somewhere.ensures tree made
            (λ e. c.requires.meet (λ v. sym (truth v) ∙ (c.constants_are_named.ensures.falsehood tree made).0 e v));
        means = truth;
      },
    )
