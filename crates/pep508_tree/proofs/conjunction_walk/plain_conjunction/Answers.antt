use Rattle.std.proofs.Common.{◌≡◌, ◌∙◌, ap, not, sym, subst}
use Rattle.pep508_tree.specs.Tree.{negation}
use Rattle.pep508_tree.specs.Conjunctions.{Conjunction}
use Rattle.pep508_tree.proofs.OneTree.{tree_is}
use Rattle.pep508_tree.proofs.Same.{bools_alike, bools_apart}
use Rattle.pep508_tree.proofs.Conjoining.{conjunction_turned}
use Rattle.pep508_tree.proofs.Plain.{first_never, first_always, both_same, both_opposite}
use Rattle.pep508_tree.proofs.conjunction_walk.plain_conjunction.Goals.{then-is_negated, else-is_negated}
use Rattle.pep508_tree.proofs.conjunction_walk.plain_conjunction.Goals.{then-is_negated-2, else-is_negated-2}
use Rattle.pep508_tree.proofs.conjunction_walk.plain_conjunction.Goals.{then-is_negated-3, else-is_negated-3}
use Rattle.pep508_tree.proofs.conjunction_walk.plain_conjunction.Goals as goal

pub returns-then-place-eq0 : goal.returns-then-place-eq0
returns-then-place-eq0 c nodes made other =
    let place = sym c.place.ensures ∙ c.if-place-eq0.true in
    elim c.if-is_negated.branch [
      | then-is_negated w ↦
          subst (Conjunction nodes nodes c.args.a c.args.b) (sym w.result-is)
          (first_never nodes c.args.a c.args.b place (sym c.is_negated.ensures ∙ w.if-is_negated.true))
      | else-is_negated w ↦
          subst (Conjunction nodes nodes c.args.a c.args.b) (sym w.result-is)
          (first_always nodes c.args.a c.args.b place (sym c.is_negated.ensures ∙ w.if-is_negated.false)
          other)
    ]

pub returns-then-place-eq0-2 : goal.returns-then-place-eq0-2
returns-then-place-eq0-2 c nodes made other =
    let place = sym c.place-2.ensures ∙ c.if-place-eq0-2.true in
    elim c.if-is_negated-2.branch [
      | then-is_negated-2 w ↦
          subst (Conjunction nodes nodes c.args.a c.args.b) (sym w.result-is)
          (conjunction_turned nodes nodes c.args.b c.args.a c.args.b
          (first_never nodes c.args.b c.args.a place
          (sym c.is_negated-then-place-eq0-2.ensures ∙ w.if-is_negated-2.true)))
      | else-is_negated-2 w ↦
          subst (Conjunction nodes nodes c.args.a c.args.b) (sym w.result-is)
          (conjunction_turned nodes nodes c.args.b c.args.a c.args.a
          (first_always nodes c.args.b c.args.a place
          (sym c.is_negated-then-place-eq0-2.ensures ∙ w.if-is_negated-2.false) made))
    ]

pub returns : goal.returns
returns c nodes made other =
    let place : c.args.a.place ≡ c.args.b.place = sym c.place-3.ensures ∙ c.if-place.false
    ∙ c.place-4.ensures in
    elim c.if-is_negated-3.branch [
      | then-is_negated-3 w ↦
          subst (Conjunction nodes nodes c.args.a c.args.b) (sym w.result-is)
          (both_same nodes c.args.a c.args.b
          (tree_is c.args.a c.args.b place
          (sym c.is_negated-2.ensures ∙ bools_alike _ _ w.if-is_negated-3.true ∙ c.is_negated-3.ensures))
          made)
      | else-is_negated-3 w ↦
          subst (Conjunction nodes nodes c.args.a c.args.b) (sym w.result-is)
          (both_opposite nodes c.args.a c.args.b
          (tree_is c.args.b (negation c.args.a) (sym place)
          (sym c.is_negated-3.ensures ∙ bools_apart _ _ w.if-is_negated-3.false
          ∙ ap not c.is_negated-2.ensures)))
    ]
