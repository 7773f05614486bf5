use Rattle.std.proofs.Common.{◌∙◌, [], ◌∷◌, ap, sym, subst}
use Rattle.version_ranges.specs.Boundaries.{boundary_cmp}
use Rattle.version_ranges.specs.declared.boundary.Boundary.TheVariants as boundary
use Rattle.version_ranges.specs.Turns.{Rising}
use Rattle.pep508_diagram.specs.Text.{text_cmp}
use Rattle.pep508_diagram.specs.Branches.{branch_at, by_turns}
use Rattle.pep508_expression.proofs.MadeTrees.{both_ok}
use Rattle.pep508_expression.proofs.TextPoints.{equal_rises, equal_texts}
use Rattle.pep508_expression.proofs.text_trees.equal_tree.Goals as goal

pub texts_tree-requires : goal.texts_tree-requires
texts_tree-requires c =
    subst (λ text. Rising (boundary_cmp text_cmp) (boundary.At c.args.text ∷ boundary.JustAbove text ∷ []))
    (sym c.in_ok-copy.ensures) (equal_rises c.args.text)

pub returns-clause-made : goal.returns-clause-made
returns-clause-made c =
    both_ok _ _ _ c.texts_tree.result
    (λ tree made truth. record {
      made = made;
      truth = λ v. truth v
          ∙ ap
          (λ text. branch_at text_cmp c.args.negated
          (by_turns c.args.negated (boundary.At c.args.text ∷ boundary.JustAbove text ∷ []))
          (v.text c.args.key))
          c.in_ok-copy.ensures
          ∙ equal_texts c.args.negated c.args.text (v.text c.args.key);
    })
    c.texts_tree.ensures.made c.texts_tree.ensures.truth
