use Rattle.std.proofs.Common.{◌≡◌, ◌∙◌, ◌++◌, ◌∷◌, [], length, ap, sym}
use Rattle.pep508_cases.specs.Marked.{set_at}
use Rattle.pep508_cases.proofs.set_diagram.of_none.Goals as goal

pub returns-clause-marked : goal.returns-clause-marked
returns-clause-marked c = λ nodes.
    let sets : c.push.new.self.items ≡ [] ∷ [] =
    c.in_ok-push.ensures.items ∙ (λ i. c.new-sets.ensures.items i ++ c.new.ensures i ∷ []) in (
      record {
        diagram = c.one_leaf.ensures.made nodes;
        count = ap length sets ∙ sym c.one_leaf.ensures.leaves;
        marks = λ v. (λ i. set_at (sets i) (c.one_leaf.ensures.leaf nodes v i));
      },
      c.one_leaf.ensures.rooted,
    )
