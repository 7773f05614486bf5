use Rattle.std.proofs.Common.{◌∙◌, sym, ap₂}
use Rattle.std.specs.BTreeMap.{is_at}
use Rattle.std.specs.List.{list_any}
use Rattle.pep508_tree_ref.proofs.Ties.{pair_cmp, tie_among}
use Rattle.pep508_tree_ref.proofs.known.is_known.Goals as goal

pub returns-then-place-gt0 : goal.returns-then-place-gt0
returns-then-place-gt0 c is nodes others tied =
    tie_among nodes others c.args.tree c.args.other c.args.known.now.keys
    (ap₂ (λ a b. list_any (is_at (pair_cmp (a, b))) c.args.known.now.keys)
    (sym c.name.ensures) (sym c.name-then-place-gt0.ensures)
    ∙ sym c.contains.ensures ∙ is)
    tied
