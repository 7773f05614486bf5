use Rattle.std.proofs.Common.{◌∙◌, sym, subst, ap₂}
use Rattle.std.specs.Prelude.{◌≡◌, OnOk}
use Rattle.std.specs.BTreeSet.{insert_key}
use Rattle.pep508_tree_ref.proofs.Ties.{pair_cmp, tied_with, is_equal}
use Rattle.pep508_tree_ref.proofs.known.keep.Goals as goal

pub returns-then-place-gt0 : goal.returns-then-place-gt0
returns-then-place-gt0 c nodes others all is =
    tied_with nodes others c.insert.result c.args.known.now.keys c.insert.new.self.keys c.args.tree c.args.other
    (subst (λ names. OnOk c.insert.result
    (c.insert.new.self.keys ≡ insert_key pair_cmp c.args.known.now.keys names))
    (ap₂ (λ a b. (a, b)) c.name.ensures c.name-then-place-gt0.ensures)
    c.insert.ensures.keys)
    c.insert.ensures.err all (sym is ∙ is_equal c.args.order (sym c.is_eq.ensures ∙ c.if-is_eq.true))
