use Rattle.std.proofs.Common.{◌≡◌, ◌∙◌, ◌+◌, take, sym, ap, subst}
use Rattle.pep508_tree.specs.Meaning.{IsTree}
use Rattle.reqtable_covers.specs.Applying.{applies_to, IsFixed, numbers_to}
use Rattle.reqtable_covers.proofs.Applied.{all_at, pushed, passed}
use Rattle.reqtable_covers.proofs.applying.numbers_where.Goals as goal
use Rattle.reqtable_covers.proofs.applying.numbers_where.Goals.{then-applies+in_ok-push, else-applies}

pub applies_where-requires-clause-marker : goal.applies_where-requires-clause-marker
applies_where-requires-clause-marker c =
    all_at (λ line. IsTree c.args.interner.now.nodes line.requirement.marker) c.args.lines.now c.loop-line.line-index
    c.line-item.result c.loop-line-test.true c.line-item.is c.requires.markers

pub loop-line-preserved : goal.loop-line-preserved
loop-line-preserved c fixed v there =
    let nodes = c.args.interner.now.nodes in
    let name = c.args.name.now in
    let lines = c.args.lines.now in
    let i = c.loop-line.line-index in
    let line = c.line-item.result in
    let before = c.loop-line.numbers.items in
    let own = all_at (IsFixed nodes name c.args.tree) lines i line c.loop-line-test.true c.line-item.is fixed in
    let decided = c.in_ok-applies.ensures own v there in
    elim c.if-applies.branch [
      | then-applies+in_ok-push w ↦
          subst (λ found. found ≡ numbers_to nodes name v (take (i + 1) lines))
          (sym (ap (λ found. found.items) w.numbers-is ∙ w.in_ok-push.ensures.items))
          (pushed (applies_to nodes name v) lines i line c.loop-line-test.true c.line-item.is before
          (c.loop-line.invariant fixed v there) (sym decided ∙ w.if-applies.true))
      | else-applies w ↦
          subst (λ found. found ≡ numbers_to nodes name v (take (i + 1) lines))
          (sym (ap (λ found. found.items) w.numbers-is))
          (passed (applies_to nodes name v) lines i line c.loop-line-test.true c.line-item.is before
          (c.loop-line.invariant fixed v there) (sym decided ∙ w.if-applies.false))
    ]
