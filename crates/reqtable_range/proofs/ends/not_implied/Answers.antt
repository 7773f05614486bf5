use Rattle.std.proofs.Common.{[], ◌∷◌, ◌++◌, ap, subst, ◌∙◌}
use Rattle.std.proofs.lemmas.List.{take_all}
use Rattle.reqtable_range.specs.Sorting.{StandFor}
use Rattle.reqtable_range.specs.Together.{lent}
use Rattle.reqtable_range.proofs.Fewer.{end_kept, end_dropped}
use Rattle.reqtable_range.proofs.ends.not_implied.Goals as goal
use Rattle.reqtable_range.proofs.ends.not_implied.Goals.{then-not-implies+in_ok-push}
use Rattle.reqtable_range.proofs.ends.not_implied.Goals.{else-not-implies}

pub loop-end-preserved : goal.loop-end-preserved
loop-end-preserved c =
    let ends = c.args.ends.now in
    let i = c.loop-end.end-index in
    let end = c.end-item.result in
    let m = c.args.member.now in
    let left = c.loop-end.left.items in
    elim c.if-not-implies.branch [
      | then-not-implies+in_ok-push w ↦
          end_kept ends i end m left c.if-not-implies.left.items c.loop-end-test.true c.end-item.is
          (ap (λ taken. taken.items) w.left-is ∙ w.in_ok-push.ensures.items) c.loop-end.invariant
      | else-not-implies w ↦
          end_dropped ends i end m left c.if-not-implies.left.items c.loop-end-test.true c.end-item.is
          (ap (λ taken. taken.items) w.left-is) (c.implies.ensures w.if-not-implies.false) c.loop-end.invariant
    ]

pub returns : goal.returns
returns c =
    let m = c.args.member.now in
    subst (λ xs. StandFor (lent xs ++ m ∷ []) (lent c.loop-end.left.items ++ m ∷ []))
    (take_all c.loop-end.end-index c.args.ends.now c.loop-end-test.false) c.loop-end.invariant
