use Rattle.std.proofs.Common.{[], ◌∷◌, ◌++◌, subst}
use Rattle.reqtable_range.specs.Sorting.{StandFor}
use Rattle.reqtable_range.specs.Together.{lent}
use Rattle.reqtable_range.proofs.Fewer.{implied_stand}
use Rattle.reqtable_range.proofs.exact.add_exact.Goals as goal

pub returns-then-implied : goal.returns-then-implied
returns-then-implied c =
    let m = c.args.member.now in
    subst (λ xs. StandFor (lent xs ++ m ∷ []) (lent xs)) c.deref.ensures.value
    (implied_stand (lent c.deref.result.now) m (c.in_ok-implied.ensures c.if-implied.true))
