use Rattle.std.proofs.Common.{◌≡◌, ◌↔◌, IsTrue, subst}
use Rattle.reqtable_compare.proofs.Within.{all_is}
use Rattle.reqtable_compare.proofs.summary.has_all.Goals as goal

pub returns : goal.returns
returns c =
    all_is c.is_same_extras.result c.in_ok-all.all.items c.args.extras.now c.args.wanted.now c.requires
    c.in_ok-all.ensures.rise c.in_ok-all.ensures.are
    (subst (λ l. IsTrue c.is_same_extras.result ↔ (l ≡ c.args.extras.now)) c.deref.ensures.value
    c.is_same_extras.ensures)
