use Rattle.std.proofs.Common.{◌≡◌, ℕ, true, false, List, ap}
use Rattle.std.specs.List.{list_any}
use Rattle.std.specs.Str.{bytes_eq}
use Rattle.reqtable_conflicts.specs.Agreeing.{Agree, AreDoubtful}
use Rattle.reqtable_packages.specs.Packages.{lines_at}
use Rattle.reqtable_conflicts.proofs.Agreed.{are_doubtful}
use Rattle.reqtable_packages.proofs.Passing.{Rise, texts, if_both}
use Rattle.reqtable_conflicts.proofs.doubtful.doubtful_packages.Goals as goal

pub returns : goal.returns
returns c =
    let names = texts c.deref.result.now in
    let lines = lines_at c.in_ok-groups.groups in
    if_both (λ some. Rise (texts some.items))
    (λ some. (q : List ℕ) → list_any (bytes_eq q) names ≡ true → list_any (bytes_eq q) (texts some.items) ≡ false →
    Agree c.args.limit (lines q))
    (λ some. AreDoubtful c.args.limit c.args.lines.now (texts some.items)) c.doubtful_among.result
    (λ some rise agree. are_doubtful c.args.limit c.args.lines.now (texts c.in_ok-names.names.items) names
    (texts some.items) lines c.in_ok-groups.ensures (ap texts c.deref.ensures.value) c.in_ok-names.ensures.are rise agree)
    c.doubtful_among.ensures.rising c.doubtful_among.ensures.others
