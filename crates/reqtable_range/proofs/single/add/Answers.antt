use Rattle.std.proofs.Common.{◌∙◌, [], ◌∷◌, ◌++◌, ap, sym, subst}
use Rattle.std.proofs.lemmas.Result.{on_ok_weaker}
use Rattle.reqtable_range.specs.Sorting.{StandFor}
use Rattle.reqtable_range.specs.Together.{lent}
use Rattle.reqtable_range.proofs.Fewer.{first_more, second_more, end_more, lent_more}
use Rattle.reqtable_range.proofs.single.add.Goals as goal

pub returns-then-is_end : goal.returns-then-is_end
returns-then-is_end c =
    let old = c.args.parted.now in
    on_ok_weaker c.add_end.result
    (λ added before h.
    second_more before (lent old.others.items) (lent old.ends.items) (lent old.exact.items)
    (lent c.add_end.new.ends.items) c.args.member.now added h)
    c.add_end.ensures

pub returns-then-is_exact : goal.returns-then-is_exact
returns-then-is_exact c =
    let old = c.args.parted.now in
    on_ok_weaker c.add_exact.result
    (λ added before h.
    end_more before (lent old.others.items ++ lent old.ends.items) (lent old.exact.items)
    (lent c.add_exact.new.exact.items) c.args.member.now added h)
    c.add_exact.ensures

pub returns : goal.returns
returns c = λ before h.
    let old = c.args.parted.now in
    let member = c.args.member in
    subst (λ others. StandFor (before ++ member.now ∷ []) ((others ++ lent old.ends.items) ++ lent old.exact.items))
    (sym (ap lent c.in_ok-push.ensures.items ∙ lent_more old.others.items member))
    (first_more before (lent old.others.items) (lent old.ends.items) (lent old.exact.items) member.now h)
