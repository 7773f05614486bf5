use Rattle.std.proofs.Common.{◌∙◌, ap, map}
use Rattle.reqtable_range.specs.Together.{all_take}
use Rattle.reqtable_answer.proofs.OneRange.{range_tells}
use Rattle.reqtable_answer.proofs.ranged.range_of.Goals as goal

pub returns : goal.returns
returns c =
    range_tells c.args.asks.now (map (λ list. list.now) c.deref-2.result.now)
    (λ v. ap (λ lists. all_take (map (λ list. list.now) lists) v) c.deref-2.ensures.value ∙ c.in_ok-lists.ensures v)
    c.in_ok-one_range.ensures
