use Rattle.std.proofs.Common.{rules}
use Rattle.std.proofs.lemmas.Cmp.{nat_list_cmp_total}
use Rattle.std.proofs.lemmas.List.Sorted.{answers_always, ranks_by}
use Rattle.std.proofs.lemmas.Result.{IfOk-weaker}
use Rattle.reqtable_groups.proofs.ByName.{is_before, all_grouped}
use Rattle.reqtable_groups.proofs.GroupedLines.{name_of}
use Rattle.reqtable_groups.proofs.lines_by_package.grouped.Goals as goal

pub returns : goal.returns
returns c =
    let order = ranks_by nat_list_cmp_total name_of in
    let sorted = c.sort_by.new.self.items in
    IfOk-weaker c.cut.result _ _
    (λ groups so. all_grouped c.args.lines.items _ sorted groups.items c.in_ok-named.ensures c.sort_by.ensures.permutation
    (c.in_ok-sort_by.ensures.sorted is_before order (answers_always _ _ _ (λ f a r g h. search rules)))
    (c.sort_by.ensures.stable is_before order (answers_always _ _ _ (λ f a r g h. search rules))) so)
    c.cut.ensures
