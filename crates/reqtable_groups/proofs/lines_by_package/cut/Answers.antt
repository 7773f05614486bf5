use Rattle.std.proofs.Common.{◌≡◌, ◌∙◌, ◌++◌, ◌∷◌, [], sym, ap, append_assoc, rules}
use Rattle.std.specs.Vec.Iter.{into_iter_items}
use Rattle.reqtable_groups.proofs.GroupedLines.{one_so_far}
use Rattle.reqtable_groups.proofs.lines_by_package.cut.Goals as goal

pub loop-line-preserved : goal.loop-line-preserved
loop-line-preserved c =
    let done = c.loop-line.yielded in
    let line = c.in-Some.line in
    let taken : into_iter_items c.loop-line.line-iterator ≡ line ∷ into_iter_items c.next.new.self = search rules in
    record {
      split =
          append_assoc done (line ∷ []) (into_iter_items c.next.new.self)
          ∙ ap (λ rest. done ++ rest) (sym taken) ∙ c.loop-line.invariant.split;
      so = one_so_far done line c.loop-line.groups.items c.add.new.groups.items c.loop-line.invariant.so (search rules);
    }
