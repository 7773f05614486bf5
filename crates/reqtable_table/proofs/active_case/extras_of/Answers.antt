use Rattle.std.proofs.Common.{◌∙◌, ap}
use Rattle.std.proofs.lemmas.Result.{IfOk-weaker}
use Rattle.std.specs.List.{list_any}
use Rattle.std.specs.Str.{bytes_eq}
use Rattle.reqtable_table.proofs.MarkedAsks.{extras_asked}
use Rattle.reqtable_table.proofs.active_case.extras_of.Goals as goal

pub returns-clause-are : goal.returns-clause-are
returns-clause-are c =
    IfOk-weaker c.united_extras.result _ _
    (λ extras h extra. h extra
    ∙ ap (list_any (λ list. list_any (bytes_eq extra) list.now)) c.deref.ensures.value
    ∙ extras_asked extra c.args.marks.now c.args.lines.now c.in_ok-lists.lists.items c.in_ok-lists.ensures)
    c.united_extras.ensures.are
