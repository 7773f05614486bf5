use Rattle.std.proofs.Common.{sym}
use Rattle.reqtable_table.specs.Choosing.{case_asks, tests_at}
use Rattle.reqtable_table.proofs.AskedLines.{records, none_more}
use Rattle.reqtable_table.proofs.choosing_by_case.takes.Goals as goal

pub returns-then-is_told-clause-more : goal.returns-then-is_told-clause-more
returns-then-is_told-clause-more c =
    let lines = records c.args.lines.now in
    none_more (tests_at (case_asks c.args.marks.now lines) c.args.version.now) lines

pub returns-in_err-rejected-clause-more : goal.returns-in_err-rejected-clause-more
returns-in_err-rejected-clause-more c =
    let lines = records c.args.lines.now in
    none_more (tests_at (case_asks c.args.marks.now lines) c.args.version.now) lines

pub returns-then-rejected-clause-more : goal.returns-then-rejected-clause-more
returns-then-rejected-clause-more c =
    let lines = records c.args.lines.now in
    none_more (tests_at (case_asks c.args.marks.now lines) c.args.version.now) lines

pub returns-then-rejected-clause-answer : goal.returns-then-rejected-clause-answer
returns-then-rejected-clause-answer c = sym (c.in_ok-rejected.ensures.rejected c.if-rejected.true)
