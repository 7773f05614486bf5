use Rattle.pep508_reading_back.proofs.PrintedLines.{view_line}
use Rattle.pep508_reading_back.proofs.ReadViews.{read_is_readable}
use Rattle.pep508_reading_back.proofs.Unquoted.{shown_pieces}
use Rattle.pep508_reading_back.proofs.laws.a_read_line_prints_a_line.Goals as goal

pub returns : goal.returns
returns g c = λ vars directory line text good h n e.
    let written = c.a_read_requirement_is_written.ensures vars directory in
    let canonical = c.is_canonical.ensures.canonical in
    view_line line _ c.args.shown.now good (read_is_readable _ written line c.args.shown.now h n)
    (shown_pieces _ written line c.args.shown.now good.encoded h canonical c.is_canonical.ensures.short) text e
