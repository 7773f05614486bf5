use Rattle.pep508_reading_back.proofs.Unquoted.{plain_is_readable}
use Rattle.pep508_reading_back.proofs.laws.a_read_marker_reads_back.Goals as goal

pub returns : goal.returns
returns g c = λ vars others directory other given text nodes answer utf8 h n plain.
    let written = c.a_read_requirement_is_written.ensures vars directory in
    let canonical = c.is_canonical.ensures.canonical in
    c.a_printed_view_reads_back.ensures others other nodes text answer
    (plain_is_readable _ written given c.args.shown.now utf8 h n plain canonical c.is_canonical.ensures.short)
