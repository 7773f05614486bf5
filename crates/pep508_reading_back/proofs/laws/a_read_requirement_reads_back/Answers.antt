use Rattle.pep508_reading_back.proofs.ReadViews.{read_is_readable, read_keeps_front}
use Rattle.pep508_reading_back.proofs.Unquoted.{unquoted_is_of_marker}
use Rattle.pep508_reading_back.proofs.laws.a_read_requirement_reads_back.Goals as goal

pub returns : goal.returns
returns g c = λ vars others directory other given text nodes answer utf8 h n unquoted e.
    let written = c.a_read_requirement_is_written.ensures vars directory in
    let taken = c.a_written_requirement_is_not_refused.ensures others other in
    let canonical = c.is_canonical.ensures.canonical in
    read_keeps_front _ _ others nodes c.a_written_requirement_is_read.ensures taken _ c.args.shown.now
    (read_is_readable _ written given c.args.shown.now h n)
    (unquoted_is_of_marker _ written given c.args.shown.now utf8 h unquoted canonical
    c.is_canonical.ensures.short)
    text e answer
