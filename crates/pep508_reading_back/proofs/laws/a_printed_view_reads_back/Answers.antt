use Rattle.pep508_reading_back.proofs.Views.{view_reads_back}
use Rattle.pep508_reading_back.proofs.laws.a_printed_view_reads_back.Goals as goal

pub returns : goal.returns
returns g c = λ vars directory nodes text answer good e h.
    view_reads_back _ _ vars nodes c.a_written_requirement_is_read.ensures
    (c.a_written_requirement_is_not_refused.ensures vars directory) _ c.args.shown.now c.is_canonical.ensures.canonical good text
    e answer h
