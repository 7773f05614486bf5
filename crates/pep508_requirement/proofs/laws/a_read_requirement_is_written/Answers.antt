use Rattle.pep508_requirement.proofs.Requirements.{read_written}
use Rattle.pep508_requirement.proofs.laws.a_read_requirement_is_written.Goals as goal

pub returns : goal.returns
returns g c = λ vars directory.
    read_written (λ url. g.T.Pep508Url.reads vars url directory) c.a_read_front_is_written.ensures
    c.a_read_marker_is_written.ensures
