use Rattle.pep508_requirement.proofs.Requirements.{not_refused}
use Rattle.pep508_requirement.proofs.laws.a_written_requirement_is_not_refused.Goals as goal

pub returns : goal.returns
returns g c = λ vars directory.
    not_refused (λ url. g.T.Pep508Url.reads vars url directory) c.a_written_front_is_read.ensures
    c.a_written_marker_is_read.ensures g.T.Pep508Url.lacks_memory vars
