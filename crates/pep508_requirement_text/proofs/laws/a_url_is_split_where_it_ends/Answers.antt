use Rattle.pep508_requirement_text.proofs.UrlLaws.{url_law}
use Rattle.pep508_requirement_text.proofs.laws.a_url_is_split_where_it_ends.Goals as goal

pub returns : goal.returns
returns c = url_law
