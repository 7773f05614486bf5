use Rattle.pep508_requirement_text.proofs.UrlLoops.{ends_with_text}
use Rattle.pep508_requirement_text.proofs.url_end.read_on.Goals as goal

pub returns-in-None : goal.returns-in-None
returns-in-None c = ends_with_text c.args.brackets c.args.depth c.args.text.now c.utf8.text c.in-None.ensures
