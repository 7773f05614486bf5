use Rattle.pep508_url.proofs.CutTexts.{behind_is}
use Rattle.pep508_url.proofs.cuts.behind.Goals as goal

pub returns : goal.returns
returns c = behind_is c.args.word.now c.args.text.now c.strip_prefix.result c.strip_prefix.ensures.cases
