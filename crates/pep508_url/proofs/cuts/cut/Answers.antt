use Rattle.pep508_url.proofs.CutTexts.{cut_is}
use Rattle.pep508_url.proofs.cuts.cut.Goals as goal

pub returns : goal.returns
returns c = cut_is c.args.at c.args.text.now c.split_once.result (c.split_once.ensures.byte c.requires (λ w o h. h))
