use Rattle.std.proofs.Common.{rules}
use Rattle.pep508_url.proofs.CutTexts.{cut_is}
use Rattle.reqs_command.proofs.variables.pair_of.Goals as goal

pub returns : goal.returns
returns c = cut_is 61 c.args.entry.now c.split_once.result (c.split_once.ensures.byte (search rules) (λ w o h. h))
