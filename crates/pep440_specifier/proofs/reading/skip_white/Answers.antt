use Rattle.pep440_specifier.proofs.Fronts.{skipped}
use Rattle.pep440_specifier.proofs.reading.skip_white.Goals as goal

pub returns : goal.returns
returns c = skipped c.args.text.now c.trim_start.result.now c.trim_start.utf8 c.trim_start.ensures.trim
