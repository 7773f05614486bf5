use Rattle.std.proofs.Common.{chars, refl, sym, ◌∙◌}
use Rattle.std.specs.Str.{skip_leading_whitespace}
use Rattle.pep508_error.specs.Cursors.{rest_of}
use Rattle.pep508_requirement.proofs.Markers.{says_none}
use Rattle.pep508_requirement.proofs.reading_requirement.read_behind.Goals as goal

pub returns-in_default-clause-read : goal.returns-in_default-clause-read
returns-in_default-clause-read g c =
    says_none g.R.Reporter.takes c.args.reporter.now c.args.reporter.now
    (skip_leading_whitespace (chars (rest_of c.args.rest))) c.new.result c.new.ensures refl
    (sym c.after_whitespace-left.ensures.rest ∙ c.in_default.ensures.cases)
