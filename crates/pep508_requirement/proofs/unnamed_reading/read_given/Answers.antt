use Rattle.std.proofs.Common.{Err, option_copied, subst, ◌∙◌}
use Rattle.pep508_requirement.specs.UnnamedUrls.{ReadsUnnamed}
use Rattle.pep508_requirement.proofs.RefusingUnnamed.{given_error}
use Rattle.pep508_requirement.proofs.unnamed_reading.read_given.Goals as goal

pub returns : goal.returns
returns g c =
    given_error _ _ c.args.text.now c.in-Err.error c.of_url.result c.args.whole.start.input.now
    c.args.whole.start.position _ c.of_url.ensures.lacks c.of_url.ensures.tells
    (subst
    (λ text. ReadsUnnamed (λ path. g.U.UnnamedRequirementUrl.reads_path path (option_copied c.args.working_dir))
    g.U.UnnamedRequirementUrl.reads_url text (Err c.in-Err.error))
    (c.as_str.ensures.value ∙ c.in-Ok.ensures)
    (subst
    (λ outcome. ReadsUnnamed (λ path. g.U.UnnamedRequirementUrl.reads_path path (option_copied c.args.working_dir))
    g.U.UnnamedRequirementUrl.reads_url c.as_str.result.now outcome)
    c.in-Err.is c.in-Ok-read_unnamed_url.ensures))
