use Rattle.std.proofs.Common.{[], ◌==◌, chars, sym, ap, subst, ◌∙◌}
use Rattle.pep508_url.specs.Vars.{Variables}
use Rattle.pep508_error.specs.Cuts.{begins_by}
use Rattle.pep508_requirement_text.specs.FrontReading.{extras_at}
use Rattle.pep508_requirement_text.specs.FrontOutcome.{Tells}
use Rattle.pep508_requirement.proofs.RefusedExtras.{extras_error}
use Rattle.pep508_requirement.proofs.extra_list.Extras.parse.Goals as goal

-- no variables: extras are read alike with any
none : Variables
none = record { pairs = []; project_root = [] }

pub returns-in-Ok-clause-read : goal.returns-in-Ok-clause-read
returns-in-Ok-clause-read g c = (
  _,
  ap (λ text. extras_at (chars text)) (sym c.new.ensures.rest) ∙ c.in-Ok.ensures.read none,
)

pub returns-in-Err-clause-read : goal.returns-in-Err-clause-read
returns-in-Err-clause-read g c =
    extras_error none c.args.text.now c.of.result c.in-Err.refusal c.of.ensures
    (λ other. c.in-Err.ensures.stays other ∙ c.new.ensures.input)
    (subst (λ text. Tells none c.in-Err.refusal.kind (extras_at (chars text))) c.new.ensures.rest
    (c.in-Err.ensures.read none))

pub returns-in-Err-clause-none : goal.returns-in-Err-clause-none
returns-in-Err-clause-none g c =
    λ h. c.in-Err.ensures.none (ap (λ text. begins_by (λ b. b == 91) (chars text)) c.new.ensures.rest ∙ h)
