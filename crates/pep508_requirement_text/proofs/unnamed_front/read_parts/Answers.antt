use Rattle.std.proofs.Common.{Some, None, inr, sym}
use Rattle.pep508_requirement_text.proofs.UnnamedParts.{has_extras}
use Rattle.pep508_requirement_text.proofs.unnamed_front.read_parts.Goals as goal

pub returns-in-Ok-Some-clause-read : goal.returns-in-Ok-Some-clause-read
returns-in-Ok-Some-clause-read c =
    has_extras c.args.whole.text.now c.in-Some.url.text.now c.in-Some.extras.now c.inside.result.now
    (Some c.in-Ok-Some.names.items) c.in-Some.ensures.split c.inside.ensures
    (sym (rw c.in-Ok-Some.field-0-is at c.in-Ok-Some.ensures))

pub returns-in-Ok-None-clause-read : goal.returns-in-Ok-None-clause-read
returns-in-Ok-None-clause-read c = (
  c.refuse_extras.ensures.plain,
  inr (
    c.in-Some.url.text.now,
    has_extras c.args.whole.text.now c.in-Some.url.text.now c.in-Some.extras.now
        c.inside.result.now None c.in-Some.ensures.split c.inside.ensures
        (sym (rw c.in-Ok-None.field-0-is at c.in-Ok-None.ensures)),
  ),
)

pub returns-in-Ok-None-clause-none : goal.returns-in-Ok-None-clause-none
returns-in-Ok-None-clause-none c =
    λ none. absurd (none c.in-Some.url.text.now c.in-Some.extras.now c.in-Some.ensures.split)

pub returns-in-Err-clause-none : goal.returns-in-Err-clause-none
returns-in-Err-clause-none c =
    λ none. absurd (none c.in-Some.url.text.now c.in-Some.extras.now c.in-Some.ensures.split)
