use Rattle.std.proofs.Common.{sym, subst, ap, ◌∙◌, false, refl}
use Rattle.pep508_requirement_text.specs.UrlEnds.{url_split}
use Rattle.std.specs.Str.{skip_leading_whitespace}
use Rattle.pep508_requirement_text.specs.FrontReading.{if_url}
use Rattle.pep508_requirement_text.specs.FrontReading.Source.{Url}
use Rattle.pep508_requirement_text.specs.FrontOutcome.{IsPlain}
use Rattle.pep508_error.specs.Cursors.{behind}
use Rattle.pep508_requirement_text.proofs.Outcomes.{plain_tells}
use Rattle.pep508_requirement_text.proofs.FrontParts.{url_missing, url_read}
use Rattle.pep508_requirement_text.proofs.front.read_url.Goals as goal

pub returns-then-is_empty-clause-read : goal.returns-then-is_empty-clause-read
returns-then-is_empty-clause-read c =
    λ vars.
    plain_tells vars c.refuse_none.result.kind
    (if_url (url_split false 0 (skip_leading_whitespace (behind c.args.start))))
    (subst IsPlain (sym c.refuse_none.ensures.kind) c.plain.ensures)
    (url_missing c.cut_url.result.0.text.now (behind c.cut_url.result.1)
    (url_split false 0 (skip_leading_whitespace (behind c.args.start)))
    (c.cut_url.ensures.parts ∙ ap (url_split false 0) c.after_whitespace-place.ensures.rest)
    (sym c.is_empty.ensures ∙ c.if-is_empty.true))

pub returns-clause-read : goal.returns-clause-read
returns-clause-read c =
    λ vars. (
      Url c.cut_url.result.0.text.now,
      url_read c.cut_url.result.0.text.now (behind c.cut_url.result.1)
          (url_split false 0 (skip_leading_whitespace (behind c.args.start))) c.cut_url.ensures.utf8
          (c.cut_url.ensures.parts ∙ ap (url_split false 0) c.after_whitespace-place.ensures.rest)
          (sym c.is_empty.ensures ∙ c.if-is_empty.false),
      refl,
    )
