use Rattle.std.proofs.Common.{inr, true, List, ℕ, sym, subst, ap, ◌∙◌}
use Rattle.std.proofs.lemmas.Result.{err_from_is_err_and}
use Rattle.pep508_error.specs.Cursors.{rest_of, behind}
use Rattle.pep508_url.specs.Splits.{IsExtrasSplit}
use Rattle.pep508_requirement_text.specs.UrlEnds.{url_split}
use Rattle.pep508_requirement_text.specs.FrontOutcome.{IsPlain}
use Rattle.pep508_requirement_text.proofs.UnnamedParts.{nothing_read, nothing_there, whole_is, front_read}
use Rattle.pep508_requirement_text.proofs.UnnamedParts.{extras_stop}
use Rattle.pep508_requirement_text.proofs.unnamed_front.read_unnamed.Goals as goal

pub returns-then-is_empty-clause-read : goal.returns-then-is_empty-clause-read
returns-then-is_empty-clause-read c = (
  subst IsPlain (sym c.refuse_none.ensures.kind) c.plain.ensures,
  inr (nothing_read (rest_of c.args.start) c.cut_url.result.0.text.now (behind c.cut_url.result.1)
      (c.cut_url.ensures.parts ∙ ap (url_split true 0) c.after_whitespace-place.ensures.rest)
      (sym c.is_empty.ensures ∙ c.if-is_empty.true)),
)

pub returns-in_err-url-clause-read : goal.returns-in_err-url-clause-read
returns-in_err-url-clause-read c =
    let returned = err_from_is_err_and c.from_residual.result c.from_residual.ensures.1 in
    rw (returned.1, returned.2)
    (extras_stop (rest_of c.args.start) c.cut_url.result.0.text.now (behind c.cut_url.result.1)
    (c.cut_url.ensures.parts ∙ ap (url_split true 0) c.after_whitespace-place.ensures.rest)
    c.cut_url.ensures.utf8 c.in_err-url.field-0.0.kind c.in_err-url.ensures.read)

pub returns-clause-read : goal.returns-clause-read
returns-clause-read c =
    front_read (rest_of c.args.start) c.cut_url.result.0.text.now (behind c.cut_url.result.1)
    (c.cut_url.ensures.parts ∙ ap (url_split true 0) c.after_whitespace-place.ensures.rest)
    c.cut_url.ensures.utf8 c.in_ok-url.url.text.now c.in_ok-url.extras.items
    (sym c.is_empty.ensures ∙ c.if-is_empty.false) c.in_ok-url.ensures.read

pub returns-clause-whole : goal.returns-clause-whole
returns-clause-whole c =
    whole_is (rest_of c.args.start) c.cut_url.result.0.text.now (behind c.cut_url.result.1)
    (c.cut_url.ensures.parts ∙ ap (url_split true 0) c.after_whitespace-place.ensures.rest)
    c.cut_url.ensures.utf8

pub returns-then-is_empty-clause-none : goal.returns-then-is_empty-clause-none
returns-then-is_empty-clause-none c =
    λ some none.
    absurd (nothing_there (rest_of c.args.start) c.cut_url.result.0.text.now (behind c.cut_url.result.1)
    (c.cut_url.ensures.parts ∙ ap (url_split true 0) c.after_whitespace-place.ensures.rest)
    (sym c.is_empty.ensures ∙ c.if-is_empty.true) some)

pub returns-in_err-url-clause-none : goal.returns-in_err-url-clause-none
returns-in_err-url-clause-none c =
    λ some none.
    let whole = whole_is (rest_of c.args.start) c.cut_url.result.0.text.now (behind c.cut_url.result.1)
    (c.cut_url.ensures.parts ∙ ap (url_split true 0) c.after_whitespace-place.ensures.rest)
    c.cut_url.ensures.utf8 in
    let read = c.in_err-url.ensures.none
    (λ url extras split. none url extras (subst (λ (text : List ℕ). IsExtrasSplit text url extras) whole split)) in
    absurd (cc)
