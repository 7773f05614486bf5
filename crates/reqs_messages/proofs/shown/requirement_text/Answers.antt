use Rattle.std.proofs.Common.{◌≡◌, ◌∙◌, IfSome, string_bytes, subst, ap}
use Rattle.pep508_url.specs.UrlFaults.{url_error_text}
use Rattle.pep508_error.specs.Errors.{source_text}
use Rattle.reqs_messages.specs.Shown.{shown_text}
use Rattle.reqs_messages.proofs.Refused.{made}
use Rattle.reqs_messages.proofs.shown.requirement_text.Goals as goal

pub returns : goal.returns
returns c =
    made c.message_lines.result c.args.path.now c.args.number c.args.error.now (string_bytes c.in_ok-said.said)
    c.as_str-3.result.now c.as_str-4.result.now c.as_str-2.result.now c.in_ok-blanks_under.field-0
    c.in_ok-marks_under.field-0
    (subst (λ source. IfSome (source_text url_error_text source) (λ wanted. string_bytes c.in_ok-said.said ≡ wanted))
    c.message.ensures c.in_ok-said.ensures.ok)
    c.message_lines.ensures (c.as_str-3.ensures.value ∙ c.in_ok-path.ensures)
    (c.as_str-4.ensures.value ∙ c.in_ok-message.ensures ∙ ap shown_text c.as_str.ensures.value)
    (c.as_str-2.ensures.value ∙ c.in_ok-line.ensures ∙ ap shown_text c.input.ensures) c.in_ok-blanks_under.ensures
    c.in_ok-marks_under.ensures
