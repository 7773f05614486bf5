use Rattle.std.proofs.Common.{Some, sym, ◌∙◌, ap}
use Rattle.pep508_url.proofs.PathParts.{decoded_text, decoded_none}
use Rattle.pep508_url.proofs.path.utf8_decoded.Goals as goal

pub returns-in-Ok : goal.returns-in-Ok
returns-in-Ok c =
    ap Some c.in-Ok.ensures.value
    ∙ sym (decoded_text c.args.text.now _ c.percent_decode_str.ensures.bytes c.in-Ok.ensures.ok_only_if_utf8)

pub returns-in-Err-Utf8 : goal.returns-in-Err-Utf8
returns-in-Err-Utf8 c =
    sym (decoded_none c.args.text.now _ c.percent_decode_str.ensures.bytes (λ u. absurd (cc (c.in-Err-Utf8.ensures.utf8 u))))
