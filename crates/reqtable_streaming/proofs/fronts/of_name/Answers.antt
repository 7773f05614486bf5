use Rattle.std.proofs.Common.{◌∙◌, Some, ap, sym}
use Rattle.pep508_name.specs.Name.{name_of}
use Rattle.reqtable_streaming.proofs.fronts.of_name.Goals as goal

pub with_front-requires : goal.with_front-requires
with_front-requires c =
    let text = c.as_bytes.ensures.value ∙ c.as_str.ensures.text in
    ap name_of text ∙ c.as_str.ensures.normal ∙ ap (λ n. Some n) (sym text)
