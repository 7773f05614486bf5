use Rattle.std.proofs.Common.{length, option_and_then, sym, ◌∙◌, ap}
use Rattle.pep508_name.specs.Origin.{two_texts}
use Rattle.pep508_name.proofs.Forms.{two_of_others}
use Rattle.pep508_name.proofs.origin.two_texts.Goals as goal

pub returns-then-items-ne2 : goal.returns-then-items-ne2
returns-then-items-ne2 c =
    let others = two_of_others c.in_ok-as_array.field-0.now.items
    (λ e. c.if-items-ne2.true (ap length c.as_slice-items.ensures.value ∙ e)) in
    sym others ∙ ap (option_and_then two_texts) c.in_ok-as_array.ensures
