use Rattle.std.proofs.Common.{refl, sym, ap, ◌∙◌}
use Rattle.pep508_error.specs.Cursors.{first_len}
use Rattle.pep508_requirement_text.proofs.ShownFront.{begins_at}
use Rattle.pep508_requirement_text.proofs.name.refuse_empty.Goals as goal

pub returns-clause-shown : goal.returns-clause-shown
returns-clause-shown c = record {
  kind_is = refl;
  input_is = c.refuse_char.ensures.input_is ∙ (c.new.ensures.input ∙ c.input.ensures);
  start_is = c.refuse_char.ensures.start_is ∙ begins_at c.new.result (c.new.ensures.rest ∙ sym c.new.ensures.input);
  len_is = c.refuse_char.ensures.len_is ∙ ap first_len (c.new.ensures.rest ∙ c.input.ensures);
}
