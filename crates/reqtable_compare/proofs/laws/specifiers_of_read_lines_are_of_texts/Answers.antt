use Rattle.reqtable_compare.proofs.OfTexts.{text_said}
use Rattle.reqtable_compare.proofs.laws.specifiers_of_read_lines_are_of_texts.Goals as goal

pub returns : goal.returns
returns c = text_said c.specifier_text_is_read.ensures c.a_read_specifier_is_built.ensures.built
    c.a_read_specifier_is_built.ensures.ends c.requirements_are_their_lines.ensures
