use Rattle.reqtable_requirements.proofs.Specifiers.{text_read, specifiers_built}
use Rattle.reqtable_requirements.proofs.laws.specifiers_are_read_from_texts.Goals as goal

pub returns : goal.returns
returns c = record {
  read = text_read c.specifier_text_is_read.ensures c.requirements_are_their_lines.ensures;
  built = λ vars nodes bytes lines h.
      specifiers_built c.a_read_specifier_is_built.ensures.built lines
      (text_read c.specifier_text_is_read.ensures c.requirements_are_their_lines.ensures vars nodes bytes lines h);
}
