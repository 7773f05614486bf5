use Rattle.std.proofs.Common.{not, sym, ◌∙◌}
use Rattle.pep508_name.specs.Name.{is_name_byte}
use Rattle.pep508_error.specs.Cursors.{behind}
use Rattle.pep508_requirement_text.proofs.ShownFront.{no_text, no_name, no_first}
use Rattle.pep508_requirement_text.proofs.name.read_name.Goals as goal

pub returns-then-is_name-clause-empty : goal.returns-then-is_name-clause-empty
returns-then-is_name-clause-empty c =
    λ none.
    absurd
    (no_name c.cut.result.0.now
    (no_text (λ b. not (is_name_byte b)) (behind c.args.start) c.cut.result.0.now (behind c.cut.result.1)
    c.cut.ensures.parts none)
    (sym c.is_name.ensures ∙ c.if-is_name.true))

pub returns-then-begins_alphanumeric-clause-empty : goal.returns-then-begins_alphanumeric-clause-empty
returns-then-begins_alphanumeric-clause-empty c =
    λ none.
    absurd
    (no_first c.cut.result.0.now
    (no_text (λ b. not (is_name_byte b)) (behind c.args.start) c.cut.result.0.now (behind c.cut.result.1)
    c.cut.ensures.parts none)
    (sym c.begins_alphanumeric.ensures ∙ c.if-begins_alphanumeric.true))
