use Rattle.std.specs.Char.{is_whitespace}
use Rattle.pep508_error.specs.Cursors.{behind}
use Rattle.pep508_requirement_text.proofs.Looks.{nothing_looks}
use Rattle.pep508_requirement_text.proofs.ShownFront.{no_text}
use Rattle.pep508_requirement_text.proofs.name.refuse_nameless.Goals as goal

pub returns-then-looks-clause-empty : goal.returns-then-looks-clause-empty
returns-then-looks-clause-empty c =
    λ none.
    absurd
    (nothing_looks c.args.vars.now c.cut.result.0.now
    (no_text is_whitespace (behind c.args.start) c.cut.result.0.now (behind c.cut.result.1) c.cut.ensures.parts none)
    (c.in-Ok.ensures.0 c.if-looks.true))
