use Rattle.std.proofs.Common.{sym, subst}
use Rattle.pep508_error.specs.Cursors.{IsAt}
use Rattle.pep508_requirement_text.proofs.ListPlaces.{error_told}
use Rattle.std.proofs.Common.{◌∙◌}
use Rattle.pep508_requirement_text.proofs.FrontParts.{nothing}
use Rattle.pep508_requirement_text.proofs.Shown.{shows_nothing, shows_fault}
use Rattle.pep508_requirement_text.proofs.list.read_specifiers.Goals as goal

pub refuse_piece-requires : goal.refuse_piece-requires
refuse_piece-requires c =
    let told =
    error_told c.in-Err-Specifier.field-0 c.in-Err-Specifier.piece c.args.text.now (cc)
    c.in-Err-Specifier.ensures.answered c.in-Err-Specifier.ensures.plain in
    subst (IsAt c.args.start) (sym told.2) c.requires

pub returns-then-is_empty-clause-shown : goal.returns-then-is_empty-clause-shown
returns-then-is_empty-clause-shown c =
    λ told.
    shows_nothing c.args.start.input.now c.args.text.now c.args.start.position c.refuse_empty.result
    (nothing c.args.text.now (sym c.is_empty.ensures ∙ c.if-is_empty.true)) c.refuse_empty.ensures.shown

pub returns-in-Err-Specifier-clause-shown : goal.returns-in-Err-Specifier-clause-shown
returns-in-Err-Specifier-clause-shown c =
    λ told.
    let said =
    error_told c.in-Err-Specifier.field-0 c.in-Err-Specifier.piece c.args.text.now (cc)
    c.in-Err-Specifier.ensures.answered c.in-Err-Specifier.ensures.plain in
    shows_fault c.args.start.input.now c.args.text.now c.args.start.position c.refuse_piece.result said.0
    c.in-Err-Specifier.piece.start c.in-Err-Specifier.piece.end said.1 said.3 said.4 c.refuse_piece.ensures.shown
