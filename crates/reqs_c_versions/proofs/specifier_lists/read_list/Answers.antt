use Rattle.std.proofs.Common.{inr}
use Rattle.pep440_specifier.specs.SpecifierErrorPrints.{specifier_error_text}
use Rattle.reqs_c_reply.specs.Endings.{NoAnswer}
use Rattle.reqs_c_reply.proofs.Ends.{refused_with}
use Rattle.reqs_c_versions.specs.Specifiers.{RefusesList}
use Rattle.reqs_c_versions.proofs.ListTexts.{no_list}
use Rattle.reqs_c_versions.proofs.specifier_lists.read_list.Goals as goal

pub returns-in-Err-Specifier-clause-none : goal.returns-in-Err-Specifier-clause-none
returns-in-Err-Specifier-clause-none c =
    let input = c.args.input in
    let bytes = c.args.bytes.now in
    let piece = c.in-Err-Specifier.piece in
    let read = c.in_ok-text.ensures in
    let tells = (rw c.in-Err-Specifier.field-0-is at c.in-Err-Specifier.ensures).answered in
    refused_with NoAnswer (RefusesList input bytes) c.span-place.result c.to_string.result _ (specifier_error_text piece.error)
    c.refused.ensures (rw c.error.ensures.error at c.to_string.ensures.ok)
    (inr (no_list input bytes _ _ piece.start piece.end piece.error read.is_text read.text c.span-place.result _ _
    c.span-place.ensures c.start-start.ensures.start c.end.ensures.end c.error.ensures.plain tells))
