use Rattle.reqs_c_markers.specs.Parts.{AreParts, RefusesRequirement}
use Rattle.reqs_c_markers.proofs.Places.{answered_by, parts_of}
use Rattle.reqs_c_markers.proofs.Refusals.{read_alone, no_requirement}
use Rattle.reqs_c_markers.proofs.requirement_answer.requirement_parts.Goals as goal

pub returns-in-Ok-parse : goal.returns-in-Ok-parse
returns-in-Ok-parse c =
    let bytes = c.args.bytes.now in
    let text = c.in-Ok.ensures in
    let r = c.in-Ok-parse.requirement in
    let read =
    read_alone c.in-Ok-no_variables.vars bytes _ r c.in-Ok-no_variables.ensures text.text
    c.in-Ok-parse.ensures in
    answered_by (AreParts bytes) (RefusesRequirement bytes) c.parts_text.result _ c.answered.ensures
    (parts_of bytes _ r text.is_text text.text read c.parts_text.result c.parts_text.ensures)

pub returns : goal.returns
returns c =
    let text = c.in-Ok.ensures in
    no_requirement c.args.bytes.now _ c.in-Err-parse.error text.is_text text.text _ c.refused.ensures
    c.in-Ok-no_variables.vars c.in-Ok-no_variables.ensures c.in-Err-parse.ensures
