use Rattle.std.proofs.Common.{List, Global, string_bytes, subst, sym}
use Rattle.std.proofs.lemmas.List.{take_all}
use Rattle.std.specs.List.{AllZip}
use Rattle.reqtable_requirements.specs.declared.requirements.Line.{Line}
use Rattle.reqtable_requirements.specs.Requirements.{StandsFor}
use Rattle.reqtable_normal.proofs.Standing.{AreWritten, one_more, whole_text, refused, passed_on}
use Rattle.reqtable_normal.proofs.lines.normal_text.Goals as goal

pub loop-line-init : goal.loop-line-init
loop-line-init c = record { printable = tt; is_text = c.new-text.ensures.bytes }

pub returns-in_err-push_line : goal.returns-in_err-push_line
returns-in_err-push_line c = λ vars said stand.
    let nodes = c.args.interner.now.nodes in
    let P : List Line → Type 0 = λ lines. AllZip (StandsFor vars nodes) lines said in
    passed_on c.args.most_clauses said c.from_residual.result c.in_err-push_line.field-0.0 c.from_residual.ensures.1
    (refused nodes vars c.are_sound.ensures (Unit {0}) Global c.args.most_clauses c.lines-line-items.result.now
    c.loop-line.line-index c.line-item.result
    c.loop-line-test.true c.line-item.is (string_bytes c.loop-line.text) (string_bytes c.push_line.new.text)
    c.loop-line.invariant c.in_err-push_line.field-0.0 c.in_err-push_line.ensures said
    (subst P (sym c.lines-line-items.ensures) stand))

pub loop-line-preserved : goal.loop-line-preserved
loop-line-preserved c =
    one_more c.args.interner.now.nodes c.lines-line-items.result.now c.loop-line.line-index c.line-item.result
    c.loop-line-test.true c.line-item.is c.args.most_clauses (string_bytes c.loop-line.text) (string_bytes c.push_line.new.text)
    c.loop-line.invariant c.in_ok-push_line.ensures.0 c.in_ok-push_line.ensures.1

pub returns : goal.returns
returns c = λ vars said stand.
    let nodes = c.args.interner.now.nodes in
    let items = c.lines-line-items.result.now in
    let P : List Line → Type 0 = λ lines. AreWritten nodes c.args.most_clauses lines (string_bytes c.loop-line.text) in
    let Q : List Line → Type 0 = λ lines. AllZip (StandsFor vars nodes) lines said in
    whole_text nodes vars c.are_sound.ensures c.args.most_clauses items said (string_bytes c.loop-line.text)
    (subst P (take_all c.loop-line.line-index items c.loop-line-test.false) c.loop-line.invariant)
    (subst Q (sym c.lines-line-items.ensures) stand)
