use Rattle.std.proofs.Common.{Ok, List, sym, subst}
use Rattle.std.specs.List.{AllZip}
use Rattle.reqtable_requirements.specs.declared.marked.MarkedLine.{MarkedLine}
use Rattle.reqtable_requirements.specs.Requirements.{SaysLine, ReadsRequirements}
use Rattle.reqtable_requirements.proofs.WithinBound.{fault_first, trees_stop, passed_on}
use Rattle.reqtable_requirements.proofs.requirements.Requirements.parse_within.Goals as goal

pub returns-in_err-marked-clause-answered : goal.returns-in_err-marked-clause-answered
returns-in_err-marked-clause-answered c =
    let vars = c.args.vars.now in
    let nodes = c.args.interner.now.nodes in
    passed_on vars c.args.most nodes c.args.bytes.now c.from_residual.result c.in_err-marked.field-0.0 c.from_residual.ensures.1
    (fault_first vars c.args.most nodes c.args.bytes.now c.in_err-marked.field-0.0 c.requires c.in_err-marked.ensures)

pub returns-in_err-lines-clause-answered : goal.returns-in_err-lines-clause-answered
returns-in_err-lines-clause-answered c =
    let vars = c.args.vars.now in
    let nodes = c.with_trees.new.interner.nodes in
    let left_by = c.from_residual-in_err-lines in
    let error = c.in_err-lines.field-0.0 in
    let read = c.in_ok-marked.ensures in
    let P : List MarkedLine → Type 0 = λ lines. AllZip (SaysLine vars) lines read.0 in
    passed_on vars c.args.most nodes c.args.bytes.now left_by.result error left_by.ensures.1
    (trees_stop vars c.args.most nodes c.args.bytes.now read.0 error read.1
    (c.in_err-lines.ensures.bound vars read.0 (subst P (sym c.into_lines.ensures) read.2)))

pub returns-clause-answered : goal.returns-clause-answered
returns-clause-answered c =
    let vars = c.args.vars.now in
    let read = c.in_ok-marked.ensures in
    let P : List MarkedLine → Type 0 = λ lines. AllZip (SaysLine vars) lines read.0 in
    let says = subst P (sym c.into_lines.ensures) read.2 in (
      (read.0, read.1, c.in_ok-lines.ensures.made vars read.0 says),
      c.in_ok-lines.ensures.bound vars read.0 says,
    )

pub invariant_of-result : goal.invariant_of-result
invariant_of-result c =
    let vars = c.args.vars.now in
    let bytes = c.args.bytes.now in
    let nodes = c.with_trees.new.interner.nodes in
    let lines = c.in_ok-lines.lines.items in
    let read = c.in_ok-marked.ensures in
    let P : List MarkedLine → Type 0 = λ lines. AllZip (SaysLine vars) lines read.0 in
    let whole : ReadsRequirements vars nodes bytes (Ok lines) =
    (read.0, read.1, c.in_ok-lines.ensures.made vars read.0 (subst P (sym c.into_lines.ensures) read.2)) in
    record {
      rising = c.line_numbers_rise.ensures vars nodes bytes lines whole;
      read = c.specifiers_are_read_from_texts.ensures.read vars nodes bytes lines whole;
    }
