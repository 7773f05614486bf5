use Rattle.std.proofs.Common.{List, sym, subst}
use Rattle.std.specs.List.{AllZip}
use Rattle.pep508_formula.specs.Postfix.{formula_of}
use Rattle.reqtable_requirements.proofs.Lasting.{lines_kept, nodes_kept}
use Rattle.reqtable_requirements.specs.Asks.{AreOfNodes}
use Rattle.reqtable_requirements.specs.Requirements.{StandsFor}
use Rattle.reqtable_requirements.specs.declared.requirements.Line.{Line}
use Rattle.reqtable_assumption.specs.Where.{lines_where}
use Rattle.reqtable_assumption.proofs.Standing.{lines_stand, are_trees, still_read}
use Rattle.reqtable_assumption.proofs.assuming.assume.Goals as goal

pub restricted_lines-requires-clause-lines : goal.restricted_lines-requires-clause-lines
restricted_lines-requires-clause-lines c =
    let now = c.tree_of.new.interner.nodes in
    subst (AreOfNodes now) (sym c.into_lines.ensures.lines)
    (nodes_kept c.args.interner.now.nodes now c.args.requirements c.in_ok-tree.ensures.keeps c.requires)

pub from_lines-requires : goal.from_lines-requires
from_lines-requires c =
    still_read c.tree_of.new.interner.nodes c.restricted_lines.new.interner.nodes c.in_ok-tree.tree
    c.in_ok-lines.lines.items c.into_lines.result.items c.in_ok-lines.ensures.each c.into_lines.ensures.read

pub returns-clause-restricted : goal.returns-clause-restricted
returns-clause-restricted c = λ vars said stands.
    let old = c.args.interner.now.nodes in
    let now = c.tree_of.new.interner.nodes in
    let new = c.restricted_lines.new.interner.nodes in
    let formula = formula_of c.args.condition.now in
    let P : List Line → Type 0 = λ lines. AllZip (StandsFor vars now) lines said in
    let Q : List Line → Type 0 = λ lines. AllZip (StandsFor vars new) lines (lines_where formula said) in
    let kept = lines_kept vars old now c.in_ok-tree.ensures.keeps c.args.requirements said stands in
    subst Q (sym c.from_lines.ensures)
    (lines_stand vars now new c.in_ok-tree.tree formula c.in_ok-tree.ensures.made c.in_ok-lines.lines.items
    c.into_lines.result.items said c.in_ok-lines.ensures.each (subst P (sym c.into_lines.ensures.lines) kept))

pub returns-clause-trees : goal.returns-clause-trees
returns-clause-trees c =
    let new = c.restricted_lines.new.interner.nodes in
    subst (AreOfNodes new) (sym c.from_lines.ensures)
    (are_trees c.tree_of.new.interner.nodes new c.in_ok-tree.tree c.in_ok-lines.lines.items c.into_lines.result.items
    c.in_ok-lines.ensures.each)
