use Rattle.std.proofs.Common.{◌∷◌, [], Ok}
use Rattle.std.proofs.lemmas.Result.{err_from_is_err_and}
use Rattle.pep508_formula.specs.Postfix.{formula_of}
use Rattle.reqtable_assumption.specs.Where.{lines_where}
use Rattle.reqtable_requirements.proofs.Asked.{are_of_nodes}
use Rattle.reqs_io_faults.specs.declared.fault.Input.TheVariants.{First}
use Rattle.reqs_io_faults.specs.Inputs.{lines_from}
use Rattle.reqs_lists.proofs.Given.{one_passes}
use Rattle.reqs_lists.specs.Lists.{IsOfLists, PassesInFirst}
use Rattle.reqs_assuming.proofs.Parsed.{none_parsed, one_where}
use Rattle.reqs_assuming.proofs.assumed.list_where.Goals as goal

pub assumed-requires : goal.assumed-requires
assumed-requires c =
    let said = c.in_ok-said.ensures.lines.0 in are_of_nodes c.args.terms.now.vars.now _ _ said.0 said.2

pub returns-in_err-said : goal.returns-in_err-said
returns-in_err-said c =
    let p = err_from_is_err_and c.from_residual.result c.from_residual.ensures.1 in
    let terms = c.args.terms.now in
    let vars = terms.vars.now in
    let bytes = c.args.bytes.now.items in
    let most = terms.bounds.nodes in
    let nodes = c.requirements_within.new.interner.nodes in
    rw (p.1, p.2)
    (none_parsed (IsOfLists vars (bytes ∷ [])) (PassesInFirst vars most nodes (bytes ∷ [])) most nodes (lines_from vars First bytes)
    (λ lines. Ok (lines_where (formula_of terms.condition.now) lines)) _
    (one_passes vars bytes (λ read fault. ⊥) most nodes _ c.in_err-said.ensures.lines))

pub returns : goal.returns
returns c =
    let terms = c.args.terms.now in
    let said = c.in_ok-said.ensures.lines.0 in
    let done = c.assumed.ensures in
    one_where (formula_of terms.condition.now) terms.vars.now terms.bounds.nodes c.requirements_within.new.interner.nodes
    c.assumed.new.interner.nodes (c.args.bytes.now.items ∷ []) _ said.0 said.1 said.2 c.assumed.result done.lines done.fits done.fault
