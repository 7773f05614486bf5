use Rattle.std.proofs.Common.{◌≤◌, ◌∷◌, [], inr, length}
use Rattle.std.proofs.lemmas.Result.{err_from_is_err_and}
use Rattle.reqtable_requirements.proofs.Asked.{are_of_nodes}
use Rattle.reqs_io_faults.specs.declared.fault.Input.TheVariants.{First}
use Rattle.reqs_io_faults.specs.Inputs.{lines_from}
use Rattle.reqs_lists.specs.Lists.{IsOfLists}
use Rattle.reqs_lists.specs.Normal.{IsFewNormal, HasFaultyLine, HasLongLine, NormalPasses}
use Rattle.reqs_lists.proofs.Given.{given_within, one_passes, wider}
use Rattle.reqs_lists.proofs.normalizing.normal_answer.Goals as goal

pub normal_of-requires : goal.normal_of-requires
normal_of-requires c =
    let read = c.in_ok-requirements.ensures.lines.0 in are_of_nodes c.args.vars.now _ _ read.0 read.2

pub returns-in_err-requirements : goal.returns-in_err-requirements
returns-in_err-requirements c =
    let p = err_from_is_err_and c.from_residual.result c.from_residual.ensures.1 in
    rw (p.1, p.2)
    (wider (one_passes c.args.vars.now c.args.requirements.now.items (HasFaultyLine c.args.bounds.clauses)
    c.args.bounds.nodes c.requirements_within.new.interner.nodes _ c.in_err-requirements.ensures.lines))

pub returns : goal.returns
returns c =
    let vars = c.args.vars.now in
    let bytes = c.args.requirements.now.items in
    let nodes = c.requirements_within.new.interner.nodes in
    let clauses = c.args.bounds.clauses in
    let read = c.in_ok-requirements.ensures.lines.0 in
    let fits = c.in_ok-requirements.ensures.lines.1 in
    given_within (IsOfLists vars (bytes ∷ [])) tt (IsFewNormal c.args.format clauses) (HasFaultyLine clauses)
    (lines_from vars First bytes) read.0 read.1 (Unit {0}) (length nodes ≤ c.args.bounds.nodes) (λ none. fits)
    (HasLongLine clauses read.0) (NormalPasses c.args.bounds nodes vars (bytes ∷ []))
    (λ fault h. inr (read.0, read.1, (fits, h))) c.normal_of.result (c.normal_of.ensures vars read.0 read.2)
