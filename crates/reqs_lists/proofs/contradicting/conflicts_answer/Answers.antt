use Rattle.std.proofs.Common.{◌≤◌, ◌∷◌, [], inr, length}
use Rattle.std.proofs.lemmas.Result.{err_from_is_err_and}
use Rattle.reqtable_requirements.proofs.Asked.{are_of_nodes}
use Rattle.reqs_io_faults.specs.declared.fault.Input.TheVariants.{First}
use Rattle.reqs_io_faults.specs.Inputs.{lines_from}
use Rattle.reqs_lists.specs.Contradictions.{IsConflictsBy, HasTooManyWithin, OutgrowsOrCases, ConflictsPass}
use Rattle.reqs_lists.specs.Lists.{IsOfLists}
use Rattle.reqs_lists.proofs.Given.{given_within, one_passes, wider}
use Rattle.reqs_lists.proofs.contradicting.conflicts_answer.Goals as goal

pub conflicts_of-requires : goal.conflicts_of-requires
conflicts_of-requires c =
    let read = c.in_ok-requirements.ensures.lines.0 in are_of_nodes c.args.vars.now _ _ read.0 read.2

pub returns-in_err-requirements : goal.returns-in_err-requirements
returns-in_err-requirements c =
    let p = err_from_is_err_and c.from_residual.result c.from_residual.ensures.1 in
    rw (p.1, p.2)
    (wider (one_passes c.args.vars.now c.args.requirements.now.items (HasTooManyWithin c.args.request.limit c.args.request.bounds.cases)
    c.args.request.bounds.nodes c.requirements_within.new.interner.nodes _ c.in_err-requirements.ensures.lines))

pub returns : goal.returns
returns c =
    let vars = c.args.vars.now in
    let bytes = c.args.requirements.now.items in
    let nodes = c.conflicts_of.new.interner.nodes in
    let bounds = c.args.request.bounds in
    let limit = c.args.request.limit in
    let read = c.in_ok-requirements.ensures.lines.0 in
    given_within (IsOfLists vars (bytes ∷ [])) tt (IsConflictsBy c.args.request.strict c.args.request.format limit bounds.cases)
    (HasTooManyWithin limit bounds.cases) (lines_from vars First bytes) read.0 read.1 (length nodes ≤ bounds.nodes)
    (length nodes ≤ bounds.nodes) (λ fits. fits) (OutgrowsOrCases bounds nodes limit read.0)
    (ConflictsPass bounds nodes limit vars (bytes ∷ [])) (λ fault h. inr (read.0, read.1, h)) c.conflicts_of.result
    (c.conflicts_of.ensures vars read.0 read.2)
