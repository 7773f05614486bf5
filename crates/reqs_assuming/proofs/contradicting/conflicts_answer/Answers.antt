use Rattle.std.proofs.Common.{◌≤◌, ◌∷◌, [], inl, inr, length}
use Rattle.std.proofs.lemmas.Result.{err_from_is_err_and}
use Rattle.pep508_formula.specs.Postfix.{formula_of}
use Rattle.reqtable_requirements.proofs.Asked.{are_of_nodes}
use Rattle.reqs_lists.proofs.Given.{given_within}
use Rattle.reqs_lists.specs.Contradictions.{IsConflictsBy, HasTooManyWithin, OutgrowsOrCases}
use Rattle.reqs_lists.specs.Lists.{IsOfLists, PassesInFirst}
use Rattle.reqs_assuming.proofs.Parsed.{none_answered}
use Rattle.reqs_assuming.specs.Contradictions.{ConflictsPassWhere}
use Rattle.reqs_assuming.specs.Lists.{one_list_where}
use Rattle.reqs_assuming.proofs.contradicting.conflicts_answer.Goals as goal

pub conflicts_of-requires : goal.conflicts_of-requires
conflicts_of-requires c =
    let read = c.in_ok-list.ensures.0 in are_of_nodes c.args.terms.now.vars.now _ _ read.0 read.2

pub returns-in_err-list : goal.returns-in_err-list
returns-in_err-list c =
    let p = err_from_is_err_and c.from_residual.result c.from_residual.ensures.1 in
    let terms = c.args.terms.now in
    let vars = terms.vars.now in
    let inputs = c.args.requirements.now.items ∷ [] in
    let bounds = terms.bounds in
    let nodes = c.list_where.new.interner.nodes in
    rw (p.1, p.2)
    (none_answered (IsOfLists vars inputs) (PassesInFirst vars bounds.nodes nodes inputs) bounds.nodes nodes
    (one_list_where (formula_of terms.condition.now) vars inputs) _ (HasTooManyWithin c.args.limit bounds.cases)
    (OutgrowsOrCases bounds nodes c.args.limit) (λ read o. inl o) c.in_err-list.ensures)

pub returns : goal.returns
returns c =
    let terms = c.args.terms.now in
    let vars = terms.vars.now in
    let inputs = c.args.requirements.now.items ∷ [] in
    let condition = formula_of terms.condition.now in
    let nodes = c.conflicts_of.new.interner.nodes in
    let bounds = terms.bounds in
    let limit = c.args.limit in
    let read = c.in_ok-list.ensures.0 in
    given_within (IsOfLists vars inputs) tt (IsConflictsBy c.args.strict terms.format limit bounds.cases) (HasTooManyWithin limit bounds.cases)
    (one_list_where condition vars inputs) read.0 read.1 (length nodes ≤ bounds.nodes) (length nodes ≤ bounds.nodes) (λ fits. fits)
    (OutgrowsOrCases bounds nodes limit read.0) (ConflictsPassWhere condition bounds nodes limit vars inputs)
    (λ fault h. inr (read.0, read.1, h)) c.conflicts_of.result (c.conflicts_of.ensures vars read.0 read.2)
