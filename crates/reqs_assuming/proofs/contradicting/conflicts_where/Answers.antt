use Rattle.std.proofs.Common.{◌≡◌, ℕ, ◌∷◌, [], Vec, Global, rules, string_bytes}
use Rattle.std.proofs.lemmas.Result.{err_from_is_err_and}
use Rattle.reqs_io_faults.proofs.Steps.{first_unread, answered}
use Rattle.reqs_assuming.proofs.Refused.{conflicts_refused}
use Rattle.reqs_assuming.proofs.contradicting.conflicts_where.Goals as goal

pub returns-in_err-requirements-clause-runs : goal.returns-in_err-requirements-clause-runs
returns-in_err-requirements-clause-runs g c =
    let p = err_from_is_err_and c.from_residual.result c.from_residual.ensures.1 in
    let bytes : Vec ℕ Global → _ = λ read. read.items in
    rw (p.1, p.2) (first_unread _ _ _ _ _ _ _ bytes _ c.in_err-requirements.ensures)

pub returns-in_err-answer-clause-runs : goal.returns-in_err-answer-clause-runs
returns-in_err-answer-clause-runs g c =
    let left_by = c.from_residual-in_err-answer in
    let p = err_from_is_err_and left_by.result left_by.ensures.1 in
    let read = c.in_ok-requirements.ensures in
    rw (p.1, p.2)
    (conflicts_refused _ _ _ _ (c.in_ok-requirements.requirements.items ∷ []) (read.0, tt) (read.1, tt)
    c.args.terms.now.vars.now _ c.args.terms.now.format _ c.args.terms.now.bounds
    c.conflicts_answer.new.interner.nodes c.args.limit c.args.strict c.in_err-answer.ensures)

pub returns-clause-runs : goal.returns-clause-runs
returns-clause-runs g c =
    let read = c.in_ok-requirements.ensures in
    let answer = c.in_ok-answer.answer in
    let bytes : c.as_str.result.now ≡ string_bytes answer.text = search rules in
    answered _ _ _ _ _ _ (c.in_ok-requirements.requirements.items ∷ []) (read.0, tt) (read.1, tt)
    answer.status (string_bytes answer.text) c.in_ok-answer.ensures c.write_answer.result
    (rw bytes at c.write_answer.ensures)
