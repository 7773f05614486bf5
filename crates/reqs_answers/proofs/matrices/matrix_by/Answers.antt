use Rattle.std.proofs.Common.{ℕ, ◌∷◌, [], Vec, Global}
use Rattle.std.proofs.lemmas.Result.{err_from_is_err_and}
use Rattle.reqs_io_faults.proofs.Steps.{first_unread, second_unread, third_unread}
use Rattle.reqs_answers.proofs.Whole.{within_refused, text_written, unwritten}
use Rattle.reqs_answers.proofs.matrices.matrix_by.Goals as goal

pub returns-in_err-requirements-clause-runs : goal.returns-in_err-requirements-clause-runs
returns-in_err-requirements-clause-runs g c =
    let p = err_from_is_err_and c.from_residual.result c.from_residual.ensures.1 in
    rw (p.1, p.2) (first_unread _ _ _ _ _ _ _ (λ (bytes : Vec ℕ Global). bytes.items) _ c.in_err-requirements.ensures)

pub returns-in_err-environments-clause-runs : goal.returns-in_err-environments-clause-runs
returns-in_err-environments-clause-runs g c =
    let p = err_from_is_err_and c.from_residual-in_err-environments.result c.from_residual-in_err-environments.ensures.1 in
    rw (p.1, p.2)
    (second_unread _ _ _ _ _ _ _ _ c.in_ok-requirements.requirements.items c.in_ok-requirements.ensures
    (λ (bytes : Vec ℕ Global). bytes.items) _ c.in_err-environments.ensures)

pub returns-in_err-candidates-clause-runs : goal.returns-in_err-candidates-clause-runs
returns-in_err-candidates-clause-runs g c =
    let p = err_from_is_err_and c.from_residual-in_err-candidates.result c.from_residual-in_err-candidates.ensures.1 in
    rw (p.1, p.2)
    (third_unread _ _ _ _ _ _ _ _ _ c.in_ok-requirements.requirements.items c.in_ok-requirements.ensures
    c.in_ok-environments.environments.items c.in_ok-environments.ensures
    (λ (bytes : Vec ℕ Global). bytes.items) _ c.in_err-candidates.ensures)

pub returns-in_err-judged-clause-runs : goal.returns-in_err-judged-clause-runs
returns-in_err-judged-clause-runs g c =
    let p = err_from_is_err_and c.from_residual-in_err-judged.result c.from_residual-in_err-judged.ensures.1 in
    let first = c.in_ok-requirements in
    let second = c.in_ok-environments in
    let third = c.in_ok-candidates in
    rw (p.1, p.2)
    (within_refused _ _ _ _ c.args.vars.now _ c.args.request.format c.args.request.bounds c.matrix_text.new.interner.nodes
    c.args.request.limit c.args.request.strict
    (first.requirements.items ∷ second.environments.items ∷ third.candidates.items ∷ [])
    (first.ensures.0, (second.ensures.0, (third.ensures.0, tt)))
    (first.ensures.1, (second.ensures.1, (third.ensures.1, tt)))
    _ c.in_err-judged.ensures)

pub returns-clause-runs : goal.returns-clause-runs
returns-clause-runs g c =
    let first = c.in_ok-requirements in
    let second = c.in_ok-environments in
    let third = c.in_ok-candidates in
    let judged = c.in_ok-judged.judged in
    text_written _ _ _ _ _ _
    (first.requirements.items ∷ second.environments.items ∷ third.candidates.items ∷ [])
    (first.ensures.0, (second.ensures.0, (third.ensures.0, tt)))
    (first.ensures.1, (second.ensures.1, (third.ensures.1, tt)))
    judged.status judged.text.whole c.in_ok-judged.ensures c.write_text.result c.write_text.ensures

pub returns-clause-unwritten : goal.returns-clause-unwritten
returns-clause-unwritten g c =
    unwritten g.W.Write.contents _ _ c.in_ok-judged.judged.text.whole c.in_ok-judged.judged.status c.write_text.result
    c.write_text.ensures
