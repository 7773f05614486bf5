use Rattle.std.proofs.Common.{◌≡◌, ℕ, ◌∷◌, [], Vec, Global, rules, string_bytes}
use Rattle.std.proofs.lemmas.Result.{err_from_is_err_and}
use Rattle.reqs_io_faults.specs.declared.fault.Input.TheVariants.{First}
use Rattle.reqs_io_faults.proofs.Steps.{first_unread, second_unread, third_unread, answered}
use Rattle.reqs_answers.proofs.Whole.{list_refused}
use Rattle.reqs_answers.proofs.checks.check_by.Goals as goal

pub returns-in_err-requirements-clause-runs : goal.returns-in_err-requirements-clause-runs
returns-in_err-requirements-clause-runs g c =
    let p = err_from_is_err_and c.from_residual.result c.from_residual.ensures.1 in
    rw (p.1, p.2) (first_unread _ _ _ _ _ _ _ (λ (bytes : Vec ℕ Global). bytes.items) _ c.in_err-requirements.ensures)

pub returns-in_err-environment-clause-runs : goal.returns-in_err-environment-clause-runs
returns-in_err-environment-clause-runs g c =
    let p = err_from_is_err_and c.from_residual-in_err-environment.result c.from_residual-in_err-environment.ensures.1 in
    rw (p.1, p.2)
    (second_unread _ _ _ _ _ _ _ _ c.in_ok-requirements.requirements.items c.in_ok-requirements.ensures
    (λ (bytes : Vec ℕ Global). bytes.items) _ c.in_err-environment.ensures)

pub returns-in_err-candidates-clause-runs : goal.returns-in_err-candidates-clause-runs
returns-in_err-candidates-clause-runs g c =
    let p = err_from_is_err_and c.from_residual-in_err-candidates.result c.from_residual-in_err-candidates.ensures.1 in
    rw (p.1, p.2)
    (third_unread _ _ _ _ _ _ _ _ _ c.in_ok-requirements.requirements.items c.in_ok-requirements.ensures
    c.in_ok-environment.environment.items c.in_ok-environment.ensures
    (λ (bytes : Vec ℕ Global). bytes.items) _ c.in_err-candidates.ensures)

pub returns-in_err-checked-clause-runs : goal.returns-in_err-checked-clause-runs
returns-in_err-checked-clause-runs g c =
    let p = err_from_is_err_and c.from_residual-in_err-checked.result c.from_residual-in_err-checked.ensures.1 in
    let first = c.in_ok-requirements in
    let second = c.in_ok-environment in
    let third = c.in_ok-candidates in
    let told = c.in_err-checked.ensures in
    rw (p.1, p.2)
    (list_refused _ _ _ _ _ _
    (first.requirements.items ∷ second.environment.items ∷ third.candidates.items ∷ [])
    (first.ensures.0, (second.ensures.0, (third.ensures.0, tt)))
    (first.ensures.1, (second.ensures.1, (third.ensures.1, tt)))
    c.args.vars.now First first.requirements.items _ told.0 told)

pub returns-clause-runs : goal.returns-clause-runs
returns-clause-runs g c =
    let first = c.in_ok-requirements in
    let second = c.in_ok-environment in
    let third = c.in_ok-candidates in
    let checked = c.in_ok-checked.checked in
    let bytes : c.as_str.result.now ≡ string_bytes checked.text = search rules in
    answered _ _ _ _ _ _
    (first.requirements.items ∷ second.environment.items ∷ third.candidates.items ∷ [])
    (first.ensures.0, (second.ensures.0, (third.ensures.0, tt)))
    (first.ensures.1, (second.ensures.1, (third.ensures.1, tt)))
    checked.status (string_bytes checked.text) c.in_ok-checked.ensures c.write_answer.result
    (rw bytes at c.write_answer.ensures)
