use Rattle.std.proofs.Common.{◌∙◌, Ok, ap, sym, refl, inl}
use Rattle.std.proofs.lemmas.Result.{err_from_is_err_and}
use Rattle.reqtable_requirements.proofs.Asked.{are_of_nodes}
use Rattle.reqs_io_faults.specs.Faults.{IsPlain}
use Rattle.reqs_answers.specs.Texts.{behind_lines}
use Rattle.reqs_io_faults.proofs.Steps.{refuses_rest}
use Rattle.reqs_answers.proofs.Whole.{not_tabled}
use Rattle.reqs_answers.proofs.matrices.matrix_behind.Goals as goal

pub table_of-requires : goal.table_of-requires
table_of-requires c = are_of_nodes c.requires.0 _ _ c.requires.1 c.requires.2

pub answers_text-requires : goal.answers_text-requires
answers_text-requires c = (c.in_ok-table.ensures c.requires.0 c.requires.1 c.requires.2).0.0.1

pub returns-in_err-environments : goal.returns-in_err-environments
unfolding behind_lines
returns-in_err-environments c = λ vars said stands.
    let p = err_from_is_err_and c.from_residual.result c.from_residual.ensures.1 in
    rw (p.1, p.2) (inl (inl (refuses_rest IsPlain _ _ _ c.in_err-environments.ensures)))

pub returns-in_err-candidates : goal.returns-in_err-candidates
unfolding behind_lines
returns-in_err-candidates c = λ vars said stands.
    let p = err_from_is_err_and c.from_residual-in_err-candidates.result c.from_residual-in_err-candidates.ensures.1 in
    rw (p.1, p.2, c.in_ok-environments.ensures) (inl (inl (refuses_rest IsPlain _ _ _ c.in_err-candidates.ensures)))

pub returns-in_err-table : goal.returns-in_err-table
unfolding behind_lines
returns-in_err-table c = λ vars said stands.
    let p = err_from_is_err_and c.from_residual-in_err-table.result c.from_residual-in_err-table.ensures.1 in
    rw (p.1, p.2)
    (not_tabled c.args.request.bounds c.table_of.new.interner.nodes c.args.request.limit
    (record { extras = c.args.extras.now; lines = said; second = c.in_ok-environments.environments.items; candidates = c.in_ok-candidates.candidates })
    _ _ (rw (c.in_ok-environments.ensures, c.in_ok-candidates.ensures) refl) (c.in_err-table.ensures vars said stands))

pub returns-in-Ok : goal.returns-in-Ok
unfolding behind_lines
returns-in-Ok c = λ vars said stands.
    let made = c.in_ok-table.ensures vars said stands in
    let built = made.0.0 in (
      (
        record { extras = c.args.extras.now; lines = said; second = c.deref.result.now; candidates = c.in_ok-candidates.candidates },
        rw (c.in_ok-environments.ensures ∙ ap (λ l. Ok l) (sym c.deref.ensures.value), c.in_ok-candidates.ensures) refl,
        (
          record { few = built.2; is_text = c.in-Ok.ensures.text said built.0 },
          made.0.2,
          c.in-Ok.ensures.status said built.0,
        ),
      ),
      made.1,
    )
