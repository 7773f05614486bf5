use Rattle.std.proofs.Common.{◌∙◌, Ok, ap, sym, inl}
use Rattle.std.proofs.lemmas.Result.{err_from_is_err_and}
use Rattle.reqs_io_faults.specs.Faults.{IsPlain}
use Rattle.reqs_answers.specs.Texts.{texts_of}
use Rattle.reqs_io_faults.proofs.Steps.{refuses_rest, refuses_texts}
use Rattle.reqs_answers.proofs.Whole.{whole_matrix, unread_within}
use Rattle.reqs_answers.proofs.matrices.matrix_text.Goals as goal

pub returns-in_err-extras : goal.returns-in_err-extras
unfolding texts_of
returns-in_err-extras c =
    let p = err_from_is_err_and c.from_residual.result c.from_residual.ensures.1 in
    rw (p.1, p.2) (inl (inl (refuses_texts _ _ _ _ _ (refuses_rest IsPlain _ _ _ c.in_err-extras.ensures))))

pub returns-in_err-requirements : goal.returns-in_err-requirements
unfolding texts_of
returns-in_err-requirements c =
    let p = err_from_is_err_and c.from_residual-in_err-requirements.result c.from_residual-in_err-requirements.ensures.1 in
    rw (p.1, p.2, c.in_ok-extras.ensures)
    (unread_within c.args.vars.now c.args.request.bounds c.requirements_within.new.interner.nodes c.args.request.limit _ _ _
    c.in_err-requirements.ensures.lines)

pub matrix_behind-requires : goal.matrix_behind-requires
matrix_behind-requires c = (c.args.vars.now, c.in_ok-requirements.ensures.lines.0.0, c.in_ok-requirements.ensures.lines.0.2)

pub returns : goal.returns
returns c =
    whole_matrix c.args.vars.now _ c.args.requirements.now.items c.args.environments.now.items c.args.candidates.now.items c.deref.result.now
    c.in_ok-requirements.ensures.lines.0.0 (c.in_ok-extras.ensures ∙ ap (λ l. Ok l) (sym c.deref.ensures.value))
    c.in_ok-requirements.ensures.lines.0.1 c.args.request.bounds c.matrix_behind.new.interner.nodes c.args.request.strict
    c.args.request.format c.args.request.limit _ c.matrix_behind.result
    (c.matrix_behind.ensures c.args.vars.now c.in_ok-requirements.ensures.lines.0.0 c.in_ok-requirements.ensures.lines.0.2)
