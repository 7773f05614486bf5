use Rattle.std.proofs.Common.{◌∙◌, Ok, ap, sym}
use Rattle.std.proofs.lemmas.Result.{err_from_is_err_and}
use Rattle.reqs_io_faults.specs.declared.fault.Input.TheVariants.{First}
use Rattle.reqs_io_faults.specs.Faults.{IsPlain, IsOfTexts}
use Rattle.reqs_answers.specs.Texts.{texts_of}
use Rattle.reqs_io_faults.proofs.Steps.{refuses_rest, refuses_texts}
use Rattle.reqs_answers.proofs.Whole.{whole_check}
use Rattle.reqs_answers.proofs.checks.check_text.Goals as goal

pub returns-in_err-extras : goal.returns-in_err-extras
unfolding texts_of
returns-in_err-extras c =
    let p = err_from_is_err_and c.from_residual.result c.from_residual.ensures.1 in
    rw (p.1, p.2) (refuses_texts _ _ _ _ _ (refuses_rest IsPlain _ _ _ c.in_err-extras.ensures))

pub returns-in_err-requirements : goal.returns-in_err-requirements
unfolding texts_of
returns-in_err-requirements c =
    let p = err_from_is_err_and c.from_residual-in_err-requirements.result c.from_residual-in_err-requirements.ensures.1 in
    rw (p.1, p.2, c.in_ok-extras.ensures) (refuses_rest (IsOfTexts c.args.vars.now First c.args.requirements.now.items) _ _ _ c.in_err-requirements.ensures)

pub returns : goal.returns
returns c =
    whole_check c.args.vars.now _ c.args.requirements.now.items c.args.environment.now.items c.args.candidates.now.items c.deref.result.now
    c.in_ok-requirements.ensures.0 (c.in_ok-extras.ensures ∙ ap (λ l. Ok l) (sym c.deref.ensures.value))
    c.in_ok-requirements.ensures.1 c.args.strict c.args.format c.text_behind.result
    (c.text_behind.ensures c.args.vars.now c.in_ok-requirements.ensures.0 c.in_ok-requirements.ensures.2)
