use Rattle.std.proofs.Common.{◌∙◌, ◌&&◌, map, refl, ap}
use Rattle.std.proofs.lemmas.Result.{err_from_is_err_and}
use Rattle.reqtable_answer.specs.Rows.{row_seen}
use Rattle.reqs_io_faults.specs.Ends.{status_of_answer}
use Rattle.reqs_io_faults.specs.Faults.{IsPlain}
use Rattle.reqs_json.specs.Rows.{rows_text}
use Rattle.reqs_answers.specs.Texts.{behind_lines}
use Rattle.reqs_io_faults.proofs.Steps.{refuses_rest}
use Rattle.reqs_answers.proofs.Selected.{rows_as, none_as}
use Rattle.reqs_answers.proofs.checks.text_behind.Goals as goal

pub returns-in_err-environment : goal.returns-in_err-environment
unfolding behind_lines
returns-in_err-environment c = λ vars said stands.
    let p = err_from_is_err_and c.from_residual.result c.from_residual.ensures.1 in
    rw (p.1, p.2) (refuses_rest IsPlain _ _ _ c.in_err-environment.ensures)

pub returns-in_err-selection : goal.returns-in_err-selection
unfolding behind_lines
returns-in_err-selection c = λ vars said stands.
    let p = err_from_is_err_and c.from_residual-in_err-selection.result c.from_residual-in_err-selection.ensures.1 in
    rw (p.1, p.2, c.in_ok-environment.ensures) (refuses_rest IsPlain _ _ _ c.in_err-selection.ensures.answered)

pub returns-in-Ok : goal.returns-in-Ok
unfolding behind_lines
returns-in-Ok c = λ vars said stands.
    let selection = c.in_ok-selection.selection in
    let read = c.in_ok-selection.ensures.answered in
    let is = read.2 vars said stands in
    let rows = map row_seen selection.answer.rows.items in (
      record {
        read = record { extras = c.args.extras.now; lines = said; second = c.in_ok-environment.environment; candidates = read.0 };
        is_read = rw (c.in_ok-environment.ensures, read.1) refl;
        is_text = (
          is.answer,
          is.is_answer,
          c.in-Ok.ensures ∙ ap (λ those. rows_text c.args.format those rows) c.deref.ensures.value
              ∙ rows_as selection.candidates.items read.0 c.args.format rows is.answer is.are_its_rows,
        );
      },
      c.rows_status-status.ensures
          ∙ ap (λ found. status_of_answer (c.args.strict && found))
          (none_as selection.candidates.items read.0 rows is.answer is.are_its_rows),
    )
