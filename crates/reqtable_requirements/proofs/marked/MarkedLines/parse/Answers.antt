use Rattle.std.proofs.Common.{◌∙◌, Err, ap, sym}
use Rattle.reqtable_candidates.specs.TextLines.{text_lines, each_line}
use Rattle.reqtable_candidates.proofs.Texts.{text_is_read, no_text_is_read}
use Rattle.reqtable_requirements.specs.LineReading.{NotText, line_of}
use Rattle.reqtable_requirements.specs.Requirements.{requirements_of, SaysLine}
use Rattle.reqtable_requirements.proofs.Lines.{lines_err, text_err}
use Rattle.reqtable_requirements.proofs.marked.MarkedLines.parse.Goals as goal

pub returns-in-Err : goal.returns-in-Err
returns-in-Err c = (
  no_text_is_read (line_of c.args.vars.now) NotText c.args.bytes.now c.in-Err.ensures.no_text.0
      ∙ ap (λ n. Err (NotText n)) (sym c.in-Err.ensures.no_text.1),
  tt,
)

pub returns-in_err-lines : goal.returns-in_err-lines
returns-in_err-lines c =
    lines_err (SaysLine c.args.vars.now) (λ lines. lines) c.args.vars.now (text_lines c.args.bytes.now)
    (requirements_of c.args.vars.now c.args.bytes.now) c.from_residual.result c.in_err-lines.field-0.0
    c.from_residual.ensures.1
    (text_err c.args.vars.now c.args.bytes.now c.in-Ok.text.now c.in_err-lines.field-0.0 c.in-Ok.ensures.is_text
    c.in-Ok.ensures.text c.in_err-lines.ensures)

pub returns : goal.returns
returns c =
    let read = c.in_ok-lines.ensures in (
      read.0,
      text_is_read (line_of c.args.vars.now) NotText c.args.bytes.now c.in-Ok.ensures.is_text
          ∙ ap (λ t. each_line (line_of c.args.vars.now) (text_lines t)) (sym c.in-Ok.ensures.text) ∙ read.1,
      read.2,
    )
