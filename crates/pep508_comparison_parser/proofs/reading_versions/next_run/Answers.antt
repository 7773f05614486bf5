use Rattle.std.proofs.Common.{sym, ◌∙◌}
use Rattle.pep440_specifier.proofs.Fronts.{skipped}
use Rattle.pep508_comparison_parser.proofs.Runs.{run_next, run_none, no_chars, some_chars}
use Rattle.pep508_comparison_parser.proofs.reading_versions.next_run.Goals as goal

pub returns-then-is_empty : goal.returns-then-is_empty
returns-then-is_empty c =
    let text = c.args.text.now in
    let trimmed = c.trim_start-trimmed.result.now in
    run_none text trimmed (skipped text trimmed c.trim_start-trimmed.utf8 c.trim_start-trimmed.ensures.trim)
    (no_chars trimmed (sym c.is_empty.ensures ∙ c.if-is_empty.true))

pub returns : goal.returns
returns c =
    let text = c.args.text.now in
    let trimmed = c.trim_start-trimmed.result.now in
    run_next text trimmed c.split.result.0.now c.split.result.1.now
    (skipped text trimmed c.trim_start-trimmed.utf8 c.trim_start-trimmed.ensures.trim)
    (some_chars trimmed c.trim_start-trimmed.utf8 (sym c.is_empty.ensures ∙ c.if-is_empty.false))
    c.split.ensures.parts
