use Rattle.std.proofs.Common.{sym, ◌∙◌}
use Rattle.pep508_error.specs.Cursors.{behind}
use Rattle.pep508_marker_parser.specs.TreeReading.{connective}
use Rattle.pep508_marker_parser.proofs.Words.{next_passed, behind_passed, next_lacks, next_goes_on}
use Rattle.pep508_marker_parser.proofs.word.Word.pass.Goals as goal

pub returns-in_default-clause-next : goal.returns-in_default-clause-next
returns-in_default-clause-next c =
    next_lacks (connective c.args.self) (behind c.args.place) (behind c.after_whitespace.result)
    c.after_whitespace.ensures.rest c.in_default.ensures.found

pub returns-then-ends_run-clause-next : goal.returns-then-ends_run-clause-next
returns-then-ends_run-clause-next c =
    next_passed (connective c.args.self) (behind c.args.place) (behind c.after_whitespace.result)
    c.after_whitespace.ensures.rest (behind c.in-Some.later) c.in-Some.ensures.found
    (sym c.ends_run.ensures ∙ c.if-ends_run.true)

pub returns-then-ends_run-clause-later : goal.returns-then-ends_run-clause-later
returns-then-ends_run-clause-later c =
    behind_passed (connective c.args.self) (behind c.args.place) (behind c.after_whitespace.result)
    c.after_whitespace.ensures.rest (behind c.in-Some.later) c.in-Some.ensures.found
    (sym c.ends_run.ensures ∙ c.if-ends_run.true)

pub returns-else-ends_run-clause-next : goal.returns-else-ends_run-clause-next
returns-else-ends_run-clause-next c =
    next_goes_on (connective c.args.self) (behind c.args.place) (behind c.after_whitespace.result)
    c.after_whitespace.ensures.rest (behind c.in-Some.later) c.in-Some.ensures.found
    (sym c.ends_run.ensures ∙ c.if-ends_run.false)
