use Rattle.std.proofs.Common.{sym, subst, ◌∙◌}
use Rattle.pep508_error.specs.Cursors.{behind}
use Rattle.pep508_requirement_text.specs.FrontFound.{ReadsAs, IsSource}
use Rattle.pep508_requirement_text.proofs.SourceCases.{at_operator}
use Rattle.pep508_requirement_text.proofs.ShownFront.{bracket_as}
use Rattle.pep508_requirement_text.proofs.front.read_source.Goals as goal

pub returns-then-begins_operator-clause-read : goal.returns-then-begins_operator-clause-read
returns-then-begins_operator-clause-read c =
    subst (ReadsAs c.args.vars.now IsSource c.read_open.result)
    (sym (at_operator (behind c.args.whole) c.args.name.now c.in-Some.c (behind c.in-Some.inner) (behind c.args.start)
    c.in-Some.ensures.cases c.if-c-eq64.false c.if-c-eq40.false
    (sym c.begins_operator.ensures ∙ c.if-begins_operator.true)))
    (c.read_open.ensures.read c.args.vars.now)

pub returns-then-c-eq40-clause-shown : goal.returns-then-c-eq40-clause-shown
returns-then-c-eq40-clause-shown c =
    bracket_as c.args.whole c.args.start c.in-Some.inner c.in-Some.c c.in-Some.ensures.cases c.if-c-eq40.true
    c.in-Some.ensures.behind c.read_enclosed.result c.read_enclosed.ensures.shown
