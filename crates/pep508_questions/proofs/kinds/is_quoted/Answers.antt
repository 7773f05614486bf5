use Rattle.pep508_questions.proofs.Quotes.{quote_on, quote_found, no_quote}
use Rattle.pep508_questions.proofs.kinds.is_quoted.Goals as goal

pub returns-then-c-eq39 : goal.returns-then-c-eq39
returns-then-c-eq39 c =
    quote_found c.args.text.now _ _ c.in-Some.c c.loop-c.invariant c.in-Some.ensures.steps.0 c.if-c-eq39.true

pub loop-c-preserved : goal.loop-c-preserved
loop-c-preserved c =
    quote_on c.args.text.now _ _ c.in-Some.c c.loop-c.invariant c.in-Some.ensures.steps.0 c.if-c-eq39.false

pub returns : goal.returns
returns c = no_quote c.args.text.now _ c.loop-c.invariant c.in-None.ensures.steps.0.0
