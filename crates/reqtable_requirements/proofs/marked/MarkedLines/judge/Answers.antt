use Rattle.std.proofs.Common.{List, sym, subst}
use Rattle.pep508_evaluation.specs.Valuations.{valuation_of}
use Rattle.reqtable_answer.specs.declared.ask.Ask.{Ask}
use Rattle.reqtable_answer.specs.Says.{SayAll}
use Rattle.reqtable_requirements.specs.Asks.{asks_of}
use Rattle.reqtable_requirements.proofs.Asked.{if_ok}
use Rattle.reqtable_requirements.proofs.marked.MarkedLines.judge.Goals as goal

pub returns-clause-answered : goal.returns-clause-answered
returns-clause-answered g c =
    let v = valuation_of c.args.environment.now c.args.extras.now in
    if_ok c.answer_to.result c.answer_to.ensures.answered (λ answer h vars said admits stands by.
    let P : List Ask → Type 0 = λ asks. SayAll asks (asks_of v said) in
    h admits (asks_of v said) by (subst P (sym c.deref.ensures.value) (c.in_ok-asks.ensures.said vars said stands)))
