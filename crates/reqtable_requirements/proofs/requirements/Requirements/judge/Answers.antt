use Rattle.std.proofs.Common.{◌∙◌, List, map, ap, sym, subst}
use Rattle.pep508_evaluation.specs.Valuations.{valuation_of}
use Rattle.reqtable_answer.specs.declared.ask.Ask.{Ask}
use Rattle.reqtable_answer.specs.Says.{SayAll, requirement_seen}
use Rattle.reqtable_requirements.specs.Asks.{applying, asks_of}
use Rattle.reqtable_requirements.proofs.Asked.{if_ok, say_all}
use Rattle.reqtable_requirements.proofs.requirements.Requirements.judge.Goals as goal

pub returns-clause-answered : goal.returns-clause-answered
returns-clause-answered g c =
    let nodes = c.args.interner.now.nodes in
    let v = valuation_of c.args.environment.now c.args.extras.now in
    if_ok c.answer_to.result c.answer_to.ensures.answered (λ answer h vars said admits stands by.
    let P : List Ask → Type 0 = λ asks. SayAll asks (asks_of v said) in
    h admits (asks_of v said) by
    (subst P (sym c.deref.ensures.value) (say_all vars nodes v c.args.self.now said c.in_ok-asks.asks.items
    (c.in_ok-asks.ensures ∙ ap (λ lines. map requirement_seen (applying nodes v lines)) c.lines.ensures) stands)))
