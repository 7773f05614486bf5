use Rattle.std.proofs.Common.{◌∙◌, map, subst}
use Rattle.std.proofs.lemmas.Result.{IfOk-weaker}
use Rattle.pep508_evaluation.specs.Valuations.{valuation_of}
use Rattle.reqtable_answer.specs.Answer.{IsAnswer}
use Rattle.reqtable_answer.specs.Rows.{row_seen}
use Rattle.reqtable_requirements.specs.Asks.{asks_of}
use Rattle.reqtable_table.proofs.Lasting.{serves_later, serves_unasked}
use Rattle.reqtable_table.proofs.Same.{all_same}
use Rattle.reqtable_table.proofs.Told.{told_at_first}
use Rattle.reqtable_table.proofs.table.Table.answer.Goals as goal

pub returns-in_err-ordered-clause-kept : goal.returns-in_err-ordered-clause-kept
returns-in_err-ordered-clause-kept g c = all_same c.args.self.now

pub returns-in_err-runs-clause-kept : goal.returns-in_err-runs-clause-kept
returns-in_err-runs-clause-kept g c = all_same c.args.self.now

pub returns-clause-answered : goal.returns-clause-answered
returns-clause-answered g c =
    IfOk-weaker c.answer_among.result _ _
    (λ answer h said admits keeps by.
    subst (λ candidates. IsAnswer admits (asks_of (valuation_of c.args.environment.now c.args.extras.now) said) candidates
    (map row_seen answer.rows.items)) (c.in_ok-runs.ensures.candidates ∙ c.in_ok-ordered.ensures) (h said admits keeps by))
    c.answer_among.ensures.answered

pub answer_among-requires-clause-told : goal.answer_among-requires-clause-told
answer_among-requires-clause-told g c =
    told_at_first _ c.args.self.now c.in_ok-runs.runs c.in_ok-runs.ensures.are c.in_ok-runs.ensures.untold

pub returns-in_err-ordered-clause-serves : goal.returns-in_err-ordered-clause-serves
returns-in_err-ordered-clause-serves g c = serves_unasked c.args.interner.now.nodes c.args.self.now c.requires.cases

pub returns-in_err-ordered-clause-lasts : goal.returns-in_err-ordered-clause-lasts
returns-in_err-ordered-clause-lasts g c = λ later more.
    serves_later c.args.interner.now.nodes later more c.args.self.now c.args.self.now (all_same c.args.self.now) c.requires.cases

pub returns-in_err-runs-clause-serves : goal.returns-in_err-runs-clause-serves
returns-in_err-runs-clause-serves g c = serves_unasked c.args.interner.now.nodes c.args.self.now c.requires.cases

pub returns-in_err-runs-clause-lasts : goal.returns-in_err-runs-clause-lasts
returns-in_err-runs-clause-lasts g c = λ later more.
    serves_later c.args.interner.now.nodes later more c.args.self.now c.args.self.now (all_same c.args.self.now) c.requires.cases
