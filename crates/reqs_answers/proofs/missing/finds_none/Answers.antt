use Rattle.std.proofs.Common.{◌∙◌, ◌||◌, map, ap, subst}
use Rattle.pep508_evaluation.specs.Valuations.{valuation_of}
use Rattle.reqtable_answer.specs.Answer.{IsAnswer}
use Rattle.reqtable_answer.specs.Rows.{row_seen}
use Rattle.reqtable_requirements.specs.Asks.{asks_of}
use Rattle.reqs_answers.specs.Check.{on_request}
use Rattle.reqs_answers.specs.Strict.{has_none}
use Rattle.reqs_answers.specs.Ready.{nodes_in}
use Rattle.reqs_answers.proofs.AskedRows.{asked_on}
use Rattle.reqs_answers.proofs.missing.finds_none.Goals as goal

pub returns-clause-ready : goal.returns-clause-ready
returns-clause-ready g c =
    let query = c.args.query.now in
    record {
      admits = c.requires.admits;
      ready =
          asked_on _ _ query.format (nodes_in query) query.candidates.now c.args.run.now c.answer_among.new.self
          c.answer_among.new.runs c.answer_among.ensures.kept c.answer_among.ensures.runs c.answer_among.ensures.told
          c.answer_among.ensures.candidates c.requires.ready;
    }

pub returns-clause-finds : goal.returns-clause-finds
returns-clause-finds g c = λ said k.
    let query = c.args.query.now in
    let rows = map row_seen c.in_ok-answer.answer.rows.items in
    let asks = asks_of (valuation_of c.args.environment.now query.extras.now) said in
    let here = c.has_none-here.ensures ∙ ap (λ those. has_none (map row_seen those)) c.deref.ensures.value in (
      rows,
      subst (λ candidates. IsAnswer on_request asks candidates rows) c.requires.ready.selects
          (c.in_ok-answer.ensures.answered said on_request k c.requires.admits),
      ap (λ b. c.args.found || b) here,
    )
