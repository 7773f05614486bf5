use Rattle.std.proofs.Common.{◌∙◌, ◌++◌, false, ap, append_assoc}
use Rattle.std.proofs.lemmas.Result.{on_ok_weaker}
use Rattle.reqs_json.specs.Rows.{rows_in}
use Rattle.reqs_rows.proofs.Ready.{with_text}
use Rattle.reqs_answers.specs.Check.{on_request}
use Rattle.reqs_answers.specs.Frames.{head, foot}
use Rattle.reqs_answers.specs.Ready.{nodes_in}
use Rattle.reqs_answers.proofs.environments.put_environment.Goals as goal

pub put_answer-requires : goal.put_answer-requires
put_answer-requires g c =
    let query = c.args.query.now in
    with_text _ _ query.format (nodes_in query) query.candidates.now c.args.run.now c.put_head.new.text
    c.in_ok-put_head.ensures.grow c.requires.ready

pub returns-clause-ready : goal.returns-clause-ready
returns-clause-ready g c =
    let query = c.args.query.now in
    on_ok_weaker c.put_foot.result
    (λ grow. record {
      admits = c.requires.admits;
      ready = with_text _ _ query.format (nodes_in query) query.candidates.now c.put_answer.new.self c.put_foot.new.text grow
          c.in_ok-put_answer.ensures.ready;
    })
    c.put_foot.ensures.grow

pub returns-clause-put : goal.returns-clause-put
returns-clause-put g c =
    let query = c.args.query.now in
    let old = c.args.run.now.text.whole in
    let before = head query.format c.args.number in
    let behind = foot query.format in
    on_ok_weaker c.put_foot.result
    (λ h said k.
    let put = c.in_ok-put_answer.ensures.put said on_request k c.requires.admits in
    let rows = rows_in query.format query.candidates.now false put.0 in (
      put.0,
      put.1,
      h ∙ ap (λ t. t ++ behind) (put.2 ∙ ap (λ t. t ++ rows) c.in_ok-put_head.ensures.whole)
          ∙ append_assoc (old ++ before) rows behind ∙ append_assoc old before (rows ++ behind),
    ))
    c.put_foot.ensures.whole
