use Rattle.std.proofs.Common.{◌∙◌, ◌++◌, ◌∷◌, [], sym, ap}
use Rattle.std.proofs.lemmas.List.{map-append}
use Rattle.pep508_evaluation.specs.Valuations.{valuation_of}
use Rattle.reqtable_answer.specs.Says.{ask_seen, asks_seen, requirement_seen}
use Rattle.pep508_tree.specs.Meaning.{holds}
use Rattle.reqtable_requirements.proofs.Applying.{one_more, passed_over}
use Rattle.reqtable_requirements.proofs.judgement.applying.Goals as goal
use Rattle.reqtable_requirements.proofs.judgement.applying.Goals.{then-evaluate_markers+in_ok-push}
use Rattle.reqtable_requirements.proofs.judgement.applying.Goals.{else-evaluate_markers}

pub loop-line-preserved : goal.loop-line-preserved
loop-line-preserved c =
    let nodes = c.args.interner.now.nodes in
    let v = valuation_of c.args.environment.now c.args.extras.now in
    elim c.if-evaluate_markers.branch [
      | then-evaluate_markers+in_ok-push w ↦
          one_more (λ line. line.requirement) requirement_seen (λ line. holds nodes line.requirement.marker v) c.args.lines.now c.loop-line.line-index c.line-item.result c.loop-line-test.true c.line-item.is
          (asks_seen c.loop-line.asks.items) (asks_seen c.if-evaluate_markers.asks.items)
          (sym c.evaluate_markers.ensures ∙ w.if-evaluate_markers.true) c.loop-line.invariant
          (ap (λ asks. asks_seen asks.items) w.asks-is ∙ ap asks_seen w.in_ok-push.ensures.items
          ∙ map-append ask_seen c.loop-line.asks.items _ ∙ ap (λ f. asks_seen c.loop-line.asks.items ++ f ∷ []) w.ask_of.ensures)
      | else-evaluate_markers w ↦
          passed_over (λ line. line.requirement) requirement_seen (λ line. holds nodes line.requirement.marker v) c.args.lines.now c.loop-line.line-index c.line-item.result c.loop-line-test.true c.line-item.is
          (asks_seen c.loop-line.asks.items) (asks_seen c.if-evaluate_markers.asks.items)
          (sym c.evaluate_markers.ensures ∙ w.if-evaluate_markers.false) c.loop-line.invariant
          (ap (λ asks. asks_seen asks.items) w.asks-is)
    ]
