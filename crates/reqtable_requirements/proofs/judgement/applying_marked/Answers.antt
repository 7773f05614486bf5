use Rattle.std.proofs.Common.{◌∙◌, ◌++◌, ◌∷◌, [], sym, ap}
use Rattle.std.proofs.lemmas.List.{map-append}
use Rattle.pep508_evaluation.specs.Valuations.{valuation_of}
use Rattle.reqtable_answer.specs.Says.{ask_seen, asks_seen, marked_seen}
use Rattle.std.proofs.Common.{Bool}
use Rattle.pep508_diagram.specs.Question.{Valuation}
use Rattle.pep508_expression.specs.Expressions.{expression_holds}
use Rattle.pep508_formula.specs.Postfix.{formula_of}
use Rattle.pep508_marker_parser.specs.Formula.{formula_holds}
use Rattle.reqtable_requirements.specs.declared.marked.MarkedLine.{MarkedLine}
use Rattle.reqtable_requirements.proofs.Applying.{one_more, passed_over}
use Rattle.reqtable_requirements.proofs.judgement.applying_marked.Goals as goal
use Rattle.reqtable_requirements.proofs.judgement.applying_marked.Goals.{then-branch+in_ok-push}
use Rattle.reqtable_requirements.proofs.judgement.applying_marked.Goals.{else-branch}

abbrev test : Valuation → MarkedLine → Bool
test v line = formula_holds (λ e. expression_holds e v) (formula_of line.requirement.formula)

pub loop-line-preserved : goal.loop-line-preserved
loop-line-preserved c =
    let v = valuation_of c.args.environment.now c.args.extras.now in
    elim c.if-branch.branch [
      | then-branch+in_ok-push w ↦
          one_more (λ line. line.requirement) marked_seen (test v) c.args.lines.now c.loop-line.line-index c.line-item.result c.loop-line-test.true c.line-item.is
          (asks_seen c.loop-line.asks.items) (asks_seen c.if-branch.asks.items)
          (sym c.in_ok-evaluate_markers.ensures ∙ w.if-branch.true) c.loop-line.invariant
          (ap (λ asks. asks_seen asks.items) w.asks-is ∙ ap asks_seen w.in_ok-push.ensures.items
          ∙ map-append ask_seen c.loop-line.asks.items _ ∙ ap (λ f. asks_seen c.loop-line.asks.items ++ f ∷ []) w.ask_of_marked.ensures)
      | else-branch w ↦
          passed_over (λ line. line.requirement) marked_seen (test v) c.args.lines.now c.loop-line.line-index c.line-item.result c.loop-line-test.true c.line-item.is
          (asks_seen c.loop-line.asks.items) (asks_seen c.if-branch.asks.items)
          (sym c.in_ok-evaluate_markers.ensures ∙ w.if-branch.false) c.loop-line.invariant
          (ap (λ asks. asks_seen asks.items) w.asks-is)
    ]
