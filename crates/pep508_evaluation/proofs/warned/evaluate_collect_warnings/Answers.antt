use Rattle.std.proofs.Common.{◌++◌, ◌∙◌, ap, map}
use Rattle.pep508_tree.specs.Meaning.{diagram_of}
use Rattle.pep508_evaluation.specs.Valuations.{valuation_of}
use Rattle.pep508_evaluation.specs.Warned.{warned}
use Rattle.pep508_evaluation.proofs.Edging.{collected}
use Rattle.pep508_evaluation.proofs.warned.evaluate_collect_warnings.Goals as goal

pub returns-clause-kinds : goal.returns-clause-kinds
returns-clause-kinds c =
    let kinds = warned (valuation_of c.args.environment.now c.args.extras.now)
    (diagram_of c.args.interner.now.nodes c.args.tree) in
    collected _ (λ p. map (λ kept. kept.0) p.warnings.items) (λ p kind q taken. taken.1) _ kinds _
    c.in_ok-holds.ensures.taken
    ∙ ap (λ items. map (λ kept. kept.0) items ++ kinds) c.new.ensures.items
