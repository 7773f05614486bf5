use Rattle.std.proofs.Common.{◌∙◌, ◌&&◌, ap, ap₂}
use Rattle.pep508_diagram.specs.declared.variable.Flag.TheVariants.{Extra}
use Rattle.pep508_tree.proofs.Diagrams.{holds_kept}
use Rattle.pep508_requirement.proofs.requirement.Requirement.with_extra_marker.Goals as goal

pub returns-clause-truth : goal.returns-clause-truth
returns-clause-truth g c v =
    c.in_ok-marker.ensures.truth v
    ∙ ap₂ (λ a b. a && b)
    (holds_kept c.args.interner.now.nodes c.flag_tree.new.self.nodes c.in_ok-asked.ensures.keeps
    c.args.self.marker c.requires v)
    (c.in_ok-asked.ensures.truth v ∙ ap (λ name. v.flag (Extra name)) c.in_ok-try_clone.ensures)
