use Rattle.std.proofs.Common.{true, false, refl, sym}
use Rattle.std.proofs.lemmas.Result.{IfOk-weaker}
use Rattle.pep440_specifier.specs.Bounds.{lent_bound}
use Rattle.pep508_simplification.proofs.Simplifying.{found_made, found_above, found_rises, found_differ}
use Rattle.pep508_simplification.proofs.Simplifying.{found_simpler, kept_simpler, empty_simpler}
use Rattle.pep508_simplification.proofs.narrowed.narrowed.Goals as goal

pub returns-then-asks_python-clause-simpler : goal.returns-then-asks_python-clause-simpler
returns-then-asks_python-clause-simpler c =
    empty_simpler c.args.interner.now.nodes c.are_sound.ensures (lent_bound c.args.lower) (lent_bound c.args.upper)
    c.args.tree c.requires.made c.requires.above true c.if-asks_python.ensures refl (sym c.if-not-hold_some.ensures)

pub returns-then-not-hold_some-clause-simpler : goal.returns-then-not-hold_some-clause-simpler
returns-then-not-hold_some-clause-simpler c =
    kept_simpler c.args.interner.now.nodes c.are_sound.ensures (lent_bound c.args.lower) (lent_bound c.args.upper)
    c.args.tree c.requires.made c.requires.above false c.if-asks_python.ensures refl

pub versions_node-requires-clause-made : goal.versions_node-requires-clause-made
versions_node-requires-clause-made c =
    found_made c.args.interner.now.nodes c.are_sound.ensures (lent_bound c.args.lower) (lent_bound c.args.upper)
    c.args.tree c.requires.made c.requires.above _ _ c.in_ok-first.ensures

pub versions_node-requires-clause-above : goal.versions_node-requires-clause-above
versions_node-requires-clause-above c =
    found_above c.args.interner.now.nodes c.are_sound.ensures (lent_bound c.args.lower) (lent_bound c.args.upper)
    c.args.tree c.requires.made c.requires.above _ _ c.in_ok-first.ensures

pub versions_node-requires-clause-rises : goal.versions_node-requires-clause-rises
versions_node-requires-clause-rises c =
    found_rises c.args.interner.now.nodes c.are_sound.ensures (lent_bound c.args.lower) (lent_bound c.args.upper)
    c.args.tree c.requires.made c.requires.above _ _ c.in_ok-first.ensures

pub versions_node-requires-clause-differ : goal.versions_node-requires-clause-differ
versions_node-requires-clause-differ c =
    found_differ c.args.interner.now.nodes c.are_sound.ensures (lent_bound c.args.lower) (lent_bound c.args.upper)
    c.args.tree c.requires.made c.requires.above _ _ c.in_ok-first.ensures

pub returns-clause-simpler : goal.returns-clause-simpler
returns-clause-simpler c =
    IfOk-weaker c.versions_node.result _ _
    (λ s is.
    found_simpler c.args.interner.now.nodes c.are_sound.ensures (lent_bound c.args.lower)
    (lent_bound c.args.upper) c.args.tree c.requires.made c.requires.above _ _ c.in_ok-first.ensures
    c.versions_node.new.self.nodes s (sym c.if-not-hold_some.ensures) is)
    c.versions_node.ensures.made
