use Rattle.std.proofs.Common.{◌≡◌, ◌∙◌, ap, sym, subst}
use Rattle.pep508_tree.specs.Meaning.{IsTree}
use Rattle.pep508_tree.specs.Conjunctions.{Meet}
use Rattle.pep508_tree.proofs.Conjoining.{tree_kept}
use Rattle.pep508_simplification.specs.Parts.{record_of, children_of}
use Rattle.pep508_simplification.specs.Named.{IsNamed, plain}
use Rattle.pep508_simplification.proofs.Naming.{named_now, known_kept, joined_made, joined_above}
use Rattle.pep508_simplification.proofs.Naming.{joined_named}
use Rattle.pep508_simplification.proofs.Walking.{met_all}
use Rattle.pep508_simplification.proofs.extras_walk.finished.Given as given
use Rattle.pep508_simplification.proofs.extras_walk.finished.Goals as goal

pub rejoined-requires-clause-made : goal.rejoined-requires-clause-made
rejoined-requires-clause-made g c =
    let R = given.F-post g c.args.predicate.now in
    let nodes = c.args.interner.now.nodes in
    let done = c.args.done in
    let o = record_of done.root in
    joined_made R nodes nodes done.tree c.deref.result.now o
    (subst (Meet (IsNamed R nodes nodes) (children_of o)) (sym c.deref.ensures.value)
    (met_all R nodes done c.requires.done c.requires.all))

pub rejoined-requires-clause-above : goal.rejoined-requires-clause-above
rejoined-requires-clause-above g c =
    let R = given.F-post g c.args.predicate.now in
    let nodes = c.args.interner.now.nodes in
    let done = c.args.done in
    let o = record_of done.root in
    joined_above R nodes nodes done.tree c.deref.result.now o c.requires.done.asked
    (subst (Meet (IsNamed R nodes nodes) (children_of o)) (sym c.deref.ensures.value)
    (met_all R nodes done c.requires.done c.requires.all))

pub remember-requires-clause-known : goal.remember-requires-clause-known
remember-requires-clause-known g c =
    let R = given.F-post g c.args.predicate.now in
    known_kept R c.args.interner.now.nodes c.rejoined.new.interner.nodes c.args.known.now
    c.in_ok-simple.ensures.keeps c.requires.known

pub remember-requires-clause-found : goal.remember-requires-clause-found
remember-requires-clause-found g c =
    let R = given.F-post g c.args.predicate.now in
    let nodes = c.args.interner.now.nodes in
    let new = c.rejoined.new.interner.nodes in
    let done = c.args.done in
    let simple = c.in_ok-simple.simple in
    let place = c.place-place.result in
    let o = record_of done.root in
    let keeps = c.in_ok-simple.ensures.keeps in
    let same : done.tree ≡ plain place = c.requires.done.plain_is ∙ ap plain (sym c.place-place.ensures) in
    let here = subst (IsTree nodes) same c.requires.done.made in
    record {
      made = tree_kept nodes new keeps (plain place) here;
      named =
          named_now R nodes new (plain place) simple keeps here
          (subst (λ u. IsNamed R nodes new u simple) same
          (joined_named R nodes nodes done.tree c.deref.result.now new simple o c.requires.done.asked keeps
          c.requires.done.made
          (subst (Meet (IsNamed R nodes nodes) (children_of o)) (sym c.deref.ensures.value)
          (met_all R nodes done c.requires.done c.requires.all))
          c.in_ok-simple.ensures.made));
    }
