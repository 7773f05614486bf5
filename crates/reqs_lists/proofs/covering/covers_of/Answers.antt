use Rattle.std.proofs.Common.{◌∙◌, inl, inr, refl, ap}
use Rattle.pep508_tree.specs.Meaning.{diagram_of}
use Rattle.reqs_lists.specs.Covered.{IsToldUncovered, uncovered_in}
use Rattle.reqs_lists.proofs.Long.{covers_few, uncovered_few}
use Rattle.reqs_lists.proofs.covering.covers_of.Goals as goal

pub returns-in_ok-covers_in-in-Yes : goal.returns-in_ok-covers_in-in-Yes
returns-in_ok-covers_in-in-Yes c = λ vars said others left right.
    let found = rw c.in-Yes.is at (c.in_ok-found_within.ensures vars said others left right) in
    let compared = found.0 in (
      (
        (compared.0, inl (refl, c.in_ok-covers_in-in-Yes.ensures, compared.1)),
        covers_few c.args.bounds.clauses (said, others) compared.1,
      ),
      found.1,
    )

pub returns-in_ok-uncovered_within-in-No : goal.returns-in_ok-uncovered_within-in-No
returns-in_ok-uncovered_within-in-No c = λ vars said others left right.
    let name = c.in-No.package in
    let numbers = c.in-No.lines.items in
    let nodes = c.found_within.new.interner.nodes in
    let diagram = diagram_of nodes c.in-No.tree in
    let found = rw c.in-No.is at (c.in_ok-found_within.ensures vars said others left right) in
    let compared = found.0 in
    let shown = c.in_ok-uncovered_within-in-No.ensures in
    let text = shown.told.0 ∙ ap (uncovered_in c.args.format name diagram) c.deref.ensures.value in
    let told : IsToldUncovered (said, others) name diagram numbers = record {
      nodes = nodes;
      tree = c.in-No.tree;
      uncovered = compared.1;
      canonical = shown.canonical;
      short = shown.short;
      means = λ v. refl;
    } in (
      (
        (compared.0, inr (refl, (name, diagram, numbers, told, text))),
        uncovered_few c.args.bounds.clauses (said, others) name diagram numbers told shown.told.1,
      ),
      found.1,
    )
