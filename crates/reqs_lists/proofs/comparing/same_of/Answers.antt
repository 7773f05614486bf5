use Rattle.std.proofs.Common.{inl, inr, refl}
use Rattle.pep508_tree.specs.Meaning.{diagram_of}
use Rattle.reqs_lists.specs.Comparison.{IsToldDifference}
use Rattle.reqs_lists.proofs.Long.{same_few, told_few}
use Rattle.reqs_lists.proofs.comparing.same_of.Goals as goal

pub returns-in_ok-same_in-in-Yes : goal.returns-in_ok-same_in-in-Yes
returns-in_ok-same_in-in-Yes c = λ vars said others left right.
    let found = rw c.in-Yes.is at (c.in_ok-compared_within.ensures vars said others left right) in
    let compared = found.0 in (
      (
        (compared.0, inl (refl, c.in_ok-same_in-in-Yes.ensures, compared.1)),
        same_few c.args.bounds.clauses (said, others) compared.1,
      ),
      found.1,
    )

pub returns-in_ok-difference_within-in-No : goal.returns-in_ok-difference_within-in-No
returns-in_ok-difference_within-in-No c = λ vars said others left right.
    let name = c.in-No.package in
    let nodes = c.compared_within.new.interner.nodes in
    let diagram = diagram_of nodes c.in-No.tree in
    let found = rw c.in-No.is at (c.in_ok-compared_within.ensures vars said others left right) in
    let compared = found.0 in
    let shown = c.in_ok-difference_within-in-No.ensures in
    let told : IsToldDifference (said, others) name diagram = record {
      nodes = nodes;
      tree = c.in-No.tree;
      difference = compared.1;
      canonical = shown.canonical;
      short = shown.short;
      means = λ v. refl;
    } in (
      (
        (compared.0, inr (refl, (name, diagram, told, shown.told.0))),
        told_few c.args.bounds.clauses (said, others) name diagram told shown.told.1,
      ),
      found.1,
    )
