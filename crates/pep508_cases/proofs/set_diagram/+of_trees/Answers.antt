use Rattle.std.proofs.Common.{◌≡◌, ◌∙◌, ◌++◌, ◌/◌, [], length, sym, subst, arith}
use Rattle.std.proofs.lemmas.List.{take-append-drop}
use Rattle.std.proofs.lemmas.Bool.Decides.{nat_tests}
use Rattle.pep508_cases.specs.Marked.{IsMarked}
use Rattle.pep508_cases.proofs.Marking.{none_is}
use Rattle.pep508_cases.proofs.set_diagram.+of_trees.Goals as goal

pub returns-then-is_empty-clause-marked : goal.returns-then-is_empty-clause-marked
returns-then-is_empty-clause-marked t c =
    let nodes = c.args.interner.now.nodes in
    let trees = c.args.trees.now in
    let none : trees ≡ [] = none_is trees (grind (arith, nat_tests, c.is_empty.ensures, c.if-is_empty.true)) in
    subst (λ ts. IsMarked nodes ts c.in_ok-none.none) (sym none) (c.in_ok-none.ensures.marked nodes).0

pub returns-clause-marked : goal.returns-clause-marked
returns-clause-marked t c =
    let nodes = c.args.interner.now.nodes in
    let trees = c.args.trees.now in
    let front = c.split_at.result.0.now in
    let back = c.split_at.result.1.now in
    let first = rw c.in-Some.is at c.in_ok-first.ensures.marked in
    let second = rw c.in-Some-2.is at c.in_ok-second.ensures.marked in
    let both = rw c.in-Some-3.is at c.in_ok-all.ensures.marked in
    let whole : (front ++ back) ≡ trees =
    (λ i. c.split_at.ensures.front i ++ c.split_at.ensures.back i) ∙ take-append-drop (length trees / 2) trees in
    subst (λ ts. IsMarked nodes ts c.in-Some-3.all) whole (both front back first second).0
