use Rattle.pep508_tree.specs.Nodes.{node_place}
use Rattle.pep508_leaf_diagram.specs.Forms.{record_of, form_record}
use Rattle.pep508_leaf_diagram.proofs.Splitting.{split_first, split_second, split_joined}
use Rattle.pep508_leaf_diagram.proofs.diagram_pairs.split.Goals as goal

pub returns-in_ok-pairs-in-None-Some : goal.returns-in_ok-pairs-in-None-Some
returns-in_ok-pairs-in-None-Some c =
    let none = rw c.in-None-Some.is-0 at c.in_ok-form.ensures in
    let some = rw c.in-None-Some.is-1 at c.in_ok-other.ensures in
    let m = form_record c.in-None-Some.other in
    split_second c.args.interner.now.nodes c.args.a.now c.args.b.now c.args.first c.args.second m
    (record_of c.in_ok-pairs-in-None-Some.pairs) some c.requires.first (none (node_place m))
    (rw c.form.ensures at c.in_ok-pairs-in-None-Some.ensures)

pub returns-in_ok-pairs-in-Some-None : goal.returns-in_ok-pairs-in-Some-None
returns-in_ok-pairs-in-Some-None c =
    let some = rw c.in-Some-None.is-0 at c.in_ok-form.ensures in
    let none = rw c.in-Some-None.is-1 at c.in_ok-other.ensures in
    let n = form_record c.in-Some-None.form in
    split_first c.args.interner.now.nodes c.args.a.now c.args.b.now c.args.first c.args.second n
    (record_of c.in_ok-pairs-in-Some-None.pairs) some c.requires.second (none (node_place n))
    (rw c.form-in-Some-None.ensures at c.in_ok-pairs-in-Some-None.ensures)

pub returns-in_ok-pairs-in-Some-Some : goal.returns-in_ok-pairs-in-Some-Some
returns-in_ok-pairs-in-Some-Some c =
    let some = rw c.in-Some-Some.is-0 at c.in_ok-form.ensures in
    let other = rw c.in-Some-Some.is-1 at c.in_ok-other.ensures in
    split_joined c.args.interner.now.nodes c.args.a.now c.args.b.now c.args.first c.args.second
    (form_record c.in-Some-Some.form) (form_record c.in-Some-Some.other)
    (record_of c.in_ok-pairs-in-Some-Some.pairs) some other c.requires.first c.requires.second
    (rw (c.form-in-Some-Some.ensures, c.form-in-Some-Some-2.ensures) at c.in_ok-pairs-in-Some-Some.ensures)
