use Rattle.std.proofs.Common.{◌≡◌, ◌∙◌, ℕ, Bool, List, true, false, cond, [], length, refl, ap, sym, subst, rules}
use Rattle.std.proofs.lemmas.List.{append-nil}
use Rattle.pep508_diagram.specs.declared.variable.Flag.{Flag}
use Rattle.pep508_tree.specs.Meaning.{NodeOf, NodeRecord, Flagged}
use Rattle.pep508_tree.specs.Nodes.{node_place}
use Rattle.pep508_leaf_diagram.specs.declared.child.Child.{Child}
use Rattle.pep508_leaf_diagram.specs.declared.child.Child.TheVariants.{Node}
use Rattle.pep508_leaf_diagram.specs.Forms.{record_of}
use Rattle.pep508_leaf_diagram.specs.Leaves.{IsGraph, IsFit, IsPut, leaf_at}
use Rattle.pep508_leaf_diagram.proofs.Leaves.{put_behind, put_alone, above_before}
use Rattle.pep508_leaf_diagram.proofs.diagram_node.placed.Goals as goal

pub returns-then-is_alone : goal.returns-then-is_alone
returns-then-is_alone c = λ inner leaves graph fit.
    put_alone inner leaves c.args.nodes.now.items (record_of c.args.form) graph fit c.args.nodes.now.items
    c.first.result (c.is_alone.ensures c.if-is_alone.true) refl c.first.ensures

-- either side of a flag where both are one
either_side : (set unset : Child) (b : Bool) → set ≡ unset → cond b set unset ≡ set
either_side set unset true e = refl
either_side set unset false e = sym e

put_side : (inner : List NodeRecord) (leaves : ℕ) (old : List (NodeOf Child)) (flag : Flag) (set unset : Child) →
    set ≡ unset → IsGraph inner leaves old → IsFit inner leaves old (length old) (Flagged flag set unset) →
    IsPut inner leaves old old (Flagged flag set unset) set
put_side inner leaves old flag set unset same graph fit = record {
  graph = graph;
  stands = fit.stands.0;
  above = λ place less. above_before inner leaves (length old) old place (node_place (Flagged flag set unset)) set
      fit.stands.0 less fit.above.0;
  reaches = λ v. ap (λ c. leaf_at inner old c v) (sym (either_side set unset (v.flag flag) same));
  keeps = ([], sym (append-nil old));
}

pub returns-then-eq : goal.returns-then-eq
returns-then-eq c = λ inner leaves graph fit.
    let set = c.in-Flagged.set in
    let unset = c.in-Flagged.unset in
    let same : set ≡ unset = (c.equal_children.ensures set unset).0 (sym c.eq.ensures ∙ c.if-eq.true) in
    let old = c.args.nodes.now.items in
    let is : record_of c.args.form ≡ Flagged c.in-Flagged.field-0 set unset = ap record_of c.in-Flagged.is in
    subst (λ n. IsPut inner leaves old old n set) (sym is)
    (put_side inner leaves old c.in-Flagged.field-0 set unset same graph (subst (IsFit inner leaves old (length old)) is fit))

pub returns : goal.returns
returns c = λ inner leaves graph fit.
    put_behind inner leaves c.args.nodes.now.items (record_of c.args.form) graph fit c.push.new.self.items
    (Node c.len-place.result) (search rules) (search rules)
