use Rattle.std.proofs.Common.{◌≡◌, ◌∙◌, ◌+◌, ◌++◌, ◌∷◌, [], length, refl, ap, sym, subst, arith}
use Rattle.pep508_tree.specs.Forms.{record_of}
use Rattle.pep508_tree.specs.Nodes.{AreSound, IsSoundNode, IsPlaced, node_at, node_cmp}
use Rattle.pep508_tree.specs.Places.{nodes_of, StandAt}
use Rattle.pep508_tree.proofs.Splitting.{length_nodes}
use Rattle.pep508_tree.proofs.Placing.{stand_answer, stand_same, IsPut, put_in}
use Rattle.pep508_tree.proofs.table.NodeTable.place_of.Goals as goal

pub overflow_add-result : goal.overflow_add-result
overflow_add-result c =
    let items = c.self.inside.nodes.items in
    let found = stand_answer (nodes_of items) c.self.inside.places c.new-key.result _ c.self.invariant.1
    c.in-Some.ensures.value in
    omega (arith, found.0, length_nodes items, c.self.inside.nodes.small, c.self.inside.nodes.ok)

pub returns-in-Some-clause-found : goal.returns-in-Some-clause-found
returns-in-Some-clause-found c =
    let items = c.self.inside.nodes.items in
    let found = stand_answer (nodes_of items) c.self.inside.places c.new-key.result _ c.self.invariant.1
    c.in-Some.ensures.value in
    let is : c.new-key.result ≡ record_of c.args.form =
    c.new-key.ensures ∙ c.in_ok-owner.ensures.cases ∙ c.in_ok-node.ensures.ok ∙ c.new.ensures in
    subst (λ nodes. IsPlaced nodes (record_of c.args.form) (c.in-Some.place.now + 1)) c.self.view_is
    (record {
      index = c.in-Some.place.now;
      place_is = refl;
      inside = found.0;
      same = ap (node_cmp (node_at (nodes_of items) c.in-Some.place.now)) (sym is) ∙ found.1;
      sound = c.self.invariant.0;
    })

pub invariant_of-self : goal.invariant_of-self
invariant_of-self c =
    subst (λ items. AreSound (nodes_of items) × StandAt (nodes_of items) c.self.inside.places)
    (sym c.in_err-reserve.ensures.items) c.self.invariant

pub invariant_of-self-in_err-insert : goal.invariant_of-self-in_err-insert
invariant_of-self-in_err-insert c =
    subst (λ items. AreSound (nodes_of items) × StandAt (nodes_of items) c.insert.new.self)
    (sym c.in_ok-reserve.ensures.items) (
      c.self.invariant.0,
      stand_same (nodes_of c.self.inside.nodes.items) c.self.inside.places
          c.insert.new.self c.in_err-insert.ensures.err c.self.invariant.1,
    )

put : (c : goal.In-Ok) → IsPut c.self.inside.nodes.items c.push.new.self.items c.insert.new.self
    (record_of c.args.form) c.len-place.result
put c =
    let items = c.self.inside.nodes.items in
    put_in items c.push.new.self.items c.self.inside.places c.insert.new.self c.in_ok-node.node
    c.new-key.result
    (record_of c.args.form) c.len-place.result
    (c.in-Ok.ensures.items ∙ ap (λ xs. xs ++ c.in_ok-node.node ∷ []) c.in_ok-reserve.ensures.items)
    (c.in_ok-node.ensures.ok ∙ c.new.ensures)
    (c.new-key.ensures ∙ c.in_ok-owner.ensures.cases)
    (omega (arith, c.len-place.ensures, ap length c.in_ok-reserve.ensures.items))
    c.self.invariant
    (subst (λ nodes. IsSoundNode nodes (length nodes) (record_of c.args.form)) (sym c.self.view_is)
    c.requires)
    c.in_default.ensures.value
    c.in_ok-insert.ensures.updates.0

pub invariant_of-self-2 : goal.invariant_of-self-2
invariant_of-self-2 c = (put c).right

pub returns-clause-found : goal.returns-clause-found
returns-clause-found c = (put c).placed

pub returns-clause-keeps : goal.returns-clause-keeps
returns-clause-keeps c = (
  record_of c.args.form ∷ [],
  (put c).nodes_are
      ∙ ap (λ nodes. nodes ++ record_of c.args.form ∷ []) c.self.view_is,
)
