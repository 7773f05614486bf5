use Rattle.std.proofs.Common.{◌≡◌, ◌∙◌, ◌-◌, ◌<◌, IfSome, Some, ap, sym, subst, not, arith}
use Rattle.pep508_tree.specs.Nodes.{node_at, signed}
use Rattle.pep508_tree.specs.Roots.{shown, IsConstant, IsRoot}
use Rattle.pep508_tree.proofs.Roots.{root_is, constant_is}
use Rattle.pep508_tree.proofs.tree.MarkerTree.node.Goals as goal

pub returns-then-place-eq0-clause-constant : goal.returns-then-place-eq0-clause-constant
returns-then-place-eq0-clause-constant c =
    subst (λ b. IsConstant c.args.interner.now.nodes c.args.self (not b)) (sym c.is_negated.ensures)
    (constant_is c.args.interner.now.nodes c.args.self (sym c.place.ensures ∙ c.if-place-eq0.true))

pub returns-clause-root : goal.returns-clause-root
returns-clause-root c =
    let nodes = c.args.interner.now.nodes in
    let tree = c.args.self in
    let some : 0 < tree.place = omega (arith, c.place.ensures, c.if-place-eq0.false) in
    let shows : shown c.lent.result ≡ Some (signed tree.negated (node_at nodes (tree.place - 1))) =
    c.lent.ensures ∙ ap (λ b. Some (signed b c.node_of.result.now)) c.is_negated-2.ensures
    ∙ ap (λ n. Some (signed tree.negated n)) c.node_of.ensures.found in
    subst (λ o. IfSome o (IsRoot nodes tree)) (sym shows)
    (root_is nodes c.node_of.ensures.sound tree some c.requires)
