use Rattle.std.proofs.Common.{◌≡◌, ◌∙◌, [], ◌∷◌, ◌++◌, inl, inr, refl, sym, true≢false}
use Rattle.pep508_tree.specs.Meaning.{diagram_of}
use Rattle.pep508_tree.specs.Roots.{root_of}
use Rattle.pep508_marker_display.specs.Counted.{clause_count}
use Rattle.pep508_marker_display.specs.Steps.{root_steps}
use Rattle.pep508_marker_display.proofs.Counting.{none_more, end_made, less_found, one_too_many, count_found}
use Rattle.pep508_marker_display.proofs.Counting.{less_on, count_on}
use Rattle.pep508_marker_display.proofs.clause_count.has_more_clauses.Goals as goal
use Rattle.pep508_marker_display.proofs.clause_count.has_more_clauses.Goals.{then-is_true-via-then-is_true}
use Rattle.pep508_marker_display.proofs.clause_count.has_more_clauses.Goals.{then-is_true-via-else-is_true+then-is_false}

pub returns-then-is_true-clause-more : goal.returns-then-is_true-clause-more
returns-then-is_true-clause-more c =
    none_more c.args.interner.now.nodes c.args.tree c.args.most
    (elim c.then-is_true.branch [
      | then-is_true-via-then-is_true w ↦ inl (c.is_true.ensures.0 w.if-is_true.true)
      | then-is_true-via-else-is_true+then-is_false w ↦ inr (w.is_false.ensures.0 w.if-is_false.true)
    ])

pub returns-then-found-most-clause-more : goal.returns-then-found-most-clause-more
returns-then-found-most-clause-more c =
    let nodes = c.args.interner.now.nodes in
    let is = c.is_clause.ensures.0 c.if-is_clause.true in
    one_too_many nodes (clause_count (diagram_of nodes c.args.tree)) c.args.most c.loop-end.waiting.items
    c.pop.new.self.items c.in-Some.end c.loop-end.found c.loop-end.invariant c.in-Some.ensures.items is.0 is.1
    c.if-found-most.true

pub loop-end-smaller-then-is_clause : goal.loop-end-smaller-then-is_clause
loop-end-smaller-then-is_clause c =
    let nodes = c.args.interner.now.nodes in
    less_found nodes (clause_count (diagram_of nodes c.args.tree)) c.args.most c.loop-end.waiting.items
    c.pop.new.self.items c.in-Some.end c.loop-end.found c.loop-end.invariant c.in-Some.ensures.items

pub loop-end-preserved-then-is_clause : goal.loop-end-preserved-then-is_clause
loop-end-preserved-then-is_clause c =
    let nodes = c.args.interner.now.nodes in
    let is = c.is_clause.ensures.0 c.if-is_clause.true in
    count_found nodes (clause_count (diagram_of nodes c.args.tree)) c.args.most c.loop-end.waiting.items
    c.pop.new.self.items c.in-Some.end c.loop-end.found c.loop-end.invariant c.in-Some.ensures.items is.0 is.1
    c.if-found-most.false

pub add_ends-requires : goal.add_ends-requires
add_ends-requires c =
    let nodes = c.args.interner.now.nodes in
    end_made nodes (clause_count (diagram_of nodes c.args.tree)) c.args.most c.loop-end.waiting.items
    c.pop.new.self.items c.in-Some.end c.loop-end.found c.loop-end.invariant c.in-Some.ensures.items

pub loop-end-smaller : goal.loop-end-smaller
loop-end-smaller c =
    let nodes = c.args.interner.now.nodes in
    less_on nodes (clause_count (diagram_of nodes c.args.tree)) c.args.most c.loop-end.waiting.items
    c.pop.new.self.items c.in-Some.end c.loop-end.found c.loop-end.invariant c.in-Some.ensures.items
    c.are_sound.ensures (root_steps (root_of nodes c.in-Some.end.tree)) refl c.add_ends.new.waiting.items
    c.in_ok-add_ends.ensures

pub loop-end-preserved : goal.loop-end-preserved
loop-end-preserved c =
    let nodes = c.args.interner.now.nodes in
    count_on nodes (clause_count (diagram_of nodes c.args.tree)) c.args.most c.loop-end.waiting.items
    c.pop.new.self.items c.in-Some.end c.loop-end.found c.loop-end.invariant c.in-Some.ensures.items
    c.are_sound.ensures (root_steps (root_of nodes c.in-Some.end.tree)) refl c.add_ends.new.waiting.items
    c.in_ok-add_ends.ensures
    (λ is. true≢false (sym (c.is_clause.ensures.1 is) ∙ c.if-is_clause.false))
