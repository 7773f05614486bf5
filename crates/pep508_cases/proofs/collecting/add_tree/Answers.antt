use Rattle.std.proofs.Common.{◌≡◌, ◌∙◌, Some, cond, is_eq, ap, sym, true≢false}
use Rattle.std.specs.BTreeMap.{get}
use Rattle.pep508_tree.proofs.Conjoining.{extends_itself}
use Rattle.pep508_cases.specs.Cases.{Marks, marks_cmp}
use Rattle.pep508_cases.specs.Marked.{set_at}
use Rattle.pep508_cases.proofs.SetTrees.{added_none, first_tree, renamed, twice, tree_before, alone, added, added_made}
use Rattle.pep508_cases.proofs.collecting.add_tree.Goals.{In_ok-insert}
use Rattle.pep508_cases.proofs.collecting.add_tree.Goals as goal

pub returns-then-is_false-clause-truth : goal.returns-then-is_false-clause-truth
returns-then-is_false-clause-truth c = λ q v.
    added_none c.args.interner.now.nodes c.args.found.now (set_at c.args.sets.now c.args.leaf) q c.args.tree v
    (c.is_false.ensures.0 c.if-is_false.true)

pub returns-in_default-clause-truth : goal.returns-in_default-clause-truth
returns-in_default-clause-truth c =
    let old = c.args.interner.now.nodes in
    let found = c.args.found.now in
    let set = set_at c.args.sets.now c.args.leaf in
    let none = sym c.in_default.is ∙ c.in_ok-other.ensures.old ∙ ap (get marks_cmp found) c.in_ok-set.ensures in
    added old old (extends_itself old) found c.requires.found set c.args.tree c.args.tree
    (λ v. first_tree old found set c.args.tree v none) c.insert.new.self
    (renamed found c.insert.new.self c.in_ok-set.set set c.args.tree c.in_ok-set.ensures
    c.in_ok-other.ensures.updates)

pub returns-then-is_false-2-clause-truth : goal.returns-then-is_false-2-clause-truth
returns-then-is_false-2-clause-truth c =
    let old = c.args.interner.now.nodes in
    let new = c.either.new.interner.nodes in
    let found = c.args.found.now in
    let set = set_at c.args.sets.now c.args.leaf in
    let keeps = c.in_ok-both.ensures.keeps in
    added old new keeps found c.requires.found set c.args.tree c.args.tree
    (alone old new keeps found c.requires.found set c.args.tree c.in_ok-both.both (tree_before old new found c.in_ok-set.set set c.in-Some.other c.args.tree c.in_ok-both.both
    c.in_ok-other.field-0 c.in_ok-set.ensures c.in-Some.is c.in_ok-other.ensures.old c.in_ok-both.ensures.truth)
    c.requires.tree
    (c.is_false-2.ensures.0 c.if-is_false-2.true)) c.insert.new.self
    (renamed found c.insert.new.self c.in_ok-set.set set c.args.tree c.in_ok-set.ensures
    c.in_ok-other.ensures.updates)

updated : (c : In_ok-insert) → (q : Marks) → get marks_cmp c.insert-2.new.self q
    ≡ cond (is_eq (marks_cmp (set_at c.args.sets.now c.args.leaf) q)) (Some c.in_ok-both.both)
    (get marks_cmp c.args.found.now q)
updated c q =
    let found = c.args.found.now in
    let set = set_at c.args.sets.now c.args.leaf in
    let both = c.in_ok-both.both in
    let t = is_eq (marks_cmp set q) in
    renamed c.insert.new.self c.insert-2.new.self c.in_ok-again.again set both c.in_ok-again.ensures
    c.in_ok-insert.ensures.updates q
    ∙ ap (cond t (Some both)) (renamed found c.insert.new.self c.in_ok-set.set set c.args.tree c.in_ok-set.ensures
    c.in_ok-other.ensures.updates q)
    ∙ twice t c.args.tree both (get marks_cmp found q)

pub returns-clause-made : goal.returns-clause-made
returns-clause-made c =
    let old = c.args.interner.now.nodes in
    let new = c.either.new.interner.nodes in
    let found = c.args.found.now in
    let set = set_at c.args.sets.now c.args.leaf in
    added_made old new c.in_ok-both.ensures.keeps found c.requires.found set c.args.tree c.in_ok-both.both
    (tree_before old new found c.in_ok-set.set set c.in-Some.other c.args.tree c.in_ok-both.both
    c.in_ok-other.field-0 c.in_ok-set.ensures c.in-Some.is c.in_ok-other.ensures.old c.in_ok-both.ensures.truth) c.insert-2.new.self
    (updated c) c.in_ok-both.ensures.made
    (λ e. true≢false (sym (c.is_false-2.ensures.1 e) ∙ c.if-is_false-2.false))

pub returns-clause-truth : goal.returns-clause-truth
returns-clause-truth c =
    let old = c.args.interner.now.nodes in
    let new = c.either.new.interner.nodes in
    let found = c.args.found.now in
    let set = set_at c.args.sets.now c.args.leaf in
    added old new c.in_ok-both.ensures.keeps found c.requires.found set c.args.tree c.in_ok-both.both
    (tree_before old new found c.in_ok-set.set set c.in-Some.other c.args.tree c.in_ok-both.both
    c.in_ok-other.field-0 c.in_ok-set.ensures c.in-Some.is c.in_ok-other.ensures.old c.in_ok-both.ensures.truth) c.insert-2.new.self
    (updated c)
