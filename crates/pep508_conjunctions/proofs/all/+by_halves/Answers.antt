use Rattle.std.proofs.Common.{◌∙◌, ◌++◌, ◌/◌, length, arith}
use Rattle.std.proofs.lemmas.List.{take-append-drop}
use Rattle.std.proofs.lemmas.Result.{IfOk-weaker}
use Rattle.pep508_conjunctions.proofs.Sources.{all_kept, all_hold_kept, front_made, back_made, halves_hold}
use Rattle.pep508_conjunctions.proofs.all.+by_halves.Goals as goal

pub by_halves-requires : goal.by_halves-requires
by_halves-requires t c =
    let trees = c.args.trees.now in
    let parts = c.split_at.ensures in (
      omega (arith, parts.front_len, c.if-trees-lt2.false),
      front_made c.of_one_key.new.interner.nodes c.split_at.result.0.now c.split_at.result.1.now trees
          ((λ i. parts.front i ++ parts.back i) ∙ take-append-drop (length trees / 2) trees)
          (all_kept c.args.interner.now.nodes c.of_one_key.new.interner.nodes c.in_ok-tree.ensures.keeps trees c.requires),
    )

pub by_halves-requires-2 : goal.by_halves-requires-2
by_halves-requires-2 t c =
    let trees = c.args.trees.now in
    let parts = c.split_at.ensures in (
      omega (arith, parts.back_len, c.if-trees-lt2.false),
      back_made c.of_one_key.new.interner.nodes c.by_halves.new.interner.nodes c.in_ok-first.ensures.keeps
          c.split_at.result.0.now c.split_at.result.1.now trees
          ((λ i. parts.front i ++ parts.back i) ∙ take-append-drop (length trees / 2) trees)
          (all_kept c.args.interner.now.nodes c.of_one_key.new.interner.nodes c.in_ok-tree.ensures.keeps trees c.requires),
    )

pub returns-clause-truth : goal.returns-clause-truth
returns-clause-truth t c =
    let trees = c.args.trees.now in
    let parts = c.split_at.ensures in
    let nodes = c.of_one_key.new.interner.nodes in
    let more = c.in_ok-tree.ensures.keeps in
    IfOk-weaker c.uncounted_conjunction.result _ _
    (λ tree both v. halves_hold nodes c.by_halves.new.interner.nodes c.by_halves-2.new.interner.nodes
    c.uncounted_conjunction.new.interner.nodes c.in_ok-first.ensures.keeps c.in_ok-second.ensures.keeps c.args.negated
    c.split_at.result.0.now c.split_at.result.1.now trees
    ((λ i. parts.front i ++ parts.back i) ∙ take-append-drop (length trees / 2) trees)
    (all_kept c.args.interner.now.nodes nodes more trees c.requires) c.in_ok-first.first c.in_ok-second.second tree
    c.in_ok-first.ensures.made v (c.in_ok-first.ensures.truth v) (c.in_ok-second.ensures.truth v) (both v)
    ∙ all_hold_kept c.args.interner.now.nodes nodes more c.args.negated trees c.requires v)
    c.uncounted_conjunction.ensures.truth

pub returns-then-are_flags-clause-truth : goal.returns-then-are_flags-clause-truth
returns-then-are_flags-clause-truth t c =
    let nodes = c.of_one_key.new.interner.nodes in
    IfOk-weaker c.from_behind.result _ _
    (λ tree h v.
    h v
    ∙ all_hold_kept c.args.interner.now.nodes nodes c.in_ok-tree.ensures.keeps c.args.negated c.args.trees.now c.requires v)
    c.from_behind.ensures.truth
