use Rattle.std.proofs.Common.{◌∙◌, ◌+◌, ◌≤◌, length, map, refl, ap, sym, subst}
use Rattle.std.specs.List.{AllByRecursion}
use Rattle.pep508_cases.specs.Marked.{united}
use Rattle.pep508_cases.proofs.Marking.{marked_joined, rooted_joined, short_joined}
use Rattle.pep508_cases.proofs.set_diagram.joined.Goals as goal

pub returns-clause-marked : goal.returns-clause-marked
returns-clause-marked c = λ xs ys left right.
    let nodes = c.args.interner.now.nodes in
    let are = rw c.in-Some.is at c.in_ok-merged.ensures in (
      marked_joined nodes c.args.a.now c.args.b.now _ c.in-Some.merged xs ys are refl
          (c.in_ok-sets.ensures ∙ ap (map (united c.args.a.now.sets.items c.args.b.now.sets.items)) c.deref.ensures.value)
          left right,
      rooted_joined nodes c.args.a.now c.args.b.now
          (record {
            diagram = c.in-Some.merged.diagram;
            sets = c.in_ok-sets.sets;
            count = c.args.a.now.count + c.args.b.now.count;
          }) c.in-Some.merged are refl,
    )

pub returns-clause-short : goal.returns-clause-short
returns-clause-short c =
    let a = c.args.a.now in
    let b = c.args.b.now in
    subst (AllByRecursion (λ set. length set ≤ a.count + b.count)) (sym c.in_ok-sets.ensures)
    (short_joined a b c.requires.first c.requires.second c.deref.result.now)
