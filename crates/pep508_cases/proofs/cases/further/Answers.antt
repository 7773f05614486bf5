use Rattle.std.proofs.Common.{◌++◌, arith, subst}
use Rattle.pep508_cases.specs.Marked.{IsMarked}
use Rattle.pep508_cases.proofs.cases.further.Goals as goal

pub returns-in-Some : goal.returns-in-Some
returns-in-Some c =
    let nodes = c.args.interner.now.nodes in
    let both = rw c.in-Some.is at c.in_ok-all.ensures.marked in
    let short = rw c.in-Some.is at c.in_ok-all.ensures.short in
    let count = rw c.in-Some.is at c.in_ok-all.ensures.count in
    record {
      some = c.loop-count.invariant.some;
      most = c.loop-count.invariant.inside;
      marked = λ xs m. subst (λ ys. IsMarked nodes (xs ++ ys) c.in-Some.all) c.split_at.ensures.front (both xs m).0;
      rooted = λ xs m. (both xs m).1;
      short = short;
      count_is = omega (arith, count, c.split_at.ensures.front_len);
    }

pub returns-in-Some-2 : goal.returns-in-Some-2
returns-in-Some-2 c =
    let nodes = c.args.interner.now.nodes in
    let both = rw c.in-Some-2.is at c.in_ok-joined_with.ensures.marked in
    let short = rw c.in-Some-2.is at c.in_ok-joined_with.ensures.short in
    let count = rw c.in-Some-2.is at c.in_ok-joined_with.ensures.count in
    record {
      some = omega arith;
      most = omega (arith, c.requires.some);
      marked = λ xs m. subst (λ ys. IsMarked nodes (xs ++ ys) c.in-Some-2.all) c.split_at-2.ensures.front (both xs m).0;
      rooted = λ xs m. (both xs m).1;
      short = short;
      count_is = omega (arith, count, c.split_at-2.ensures.front_len);
    }
