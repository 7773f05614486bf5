use Rattle.std.proofs.Common.{arith}
use Rattle.pep508_comparison.specs.Comparisons.{listed_minors}
use Rattle.pep508_comparison.proofs.Unions.{any_of, any_given, all_minors}
use Rattle.pep508_comparison.proofs.lists.python_listed_range.Goals as goal

pub returns : goal.returns
returns c =
    let minors = listed_minors c.args.versions.now in
    all_minors c.args.negated c.args.versions.now c.negated.result
    (grind (arith, c.are_minors.ensures, c.if-not-are_minors.false))
    (c.negated.ensures (any_of minors) (any_given minors c.minors_range.result c.minors_range.ensures))
