use Rattle.std.proofs.Common.{◌≡◌, [], ◌++◌, length, IfSome}
use Rattle.std.specs.Prelude.{reverse}
use Rattle.pep508_marker_text_laws.specs.Simplified.{sifted, is_covered}
use Rattle.pep508_clauses.specs.Apart.{BeginApart}
use Rattle.pep508_clauses.specs.Sparing.{has}
use Rattle.pep508_clauses.proofs.simplify.uncovered.Given as goal

abbrev pub invariant-loop-clause : goal.invariant-loop-clause
invariant-loop-clause g l =
    (sifted (is_covered g.T.Term.same g.T.Term.opposite) [] l.fn.clauses.items
    ≡ sifted (is_covered g.T.Term.same g.T.Term.opposite) l.kept.items (reverse l.later.items))
    × IfSome l.common (λ words.
    BeginApart g.T.Term.literal (has words.keys) (l.kept.items ++ reverse l.later.items))

abbrev pub decreases-loop-clause : goal.decreases-loop-clause
decreases-loop-clause g l = length l.later.items
