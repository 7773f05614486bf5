use Rattle.std.proofs.Common.{◌≡◌, [], length}
use Rattle.std.specs.Prelude.{reverse}
use Rattle.pep508_marker_text_laws.specs.Simplified.{sifted}
use Rattle.pep508_clauses.specs.Sparing.{is_needless_by}
use Rattle.pep508_clauses.proofs.simplify.shorten.Given as goal

abbrev pub invariant-loop-term : goal.invariant-loop-term
invariant-loop-term g l =
    sifted (is_needless_by g.T.Term.same g.T.Term.opposite g.T.Term.negation l.candidates) [] l.fn.terms.items
    ≡ sifted (is_needless_by g.T.Term.same g.T.Term.opposite g.T.Term.negation l.candidates) l.kept.items
    (reverse l.later.items)

abbrev pub decreases-loop-term : goal.decreases-loop-term
decreases-loop-term g l = length l.later.items
