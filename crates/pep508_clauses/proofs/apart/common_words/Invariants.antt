use Rattle.std.proofs.Common.{◌≡◌, ℕ, true, take}
use Rattle.std.specs.List.{list_any}
use Rattle.pep508_clauses.specs.Apart.{begins, BeginApart}
use Rattle.pep508_clauses.specs.Sparing.{has}
use Rattle.pep508_clauses.proofs.apart.common_words.Given as goal

abbrev pub invariant-loop-clause : goal.invariant-loop-clause
invariant-loop-clause g l =
    BeginApart g.T.Term.literal (has l.common.keys) (take l.clause-index l.clauses)
    × ((word : ℕ) → list_any (begins g.T.Term.literal word) (take l.clause-index l.clauses) ≡ true →
    has l.seen.keys word ≡ true)
