use Rattle.std.proofs.Common.{◌≡◌, ◌++◌, take}
use Rattle.pep508_clauses.specs.Sparing.{has, candidates_of}
use Rattle.pep508_clauses.proofs.simplify.add_candidates.Given as goal

abbrev pub invariant-loop-other : goal.invariant-loop-other
invariant-loop-other g l =
    l.candidates.items
    ≡ l.fn.candidates.items
    ++ candidates_of g.T.Term.literal (has l.words.keys) g.T.Term.word l.clause (take l.other-index l.others)
