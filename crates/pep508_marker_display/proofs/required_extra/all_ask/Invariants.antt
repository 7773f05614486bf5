use Rattle.std.proofs.Common.{◌≡◌, drop}
use Rattle.std.specs.List.{list_all}
use Rattle.pep508_marker.specs.Values.{extra_of}
use Rattle.pep508_clauses.specs.Terms.{clauses_shown}
use Rattle.pep508_marker_display.specs.TopExtra.{asks_first}
use Rattle.pep508_marker_display.proofs.required_extra.all_ask.Given as goal

abbrev pub invariant-loop-clause : goal.invariant-loop-clause
invariant-loop-clause l =
    list_all (asks_first (extra_of l.extra)) (clauses_shown (drop l.clause-index l.clauses))
    ≡ list_all (asks_first (extra_of l.extra)) (clauses_shown l.clauses)
