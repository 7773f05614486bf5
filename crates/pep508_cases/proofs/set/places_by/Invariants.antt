use Rattle.std.proofs.Common.{◌≡◌, ◌+◌, ◌++◌, length, drop}
use Rattle.pep508_cases.specs.Sets.{marks_by, places_from, places_of}
use Rattle.pep508_cases.proofs.set.places_by.Given as goal

abbrev pub invariant-loop-run : goal.invariant-loop-run
invariant-loop-run l = record {
  places : (l.places.items ++ places_from l.at (marks_by l.mark (drop l.run-index l.runs)))
      ≡ places_of (marks_by l.first l.runs);
  long : l.at + length (marks_by l.mark (drop l.run-index l.runs)) ≡ length (marks_by l.first l.runs);
}
