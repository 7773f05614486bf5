use Rattle.std.proofs.Common.{◌<◌, ℕ, All, IfSome, filter, map, option_map, take}
use Rattle.reqtable_answer.specs.Admission.{Admits, AnswersBy}
use Rattle.reqtable_answer.specs.Answer.{by_version}
use Rattle.reqtable_answer.specs.Groups.{passes_by, numbered_seen}
use Rattle.reqtable_answer.proofs.Greatest.{IsBest}
use Rattle.reqtable_answer.proofs.choosing.greatest_by.Given as goal

abbrev pub invariant-loop-candidate : goal.invariant-loop-candidate
invariant-loop-candidate g l = record {
  best : (admits : Admits) → AnswersBy (goal.F-post g l.admission) admits →
      IsBest by_version (filter (passes_by admits l.asks l.prerelease) (map numbered_seen (take l.candidate-index l.candidates))) (option_map numbered_seen l.best);
  below : (count : ℕ) → All (λ c. c.place < count) l.candidates → IfSome l.best (λ found. found.place < count);
}
