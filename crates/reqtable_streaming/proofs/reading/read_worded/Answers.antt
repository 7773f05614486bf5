use Rattle.std.proofs.Common.{◌≡◌, Some, ap}
use Rattle.pep440_version.specs.Reading.{version_of}
use Rattle.reqtable_candidates.specs.CandidateLine.{candidate_by}
use Rattle.reqtable_candidates.specs.Candidates.{at_line}
use Rattle.reqtable_streaming.specs.Packages.{candidate_with}
use Rattle.reqtable_streaming.proofs.reading.read_worded.Goals as goal

pub returns-clause-answered : goal.returns-clause-answered
returns-clause-answered g c =
    let name = c.args.name.now.name.now in
    let read = c.in_ok-version.ensures in
    let is = c.in-Some.is in
    let some : version_of c.args.version.now ≡ Some c.in-Some.version = cc in (
      candidate_with name c.in-Some.version,
      ap (λ version. at_line c.args.number (candidate_by (Some name) version)) some,
      λ admits by. c.in_ok-place.ensures.offered admits by,
    )
