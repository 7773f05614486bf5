use Rattle.std.proofs.Common.{◌≡◌, ap, subst}
use Rattle.std.specs.List.{AllZip}
use Rattle.reqtable_candidates.specs.declared.candidates.Candidate.{Candidate}
use Rattle.reqtable_streaming.specs.Packages.{IsNext, candidate_with}
use Rattle.reqtable_streaming.proofs.reading.read_other.Goals as goal

pub returns-clause-answered : goal.returns-clause-answered
returns-clause-answered g c =
    let read = c.in_ok-name.field-0 in
    let front = c.of_name-front.ensures in
    let name_is = c.in_ok-name.name-is in
    let name : c.of_name-front.result.name.now ≡ read.name = cc in
    let same : candidate_with c.of_name-front.result.name.now read.version ≡ read =
    ap (λ n. candidate_with n read.version) name in (
      read,
      c.in_ok-name.ensures.answered,
      λ admits by.
          let P : Candidate → Type 0 = λ r. AllZip (IsNext admits r) c.args.packages.now.items c.offer_to.new.packages.items in
          subst P same (c.in_ok-place.ensures.offered admits by),
    )
