use Rattle.std.proofs.Common.{◌≡◌, List, ℕ, Option, Some, IfSome, subst}
use Rattle.std.specs.List.{AllZip}
use Rattle.pep440_version.specs.Packing.{packed}
use Rattle.pep440_version.specs.Reading.{version_of}
use Rattle.pep440_version.specs.Record.{VersionRecord}
use Rattle.reqtable_answer.specs.Admission.{Admits}
use Rattle.reqtable_streaming.specs.declared.required.Package.{Package}
use Rattle.reqtable_streaming.specs.Packages.{IsNext, candidate_with}
use Rattle.reqtable_streaming.proofs.LineByLine.{over_read}
use Rattle.reqtable_streaming.proofs.reading.read_plain.Goals as goal

pub returns-then-is_over-clause-answered : goal.returns-then-is_over-clause-answered
returns-then-is_over-clause-answered g c =
    let name = c.args.name.now.name.now in
    let word = c.in-Some.known in
    let Q : List Package → Type 0 = λ l.
    (admits : Admits) (version : VersionRecord) → packed version ≡ Some word → AllZip (IsNext admits (candidate_with name version)) l l in
    let R : Option ℕ → Type 0 = λ o. IfSome o (λ n. (version : VersionRecord) × (version_of c.args.version.now ≡ Some version) × (packed version ≡ Some n)) in
    let read = over_read word c.args.version.now name c.args.number c.args.packages.now.items
    (subst R c.in-Some.is c.requires.packed)
    (subst Q c.deref.ensures.value (c.passes_over-place.ensures c.if-is_over.true)) in (
      read.0,
      read.1,
      λ admits by. read.2 admits,
    )
