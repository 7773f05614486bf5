-- The results of an admission test.
use Rattle.std.specs.Prelude.{◌≡◌, Bool}
use Rattle.std.specs.Borrow.{Bor}
use Rattle.pep440_version.specs.Record.{VersionRecord}

-- whether a version may be selected, by the version and by whether some specifier names a pre-release or
-- developmental release
abbrev pub Admits : Type 0
Admits = VersionRecord → Bool → Bool

-- a closure with these results computes this test
abbrev pub AnswersBy : (Bor VersionRecord → Bool → Bool → Type 0) → Admits → Type 0
AnswersBy returns admits =
    (version : Bor VersionRecord) (named answer : Bool) → returns version named answer
    → answer ≡ admits version.now named

-- the closure's result depends only on the version's record and the flag
abbrev pub IsLawful : (Bor VersionRecord → Bool → Bool → Type 0) → Type 0
IsLawful returns = (admits : Admits) × AnswersBy returns admits
