-- Where a list's test stops for lack of memory.
use Rattle.std.specs.Prelude.{◌≡◌, ℕ, ◌+◌, List, ◌∷◌, ◌++◌, length, All, IsTrue}
use Rattle.pep440_version.specs.Record.{VersionRecord}
use Rattle.pep440_operator.specs.declared.operator.Operator.TheVariants.{ExactEqual}
use Rattle.pep440_specifier.specs.Matching.{SpecifierRecord, takes}

-- the last of the `count` members that are tested is one of `===`, which alone takes memory, and those
-- before it accept the candidate
pub record IsRefusal (members : List SpecifierRecord) (candidate : VersionRecord) (count : ℕ) : Type 0 where
  pub before : List SpecifierRecord
  pub member : SpecifierRecord
  pub after : List SpecifierRecord
  pub split : members ≡ before ++ (member ∷ after)
  pub counts : count ≡ length before + 1
  pub take_it : All (λ s. IsTrue (takes candidate s)) before
  pub exact : member.operator ≡ ExactEqual
