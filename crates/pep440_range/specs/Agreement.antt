-- Where ranges and matching agree.
use Rattle.std.specs.Prelude.{◌≡◌, ◌⊎◌, Bool, true, false, None, is_none, []}
use Rattle.pep440_version.specs.Record.{VersionRecord}
use Rattle.pep440_operator.specs.declared.operator.Operator.{Operator}
use Rattle.pep440_operator.specs.declared.operator.Operator.TheVariants.{Equal, EqualStar, ExactEqual}
use Rattle.pep440_operator.specs.declared.operator.Operator.TheVariants.{NotEqual, NotEqualStar, TildeEqual}
use Rattle.pep440_operator.specs.declared.operator.Operator.TheVariants.{LessThan, LessThanEqual}
use Rattle.pep440_operator.specs.declared.operator.Operator.TheVariants.{GreaterThan, GreaterThanEqual}
use Rattle.pep440_specifier.specs.Building.{IsBuilt}
use Rattle.pep440_specifier.specs.Matching.{SpecifierRecord, same_release}

-- a version as texts say it, without marks as the end of a range
pub record IsSaid (version : VersionRecord) : Type 0 where
  pub no_least : version.least ≡ None
  pub no_most : version.most ≡ None

-- epoch and release alone, but for a local part (PEP 440, "Final releases")
pub record IsFinal (version : VersionRecord) : Type 0 where
  pub no_pre : version.pre ≡ None
  pub no_post : version.post ≡ None
  pub no_dev : version.dev ≡ None

-- two versions of different epochs or releases, or of which neither is a post-release
abbrev pub AreApart : VersionRecord → VersionRecord → Type 0
AreApart version candidate =
    (same_release version candidate ≡ false) ⊎ ((version.post ≡ None) × (candidate.post ≡ None))

-- where an operator's range holds just the versions that it accepts: nowhere for `===`, which compares
-- prints; for `<` of a post-release not at versions of its own release; for `>` not at post-releases of one
-- release, unless the version is a final one
abbrev pub Agrees : Operator → VersionRecord → VersionRecord → Type 0
Agrees Equal version candidate = Unit {0}
Agrees EqualStar version candidate = Unit {0}
Agrees ExactEqual version candidate = ⊥
Agrees NotEqual version candidate = Unit {0}
Agrees NotEqualStar version candidate = Unit {0}
Agrees TildeEqual version candidate = Unit {0}
Agrees LessThan version candidate = (same_release version candidate ≡ false) ⊎ (version.post ≡ None)
Agrees LessThanEqual version candidate = Unit {0}
Agrees GreaterThan version candidate = AreApart version candidate ⊎ IsFinal version
Agrees GreaterThanEqual version candidate = Unit {0}

-- where this is so for each candidate that is not a post-release: not for `===`, nor for `<` and `>` of a
-- post-release
abbrev pub agrees_beside_posts : Operator → VersionRecord → Bool
agrees_beside_posts ExactEqual version = false
agrees_beside_posts LessThan version = is_none version.post
agrees_beside_posts GreaterThan version = is_none version.post
agrees_beside_posts Equal version = true
agrees_beside_posts EqualStar version = true
agrees_beside_posts NotEqual version = true
agrees_beside_posts NotEqualStar version = true
agrees_beside_posts TildeEqual version = true
agrees_beside_posts LessThanEqual version = true
agrees_beside_posts GreaterThanEqual version = true

-- where this is so for each candidate: not for `===`, nor for `<` of a post-release, nor for `>` of
-- anything but a final release
abbrev pub AgreesEverywhere : Operator → VersionRecord → Type 0
AgreesEverywhere Equal version = Unit {0}
AgreesEverywhere EqualStar version = Unit {0}
AgreesEverywhere ExactEqual version = ⊥
AgreesEverywhere NotEqual version = Unit {0}
AgreesEverywhere NotEqualStar version = Unit {0}
AgreesEverywhere TildeEqual version = Unit {0}
AgreesEverywhere LessThan version = version.post ≡ None
AgreesEverywhere LessThanEqual version = Unit {0}
AgreesEverywhere GreaterThan version = IsFinal version
AgreesEverywhere GreaterThanEqual version = Unit {0}

-- a specifier as texts say it, which agrees with its range at a candidate
pub record IsAgreeing (candidate : VersionRecord) (specifier : SpecifierRecord) : Type 0 where
  pub built : IsBuilt specifier
  pub said : IsSaid specifier.version
  pub agrees : Agrees specifier.operator specifier.version candidate

-- a specifier as texts say it, without `===` and not `<` or `>` of a post-release
pub record IsWithoutPosts (specifier : SpecifierRecord) : Type 0 where
  pub built : IsBuilt specifier
  pub said : IsSaid specifier.version
  pub agrees : agrees_beside_posts specifier.operator specifier.version ≡ true

-- a specifier as texts say it, without a local part, which agrees with its range at each candidate
pub record IsSimple (specifier : SpecifierRecord) : Type 0 where
  pub built : IsBuilt specifier
  pub said : IsSaid specifier.version
  pub no_local : specifier.version.local ≡ []
  pub agrees : AgreesEverywhere specifier.operator specifier.version
