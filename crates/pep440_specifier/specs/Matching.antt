-- Which versions a specifier accepts: one equation for each operator (PEP 440, "Version specifiers").
use Rattle.std.specs.Prelude.{ℕ, ◌-◌, ◌==◌, ◌&&◌, not, Bool, true, List, [], ◌∷◌, length, take}
use Rattle.std.specs.Option.{is_some}
use Rattle.std.specs.declared.cmp.Ordering.{Ordering}
use Rattle.std.specs.Ordering.{is_eq, is_lt, is_le, is_gt, is_ge, nat_cmp}
use Rattle.std.specs.Cmp.Lexicographic.{slice_cmp}
use Rattle.std.specs.Str.{bytes_eq}
use Rattle.pep440_version.specs.Record.{Segment, VersionRecord, without_local}
use Rattle.pep440_version.specs.Changes.{is_prerelease}
use Rattle.pep440_version.specs.Order.{stripped, version_cmp}
use Rattle.pep440_version.specs.Print.{version_text}
use Rattle.pep440_operator.specs.declared.operator.Operator.{Operator}
use Rattle.pep440_operator.specs.declared.operator.Operator.TheVariants.{Equal, EqualStar, ExactEqual}
use Rattle.pep440_operator.specs.declared.operator.Operator.TheVariants.{NotEqual, NotEqualStar, TildeEqual}
use Rattle.pep440_operator.specs.declared.operator.Operator.TheVariants.{LessThan, LessThanEqual}
use Rattle.pep440_operator.specs.declared.operator.Operator.TheVariants.{GreaterThan, GreaterThanEqual}

-- an operator and the version that it compares with
pub record SpecifierRecord : Type 0 where
  pub operator : Operator
  pub version : VersionRecord

-- a candidate, without its local part unless the specifier's version has one (PEP 440, "Version matching")
abbrev pub seen_beside : List Segment → VersionRecord → VersionRecord
seen_beside [] candidate = without_local candidate
seen_beside (segment ∷ segments) candidate = candidate

-- the order of a candidate and the specifier's version
abbrev pub candidate_cmp : VersionRecord → VersionRecord → Ordering
candidate_cmp version candidate = version_cmp (seen_beside version.local candidate) version

-- whether the numbers, padded with zeros, begin with the given ones (PEP 440, "Version matching")
abbrev pub begins_padded : List ℕ → List ℕ → Bool
begins_padded [] numbers = true
begins_padded (wanted ∷ others) [] = wanted == 0 && begins_padded others []
begins_padded (wanted ∷ others) (number ∷ numbers) = wanted == number && begins_padded others numbers

-- whether a candidate has the epoch and begins with the release numbers
abbrev pub has_front : ℕ → List ℕ → VersionRecord → Bool
has_front epoch numbers candidate = candidate.epoch == epoch && begins_padded numbers candidate.release

-- the release numbers but the last (PEP 440, "Compatible release")
abbrev pub without_last : List ℕ → List ℕ
without_last numbers = take (length numbers - 1) numbers

-- whether epoch and release are those of the other, up to zeros at the end
abbrev pub same_release : VersionRecord → VersionRecord → Bool
same_release version candidate =
    version.epoch == candidate.epoch
    && is_eq (slice_cmp nat_cmp (stripped version.release) (stripped candidate.release))

-- whether the specifier of an operator and a version accepts a candidate
abbrev pub matches : Operator → VersionRecord → VersionRecord → Bool
matches Equal version candidate = is_eq (candidate_cmp version candidate)
matches EqualStar version candidate = has_front version.epoch version.release candidate
matches ExactEqual version candidate = bytes_eq (version_text candidate) (version_text version)
matches NotEqual version candidate = not (is_eq (candidate_cmp version candidate))
matches NotEqualStar version candidate = not (has_front version.epoch version.release candidate)
matches TildeEqual version candidate =
    has_front version.epoch (without_last version.release) candidate
    && is_ge (candidate_cmp version candidate)
matches LessThan version candidate =
    is_lt (candidate_cmp version candidate)
    && not (same_release version candidate && (is_prerelease candidate && not (is_prerelease version)))
matches LessThanEqual version candidate = is_le (candidate_cmp version candidate)
matches GreaterThan version candidate =
    is_gt (candidate_cmp version candidate)
    && not (same_release version candidate && (is_some candidate.post && not (is_some version.post)))
matches GreaterThanEqual version candidate = is_ge (candidate_cmp version candidate)

-- whether a specifier accepts a candidate
abbrev pub takes : VersionRecord → SpecifierRecord → Bool
takes candidate specifier = matches specifier.operator specifier.version candidate
