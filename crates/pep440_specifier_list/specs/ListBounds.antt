-- The specifiers of intervals that follow one another.
use Rattle.std.specs.Prelude.{List, [], ◌∷◌, ◌++◌, if◌then◌else◌, Option, Some, None, option_to_list}
use Rattle.std.specs.declared.ops.Bound.{Bound}
use Rattle.std.specs.declared.ops.Bound.TheVariants.{Included, Excluded}
use Rattle.version_ranges.specs.Bounds.{last_upper}
use Rattle.pep440_version.specs.Record.{VersionRecord}
use Rattle.pep440_version.specs.Order.{version_eq}
use Rattle.pep440_operator.specs.declared.operator.Operator.TheVariants.{NotEqual, NotEqualStar}
use Rattle.pep440_specifier.specs.Matching.{SpecifierRecord}
use Rattle.pep440_specifier.specs.Bounds.{IsReleaseBound, is_next_minor, interval_specifiers}

-- from a lower bound to an upper one
abbrev pub Interval : Type 0
Interval = Bound VersionRecord × Bound VersionRecord

-- intervals whose bounds are versions of epoch 0 and a release alone
abbrev pub AreReleaseIntervals : List Interval → Type 0
AreReleaseIntervals [] = Unit {0}
AreReleaseIntervals (next ∷ later) =
    IsReleaseBound next.0 × IsReleaseBound next.1 × AreReleaseIntervals later

-- what is left out between an interval's upper bound and the next one's lower bound: `!=v` between below `v`
-- and above `v`, `!=a.b.*` between below `a.b` and from `a.(b+1)`
abbrev pub gap_specifier : Bound VersionRecord → Bound VersionRecord → Option SpecifierRecord
gap_specifier (Excluded upper) (Excluded lower) =
    if version_eq upper lower then Some (record { operator = NotEqual; version = upper }) else None
gap_specifier (Excluded upper) (Included lower) =
    if is_next_minor upper lower then Some (record { operator = NotEqualStar; version = upper }) else None
gap_specifier upper lower = None

-- the specifiers of all gaps after an upper bound
abbrev pub gap_specifiers : Bound VersionRecord → List Interval → List SpecifierRecord
gap_specifiers upper [] = []
gap_specifiers upper (next ∷ later) =
    option_to_list (gap_specifier upper next.0) ++ gap_specifiers next.1 later

-- the specifiers of the gaps, and then those of the outer bounds
abbrev pub list_specifiers : List Interval → List SpecifierRecord
list_specifiers [] = []
list_specifiers (first ∷ later) =
    gap_specifiers first.1 later ++ interval_specifiers first.0 (last_upper first.1 later)
