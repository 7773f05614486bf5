-- How simplifying a marker changes its value, by points of `python_full_version` and by valuations.
use Rattle.std.specs.Prelude.{◌≡◌, ℕ, Bool, true, false, ◌||◌, List}
use Rattle.std.specs.declared.cmp.Ordering.TheVariants.{Less}
use Rattle.std.specs.declared.ops.Bound.{Bound}
use Rattle.std.specs.List.{list_any}
use Rattle.version_ranges.specs.Bounds.{is_within}
use Rattle.version_ranges.specs.Point.{Point, point_cmp}
use Rattle.version_ranges.specs.Turns.{reaches}
use Rattle.pep440_text.specs.Record.{VersionRecord}
use Rattle.pep440_version.specs.Order.{version_cmp}
use Rattle.pep440_range.specs.Ranges.{PointTest}
use Rattle.pep508_name.specs.Name.{name_eq}
use Rattle.pep508_diagram.specs.declared.variable.VersionVariable.TheVariants.{ImplementationVersion}
use Rattle.pep508_diagram.specs.declared.variable.VersionVariable.TheVariants.{PythonFullVersion}
use Rattle.pep508_diagram.specs.declared.variable.Flag.{Flag}
use Rattle.pep508_diagram.specs.declared.variable.Flag.TheVariants.{In, Contains, Extra, Arbitrary}
use Rattle.pep508_diagram.specs.Question.{Valuation, with_version}

-- ---- extras

-- an extra of this name is listed
abbrev pub is_listed : List (List ℕ) → List ℕ → Bool
is_listed extras name = list_any (λ extra. name_eq extra name) extras

-- the flag is an extra of a name for which the test returns true
abbrev pub is_named : (List ℕ → Bool) → Flag → Bool
is_named says (In key text) = false
is_named says (Contains key text) = false
is_named says (Extra name) = says name
is_named says (Arbitrary text) = false

-- the valuation with the named extras present
abbrev pub with_named : (List ℕ → Bool) → Valuation → Valuation
with_named says v = record v { flag = λ flag. is_named says flag || v.flag flag }

-- ---- versions of Python

-- the points between two bounds
abbrev pub between : Bound VersionRecord → Bound VersionRecord → PointTest
between lower upper p = is_within version_cmp (lower, upper) p

-- the valuation with `python_full_version` at a point
abbrev pub with_python : Valuation → Point VersionRecord → Valuation
with_python v p = with_version v PythonFullVersion p

-- the first point comes at the second or before it
abbrev pub IsUpTo : Point VersionRecord → Point VersionRecord → Type 0
IsUpTo p q = reaches (point_cmp version_cmp) p q ≡ true

-- the truth is the value at the range's least point
pub record IsAtLeast (range value : PointTest) (truth : Bool) : Type 0 where
  pub least : Point VersionRecord
  pub inside : range least ≡ true
  pub before : (q : Point VersionRecord) → range q ≡ true → IsUpTo least q
  pub truth_is : truth ≡ value least

-- the truth is the value that all points of the range have from some point on
pub record IsTowardsEnd (range value : PointTest) (truth : Bool) : Type 0 where
  pub from : Point VersionRecord
  pub inside : range from ≡ true
  pub truth_is : (q : Point VersionRecord) → range q ≡ true → IsUpTo from q → truth ≡ value q

-- inside the range the value is unchanged; below it, it is that at the range's least point; above it, that
-- towards the range's end
pub record IsNarrowed (range before after : PointTest) : Type 0 where
  pub inside : (p : Point VersionRecord) → range p ≡ true → after p ≡ before p
  pub below : (p : Point VersionRecord) →
      ((q : Point VersionRecord) → range q ≡ true → point_cmp version_cmp p q ≡ Less) →
      IsAtLeast range before (after p)
  pub above : (p : Point VersionRecord) →
      ((q : Point VersionRecord) → range q ≡ true → point_cmp version_cmp q p ≡ Less) →
      IsTowardsEnd range before (after p)

-- with `implementation_version` at a point the value is the same for all versions of Python
abbrev pub IsFree : (Valuation → Bool) → Point VersionRecord → Type 0
IsFree value i = (w : Valuation) → w.version ImplementationVersion ≡ i → (p : Point VersionRecord) →
    value (with_python w p) ≡ value w

-- a value that depends on the version of Python once `implementation_version` is fixed becomes false; another
-- one is unchanged
pub record IsEmptied (before : Valuation → Bool) (v : Valuation) (after : Bool) : Type 0 where
  pub free : IsFree before (v.version ImplementationVersion) → after ≡ before v
  pub bound : (IsFree before (v.version ImplementationVersion) → ⊥) → after ≡ false

-- a value is simplified to a range of versions of Python, which holds some point or none
pub record IsSimplified (range : PointTest) (before after : Valuation → Bool) : Type 0 where
  pub somewhere : (q : Point VersionRecord) → range q ≡ true → (v : Valuation) →
      IsNarrowed range (λ p. before (with_python v p)) (λ p. after (with_python v p))
  pub nowhere : ((q : Point VersionRecord) → range q ≡ false) → (v : Valuation) → IsEmptied before v (after v)
