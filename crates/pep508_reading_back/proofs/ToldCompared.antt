-- What a comparison of two sides asks, where each text in them is a good one.
use Rattle.std.proofs.Common.{◌≡◌, ℕ, Bool, true, false, ◌&&◌, not, if◌then◌else◌, nat_lt, length, List, []}
use Rattle.std.proofs.Common.{◌∷◌, Option, Some, None, Result, Ok, Err, refl}
use Rattle.std.specs.List.{AllByRecursion, flat_map}
use Rattle.std.specs.Option.{option_and_then}
use Rattle.std.specs.Result.{result_ok}
use Rattle.version_ranges.proofs.Membership.{all_append, all_weaker}
use Rattle.pep440_text.specs.Printable.{IsPrintable}
use Rattle.pep440_text.specs.Reading.{version_of, pattern_of}
use Rattle.pep440_text.specs.Record.{VersionRecord, PatternRecord, release_record}
use Rattle.pep440_text.specs.Text.{IsPatternText}
use Rattle.pep440_text.proofs.Prints.{read_printable}
use Rattle.pep440_text.proofs.Releases.{by_recursion}
use Rattle.pep440_text.proofs.Whole.{pattern_read}
use Rattle.pep440_version.specs.Changes.{has_local}
use Rattle.pep440_operator.specs.declared.operator.Operator.{Operator}
use Rattle.pep440_operator.specs.Operators.{takes_local, is_tilde, starred}
use Rattle.pep440_specifier.specs.Building.{built, built_starred, built_of_pattern}
use Rattle.pep440_specifier.specs.Matching.{SpecifierRecord}
use Rattle.pep440_specifier.specs.declared.build_error.VersionSpecifierBuildError.{VersionSpecifierBuildError}
use Rattle.pep508_name.specs.Name.{name_of}
use Rattle.pep508_name.proofs.Again.{normal_again}
use Rattle.pep508_marker.specs.declared.keys.MarkerValueVersion.{MarkerValueVersion}
use Rattle.pep508_marker.specs.declared.keys.MarkerValueString.{MarkerValueString}
use Rattle.pep508_marker.specs.declared.operators.MarkerOperator.{MarkerOperator}
use Rattle.pep508_marker.specs.declared.operators.MarkerOperator.TheVariants.{Equal, NotEqual, GreaterThan}
use Rattle.pep508_marker.specs.declared.operators.MarkerOperator.TheVariants.{GreaterEqual, LessThan}
use Rattle.pep508_marker.specs.declared.operators.MarkerOperator.TheVariants.{LessEqual, TildeEqual, In}
use Rattle.pep508_marker.specs.declared.operators.MarkerOperator.TheVariants.{NotIn, Contains, NotContains}
use Rattle.pep508_marker.specs.declared.operators.ExtraOperator.{ExtraOperator}
use Rattle.pep508_marker.specs.Expression.{ExpressionRecord}
use Rattle.pep508_marker.specs.Operators.{inverted, specifier_operator, extra_operator}
use Rattle.pep508_marker.specs.Values.{ValueRecord, VersionKey, TextKey, ExtraKey, Quoted}
use Rattle.pep508_comparison_parser.specs.Compared.{Compared, of_specifier, specifier_behind}
use Rattle.pep508_comparison_parser.specs.Compared.{specifier_before, runs_of, with_version, versions_of}
use Rattle.pep508_comparison_parser.specs.Compared.{of_list, version_before, version_behind, text_compared}
use Rattle.pep508_comparison_parser.specs.Compared.{extra_of, of_extra, warned_of_name, extra_compared}
use Rattle.pep508_comparison_parser.specs.Compared.{compared}
use Rattle.pep508_reading_back.specs.Told.{asked_releases, version_questions, release_questions}
use Rattle.pep508_reading_back.specs.Told.{listed_questions, text_questions, questions_of_term, AsksOf}
use Rattle.pep508_reading_back.proofs.Diagrams.{release_printable}
use Rattle.pep508_reading_back.proofs.ToldReleases.{IsSmallRelease, asked_small}

-- ---- lists

pub all_each : {X Y : Type 0} (P : Y → Type 0) (f : X → List Y) (xs : List X) →
    AllByRecursion (λ x. AllByRecursion P (f x)) xs → AllByRecursion P (flat_map f xs)
all_each P f [] all = tt
all_each P f (x ∷ xs) all = all_append P (f x) (flat_map f xs) all.0 (all_each P f xs all.1)

-- what is asked of texts of which this holds
module _ (good : List ℕ → Type 0) where
  -- ---- versions

  version_told : (key : MarkerValueVersion) (version : VersionRecord) → IsPrintable version →
      AllByRecursion (AsksOf good) (version_questions key version)
  version_told key version printable = (printable, (printable, tt))

  release_told : (key : MarkerValueVersion) (numbers : List ℕ) → IsSmallRelease numbers →
      AllByRecursion (AsksOf good) (release_questions key numbers)
  release_told key numbers small =
      all_each (AsksOf good) (λ release. version_questions key (release_record release)) (asked_releases numbers)
      (all_weaker IsSmallRelease
      (λ release. AllByRecursion (AsksOf good) (version_questions key (release_record release)))
      (λ release one. version_told key (release_record release)
      (release_printable release one.small one.some))
      (asked_releases numbers) (asked_small numbers small))

  printable_small : (version : VersionRecord) → IsPrintable version → IsSmallRelease version.release
  printable_small version printable =
      record { some = printable.some_number; small = by_recursion version.release printable.fits.release }

  listed_told : (key : MarkerValueVersion) (version : VersionRecord) → IsPrintable version →
      AllByRecursion (AsksOf good) (listed_questions key version)
  listed_told key version printable =
      all_append (AsksOf good) (version_questions key version) (release_questions key version.release)
      (version_told key version printable)
      (release_told key version.release (printable_small version printable))

  list_told : (key : MarkerValueVersion) (versions : List VersionRecord) →
      AllByRecursion IsPrintable versions →
      AllByRecursion (AsksOf good) (flat_map (listed_questions key) versions)
  list_told key versions all =
      all_each (AsksOf good) (listed_questions key) versions
      (all_weaker IsPrintable (λ version. AllByRecursion (AsksOf good) (listed_questions key version))
      (listed_told key)
      versions all)

  -- ---- what is said

  abbrev pub IsToldSaid : Option ExpressionRecord → Type 0
  IsToldSaid None = Unit {0}
  IsToldSaid (Some term) = AllByRecursion (AsksOf good) (questions_of_term term)

  -- the specifier's release has numbers, each of 64 bits
  abbrev HasSmall : Option SpecifierRecord → Type 0
  HasSmall None = Unit {0}
  HasSmall (Some specifier) = IsSmallRelease specifier.version.release

  of_specifier_told : (key : MarkerValueVersion) (specifier : Option SpecifierRecord) → HasSmall specifier →
      IsToldSaid (of_specifier key specifier).said
  of_specifier_told key None small = tt
  of_specifier_told key (Some specifier) small = release_told key specifier.version.release small

  abbrev BuiltSmall : Result SpecifierRecord VersionSpecifierBuildError → Type 0
  BuiltSmall (Ok specifier) = IsSmallRelease specifier.version.release
  BuiltSmall (Err error) = Unit {0}

  result_small : (made : Result SpecifierRecord VersionSpecifierBuildError) → BuiltSmall made →
      HasSmall (result_ok made)
  result_small (Ok specifier) small = small
  result_small (Err error) small = tt

  one_built : (first second : Bool) (e f : VersionSpecifierBuildError) (specifier : SpecifierRecord) →
      IsSmallRelease specifier.version.release →
      BuiltSmall (if first then Err e else (if second then Err f else Ok specifier))
  one_built true second e f specifier small = tt
  one_built false true e f specifier small = tt
  one_built false false e f specifier small = small

  built_small : (operator : Operator) (version : VersionRecord) → IsSmallRelease version.release →
      BuiltSmall (built operator version)
  built_small operator version small =
      one_built (has_local version && not (takes_local operator))
      (is_tilde operator && nat_lt (length version.release) 2)
      _ _ (record { operator = operator; version = version }) small

  starred_small : (operator : Operator) (star : Option Operator) (version : VersionRecord) →
      IsSmallRelease version.release → BuiltSmall (built_starred operator star version)
  starred_small operator None version small = tt
  starred_small operator (Some star) version small = built_small star version small

  of_two : (t : Bool) (a b : Result SpecifierRecord VersionSpecifierBuildError) → BuiltSmall a → BuiltSmall b →
      BuiltSmall (if t then a else b)
  of_two true a b first second = first
  of_two false a b first second = second

  pattern_built : (operator : Operator) (pattern : PatternRecord) → IsSmallRelease pattern.version.release →
      BuiltSmall (built_of_pattern operator pattern)
  pattern_built operator pattern small =
      of_two pattern.wildcard (built_starred operator (starred operator) pattern.version)
      (built operator pattern.version) (starred_small operator (starred operator) pattern.version small)
      (built_small operator pattern.version small)

  by_star : (text : List ℕ) (version : VersionRecord) (star : Bool) →
      IsPatternText text (record { version = version; wildcard = star }) → IsSmallRelease version.release
  by_star text version true is = record {
    some = is.head.has_release.is_part.nonempty;
    small = by_recursion version.release is.fits.release;
  }
  by_star text version false is = record {
    some = is.head.has_release.is_part.nonempty;
    small = by_recursion version.release is.fits.release;
  }

  pattern_small : (text : List ℕ) (pattern : PatternRecord) → pattern_of text ≡ Some pattern →
      IsSmallRelease pattern.version.release
  pattern_small text pattern e =
      by_star text pattern.version pattern.wildcard ((pattern_read text pattern).0 e)

  behind_sign : (sign : Option Operator) (pattern : PatternRecord) → IsSmallRelease pattern.version.release →
      HasSmall (option_and_then (λ s. result_ok (built_of_pattern s pattern)) sign)
  behind_sign None pattern small = tt
  behind_sign (Some sign) pattern small =
      result_small (built_of_pattern sign pattern) (pattern_built sign pattern small)

  behind_pattern : (operator : MarkerOperator) (text : List ℕ) (pattern : Option PatternRecord) →
      pattern_of text ≡ pattern →
      HasSmall (option_and_then (λ p. option_and_then (λ sign. result_ok (built_of_pattern sign p))
      (specifier_operator operator)) pattern)
  behind_pattern operator text None e = tt
  behind_pattern operator text (Some pattern) e =
      behind_sign (specifier_operator operator) pattern (pattern_small text pattern e)

  behind_small : (operator : MarkerOperator) (text : List ℕ) → HasSmall (specifier_behind operator text)
  behind_small operator text = behind_pattern operator text (pattern_of text) refl

  before_sign : (sign : Option Operator) (version : VersionRecord) → IsSmallRelease version.release →
      HasSmall (option_and_then (λ s. result_ok (built s version)) sign)
  before_sign None version small = tt
  before_sign (Some sign) version small = result_small (built sign version) (built_small sign version small)

  before_version : (operator : MarkerOperator) (text : List ℕ) (version : Option VersionRecord) →
      version_of text ≡ version →
      HasSmall (option_and_then
      (λ v. option_and_then (λ sign. result_ok (built sign v)) (specifier_operator operator))
      version)
  before_version operator text None e = tt
  before_version operator text (Some version) e =
      before_sign (specifier_operator operator) version
      (printable_small version (read_printable text version e))

  before_small : (operator : MarkerOperator) (text : List ℕ) → HasSmall (specifier_before operator text)
  before_small operator text = before_version operator text (version_of text) refl

  -- ---- lists of versions

  abbrev AllPrintable : Option (List VersionRecord) → Type 0
  AllPrintable None = Unit {0}
  AllPrintable (Some versions) = AllByRecursion IsPrintable versions

  abbrev MaybePrintable : Option VersionRecord → Type 0
  MaybePrintable None = Unit {0}
  MaybePrintable (Some version) = IsPrintable version

  with_printable : (version : Option VersionRecord) (others : Option (List VersionRecord)) →
      MaybePrintable version →
      AllPrintable others → AllPrintable (with_version version others)
  with_printable None others printable all = tt
  with_printable (Some version) None printable all = tt
  with_printable (Some version) (Some others) printable all = (printable, all)

  maybe_printable : (text : List ℕ) (version : Option VersionRecord) → version_of text ≡ version →
      MaybePrintable version
  maybe_printable text None e = tt
  maybe_printable text (Some version) e = read_printable text version e

  versions_printable : (texts : List (List ℕ)) → AllPrintable (versions_of texts)
  versions_printable [] = tt
  versions_printable (text ∷ texts) =
      with_printable (version_of text) (versions_of texts) (maybe_printable text (version_of text) refl)
      (versions_printable texts)

  of_list_told : (key : MarkerValueVersion) (negated : Bool) (versions : Option (List VersionRecord))
      (otherwise : Compared) → AllPrintable versions → IsToldSaid otherwise.said →
      IsToldSaid (of_list key negated versions otherwise).said
  of_list_told key negated None otherwise all told = told
  of_list_told key negated (Some versions) otherwise all told = list_told key versions all

  specifier_told : (key : MarkerValueVersion) (operator : MarkerOperator) (text : List ℕ) →
      IsToldSaid (of_specifier key (specifier_behind operator text)).said
  specifier_told key operator text =
      of_specifier_told key (specifier_behind operator text) (behind_small operator text)

  listed_or : (key : MarkerValueVersion) (negated : Bool) (operator : MarkerOperator) (text : List ℕ) →
      IsToldSaid (of_list key negated (versions_of (runs_of text))
      (of_specifier key (specifier_behind operator text))).said
  listed_or key negated operator text =
      of_list_told key negated (versions_of (runs_of text)) (of_specifier key (specifier_behind operator text))
      (versions_printable (runs_of text)) (specifier_told key operator text)

  before_told : (key : MarkerValueVersion) (operator : MarkerOperator) (text : List ℕ) →
      IsToldSaid (version_before key operator text).said
  before_told key In text = listed_or key false In text
  before_told key NotIn text = listed_or key true NotIn text
  before_told key Equal text = specifier_told key Equal text
  before_told key NotEqual text = specifier_told key NotEqual text
  before_told key GreaterThan text = specifier_told key GreaterThan text
  before_told key GreaterEqual text = specifier_told key GreaterEqual text
  before_told key LessThan text = specifier_told key LessThan text
  before_told key LessEqual text = specifier_told key LessEqual text
  before_told key TildeEqual text = specifier_told key TildeEqual text
  before_told key Contains text = specifier_told key Contains text
  before_told key NotContains text = specifier_told key NotContains text

  behind_told : (key : MarkerValueVersion) (operator : MarkerOperator) (text : List ℕ) →
      IsToldSaid (version_behind key operator text).said
  behind_told key operator text =
      of_specifier_told key (specifier_before (inverted operator) text) (before_small (inverted operator) text)

  -- ---- texts and extras

  text_told : (key : MarkerValueString) (text : List ℕ) → good text →
      AllByRecursion (AsksOf good) (text_questions key text)
  text_told key text is = (is, (is, (is, (is, tt))))

  texts_told : (key : MarkerValueString) (operator : MarkerOperator) (text : List ℕ) → good text →
      IsToldSaid (text_compared key operator text).said
  texts_told key TildeEqual text is = tt
  texts_told key Equal text is = text_told key text is
  texts_told key NotEqual text is = text_told key text is
  texts_told key GreaterThan text is = text_told key text is
  texts_told key GreaterEqual text is = text_told key text is
  texts_told key LessThan text is = text_told key text is
  texts_told key LessEqual text is = text_told key text is
  texts_told key In text is = text_told key text is
  texts_told key NotIn text is = text_told key text is
  texts_told key Contains text is = text_told key text is
  texts_told key NotContains text is = text_told key text is

  extra_said : (name : Option (List ℕ)) (text : List ℕ) (operator : Option ExtraOperator) →
      name_of text ≡ name →
      good text → IsToldSaid (warned_of_name name (of_extra (extra_of name text) operator)).said
  extra_said None text None e is = tt
  extra_said None text (Some operator) e is = ((is, e), tt)
  extra_said (Some name) text None e is = tt
  extra_said (Some name) text (Some operator) e is = (normal_again text name e, tt)

  extra_told : (operator : MarkerOperator) (text : List ℕ) → good text →
      IsToldSaid (extra_compared operator text).said
  extra_told operator text is = extra_said (name_of text) text (extra_operator operator) refl is

  -- ---- the two sides

  -- a key, or a good text
  abbrev pub IsToldValue : ValueRecord → Type 0
  IsToldValue (VersionKey key) = Unit {0}
  IsToldValue (TextKey key) = Unit {0}
  IsToldValue ExtraKey = Unit {0}
  IsToldValue (Quoted text) = good text

  pub compared_told : (left : ValueRecord) (operator : MarkerOperator) (right : ValueRecord) →
      IsToldValue left →
      IsToldValue right → IsToldSaid (compared left operator right).said
  unfolding compared
  compared_told (VersionKey key) operator (Quoted text) first second = before_told key operator text
  compared_told (VersionKey key) operator (VersionKey other) first second = tt
  compared_told (VersionKey key) operator (TextKey other) first second = tt
  compared_told (VersionKey key) operator ExtraKey first second = tt
  compared_told (TextKey key) operator (Quoted text) first second = texts_told key operator text second
  compared_told (TextKey key) operator (VersionKey other) first second = tt
  compared_told (TextKey key) operator (TextKey other) first second = tt
  compared_told (TextKey key) operator ExtraKey first second = tt
  compared_told ExtraKey operator (Quoted text) first second = extra_told operator text second
  compared_told ExtraKey operator (VersionKey other) first second = tt
  compared_told ExtraKey operator (TextKey other) first second = tt
  compared_told ExtraKey operator ExtraKey first second = tt
  compared_told (Quoted text) operator (VersionKey key) first second = behind_told key operator text
  compared_told (Quoted text) operator (TextKey key) first second =
      texts_told key (inverted operator) text first
  compared_told (Quoted text) operator ExtraKey first second = extra_told operator text first
  compared_told (Quoted text) operator (Quoted other) first second = tt
