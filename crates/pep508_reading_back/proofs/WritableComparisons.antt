-- A printed comparison is the text of some comparison.
use Rattle.std.proofs.Common.{◌≡◌, ◌≢◌, ℕ, false, List, [], ◌++◌, Option, Some, None, refl, ap, sym, subst}
use Rattle.std.proofs.Common.{◌∙◌}
use Rattle.std.specs.Prelude.{codes}
use Rattle.std.specs.Str.{chars, IsUtf8}
use Rattle.pep440_text.specs.Record.{VersionRecord}
use Rattle.pep440_text.specs.Print.{version_text}
use Rattle.pep440_operator.specs.OperatorPrint.{operator_text, star_text}
use Rattle.pep440_specifier.specs.Matching.{SpecifierRecord}
use Rattle.pep508_name.specs.Name.{name_of}
use Rattle.pep508_marker.specs.declared.keys.MarkerValueString.{MarkerValueString}
use Rattle.pep508_marker.specs.declared.keys.MarkerValueString.TheVariants as keys
use Rattle.pep508_marker.specs.declared.operators.ExtraOperator.{ExtraOperator}
use Rattle.pep508_marker.specs.declared.operators.ExtraOperator.TheVariants as extras
use Rattle.pep508_marker.specs.declared.operators.MarkerOperator.{MarkerOperator}
use Rattle.pep508_marker.specs.declared.operators.MarkerOperator.TheVariants.{Equal, NotEqual, TildeEqual}
use Rattle.pep508_marker.specs.Expression.{ExpressionRecord, Version, VersionIn, String, Extra, term_text}
use Rattle.pep508_marker.specs.Expression.{string_text, expression_text}
use Rattle.pep508_marker.specs.Keys.{version_key_name, text_key_written, modern, is_deprecated}
use Rattle.pep508_marker.specs.Operators.{marker_operator_text, extra_operator_text, extra_operator}
use Rattle.pep508_marker.specs.Values.{ExtraRecord, ExtraKey, Quoted, extra_text}
use Rattle.pep508_comparison_parser.specs.Compared.{compared, extra_of, of_extra, warned_of_name}
use Rattle.pep508_comparison_parser.specs.Compared.{extra_compared}
use Rattle.pep508_comparison_parser.specs.SideReading.{ends_key}
use Rattle.pep508_marker_parser.specs.MarkerReading.{Marker}
use Rattle.pep508_marker_parser.specs.MarkerText.{IsBefore, IsComparisonText}
use Rattle.pep508_reading_back.specs.Readable.{IsQuotable, IsReadable, warned_extra, marker_of}
use Rattle.pep508_reading_back.specs.Writable.{as_written}
use Rattle.pep508_reading_back.proofs.Comparisons.{written_as, extra_named, said_so, term_read, extra_points}
use Rattle.pep508_reading_back.proofs.Comparisons.{comparison_read, term_utf8, extra_signs_ascii}
use Rattle.pep508_reading_back.proofs.Comparisons.{comparison_utf8}

-- the comparison that a printed one is read as: its version without what isn't printed, an old name of a key
-- as the modern one, and an extra by its name
abbrev pub read_term : ExpressionRecord → ExpressionRecord
read_term (Version key specifier) = Version key (record specifier { version = as_written specifier.version })
read_term (VersionIn key versions negated) = VersionIn key versions negated
read_term (String key operator text) = String (modern key) operator text
read_term (Extra operator asked) = Extra operator (extra_of (name_of (extra_text asked)) (extra_text asked))

abbrev pub read_marker : ExpressionRecord → Marker
read_marker term = marker_of (read_term term)

-- a comparison whose text is one's
abbrev pub IsWritable : ExpressionRecord → Type 0
IsWritable (Version key specifier) =
    IsReadable (read_term (Version key specifier)) × (specifier.version.local ≡ [])
IsWritable (VersionIn key versions negated) = ⊥
IsWritable (String key operator text) = (operator ≢ TildeEqual) × IsQuotable text
IsWritable (Extra operator asked) = IsQuotable (extra_text asked)

-- ---- versions

pub written_version : (version : VersionRecord) → version.local ≡ [] →
    version_text (as_written version) ≡ version_text version
unfolding version_text
written_version version none = ap (λ segments. version_text (record version { local = segments })) (sym none)

written_specifier : (key : _) (specifier : SpecifierRecord) → specifier.version.local ≡ [] →
    expression_text (read_term (Version key specifier)) ≡ expression_text (Version key specifier)
written_specifier key specifier none =
    ap (λ version. term_text (version_key_name key) (operator_text specifier.operator)
    (version ++ star_text specifier.operator)) (written_version specifier.version none)

-- ---- texts

modern_key : (key : MarkerValueString) → is_deprecated (modern key) ≡ false
modern_key keys.ImplementationName = refl
modern_key keys.OsName = refl
modern_key keys.OsNameDeprecated = refl
modern_key keys.PlatformMachine = refl
modern_key keys.PlatformMachineDeprecated = refl
modern_key keys.PlatformPythonImplementation = refl
modern_key keys.PlatformPythonImplementationDeprecated = refl
modern_key keys.PythonImplementationDeprecated = refl
modern_key keys.PlatformRelease = refl
modern_key keys.PlatformSystem = refl
modern_key keys.PlatformVersion = refl
modern_key keys.PlatformVersionDeprecated = refl
modern_key keys.SysPlatform = refl
modern_key keys.SysPlatformDeprecated = refl

modern_itself : (key : MarkerValueString) → modern (modern key) ≡ modern key
modern_itself keys.ImplementationName = refl
modern_itself keys.OsName = refl
modern_itself keys.OsNameDeprecated = refl
modern_itself keys.PlatformMachine = refl
modern_itself keys.PlatformMachineDeprecated = refl
modern_itself keys.PlatformPythonImplementation = refl
modern_itself keys.PlatformPythonImplementationDeprecated = refl
modern_itself keys.PythonImplementationDeprecated = refl
modern_itself keys.PlatformRelease = refl
modern_itself keys.PlatformSystem = refl
modern_itself keys.PlatformVersion = refl
modern_itself keys.PlatformVersionDeprecated = refl
modern_itself keys.SysPlatform = refl
modern_itself keys.SysPlatformDeprecated = refl

written_string : (key : MarkerValueString) (operator : MarkerOperator) (text : List ℕ) →
    expression_text (read_term (String key operator text)) ≡ expression_text (String key operator text)
written_string key operator text =
    ap (λ k. string_text operator (text_key_written k) text) (modern_itself key)

-- ---- extras

named_or_not : (found : Option (List ℕ)) (text : List ℕ) (operator : ExtraOperator) →
    warned_of_name found (of_extra (extra_of found text) (Some operator))
    ≡ record {
      said = Some (Extra operator (extra_of found text));
      warned = warned_extra (extra_of found text);
    }
named_or_not None text operator = refl
named_or_not (Some name) text operator = refl

extra_by : (sign : MarkerOperator) (operator : ExtraOperator) (asked : ExtraRecord) (rest : List ℕ) →
    extra_operator (written_as sign) ≡ Some operator →
    extra_operator_text operator ≡ marker_operator_text sign → IsQuotable (extra_text asked) →
    IsComparisonText (chars (expression_text (Extra operator asked)) ++ rest)
    (read_marker (Extra operator asked)) rest
unfolding compared
extra_by sign operator asked rest is same h =
    let text = extra_text asked in
    let term : ExpressionRecord = read_term (Extra operator asked) in
    let warned = warned_extra (extra_of (name_of text) text) in
    let found : extra_compared (written_as sign) text ≡ record { said = Some term; warned = warned } =
    ap (λ found. warned_of_name (name_of text) (of_extra (extra_of (name_of text) text) found)) is
    ∙ named_or_not (name_of text) text operator in
    subst (λ signs.
    IsComparisonText (chars (term_text (codes "extra") signs text) ++ rest) (marker_of term) rest) (sym same)
    (term_read (codes "extra") ExtraKey extra_named sign text h (marker_of term) rest
    (said_so term warned (compared ExtraKey (written_as sign) (Quoted text)) rest
    (extra_points operator (extra_of (name_of text) text)) found))

extra_read : (operator : ExtraOperator) (asked : ExtraRecord) (rest : List ℕ) →
    IsQuotable (extra_text asked) →
    IsComparisonText (chars (expression_text (Extra operator asked)) ++ rest)
    (read_marker (Extra operator asked)) rest
extra_read extras.Equal asked rest h = extra_by Equal extras.Equal asked rest refl refl h
extra_read extras.NotEqual asked rest h = extra_by NotEqual extras.NotEqual asked rest refl refl h

-- ---- all

-- a printed comparison, before something that ends a key
pub written_read : (term : ExpressionRecord) (rest : List ℕ) → IsWritable term → IsBefore ends_key rest →
    IsComparisonText (chars (expression_text term) ++ rest) (read_marker term) rest
written_read (Version key specifier) rest h ends =
    subst (λ text. IsComparisonText (chars text ++ rest) (read_marker (Version key specifier)) rest)
    (written_specifier key specifier h.1) (comparison_read (read_term (Version key specifier)) rest h.0 ends)
written_read (VersionIn key versions negated) rest h ends = absurd h
written_read (String key operator text) rest h ends =
    subst (λ written. IsComparisonText (chars written ++ rest) (read_marker (String key operator text)) rest)
    (written_string key operator text)
    (comparison_read (String (modern key) operator text) rest (modern_key key, h.0, h.1) ends)
written_read (Extra operator asked) rest h ends = extra_read operator asked rest h

pub written_utf8 : (term : ExpressionRecord) → IsWritable term → IsUtf8 (expression_text term)
written_utf8 (Version key specifier) h =
    subst IsUtf8 (written_specifier key specifier h.1)
    (comparison_utf8 (read_term (Version key specifier)) h.0)
written_utf8 (VersionIn key versions negated) h = absurd h
written_utf8 (String key operator text) h =
    subst IsUtf8 (written_string key operator text)
    (comparison_utf8 (String (modern key) operator text) (modern_key key, h.0, h.1))
written_utf8 (Extra operator asked) h =
    term_utf8 (codes "extra") (extra_operator_text operator) (extra_text asked) extra_named.ascii
    (extra_signs_ascii operator) h.encoded
