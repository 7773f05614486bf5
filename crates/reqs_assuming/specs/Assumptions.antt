-- What is assumed of environments, as the text of one marker (PEP 508, "Environment Markers").
use Rattle.std.specs.Prelude.{◌≡◌, ◌⊎◌, ◌++◌, ◌-◌, ℕ, Bool, List, [], ◌∷◌, codes, map, if◌then◌else◌}
use Rattle.std.specs.Prelude.{Option, Some, None, Result, Ok, Err, IfSome, String}
use Rattle.std.specs.List.{flat_map}
use Rattle.std.specs.Global.{Global}
use Rattle.std.specs.String.{string_bytes}
use Rattle.pep440_specifier.specs.Matching.{SpecifierRecord}
use Rattle.pep440_specifier.specs.SpecifierErrorPrints.{specifier_error_text}
use Rattle.pep440_specifier.specs.SpecifierReading.{told_specifier}
use Rattle.pep440_specifier.specs.declared.parse_error.VersionSpecifierParseError.{VersionSpecifierParseError}
use Rattle.pep440_specifier_list.specs.ListReading.{ListFault, ReadsList, list_reading}
use Rattle.pep508_error.specs.Errors.{Fault, fault_at, told_error}
use Rattle.pep508_error.specs.declared.error.Pep508Error.{Pep508Error}
use Rattle.pep508_error.specs.declared.error.Pep508ErrorSource.TheVariants as sources
use Rattle.pep508_formula.specs.Postfix.{Part}
use Rattle.pep508_marker.specs.Expression.{ExpressionRecord, Version, expression_text}
use Rattle.pep508_marker.specs.declared.keys.MarkerValueVersion.TheVariants.{PythonFullVersion}
use Rattle.pep508_url.specs.UrlTexts.{Verbatim}
use Rattle.pep508_url.specs.declared.url_error.VerbatimUrlError.{VerbatimUrlError}
use Rattle.reqs_assuming.specs.Conditions.{ReadsCondition}

-- ---- the text

-- what holds of a Python version that the specifier accepts
abbrev pub python_text : SpecifierRecord → List ℕ
python_text specifier = expression_text (Version PythonFullVersion specifier)

-- what holds in CPython, PyPy and GraalPy: the keys of Windows, Linux and macOS have their names together or
-- not at all
abbrev pub real_text : List ℕ
real_text = codes "os_name == 'nt' and sys_platform == 'win32' and platform_system == 'Windows'"
    ++ codes " or os_name == 'posix' and sys_platform == 'linux' and platform_system == 'Linux'"
    ++ codes " or os_name == 'posix' and sys_platform == 'darwin' and platform_system == 'Darwin'"
    ++ codes " or os_name != 'nt' and sys_platform != 'win32' and sys_platform != 'linux'"
    ++ codes " and sys_platform != 'darwin' and platform_system != 'Windows'"
    ++ codes " and platform_system != 'Linux' and platform_system != 'Darwin'"

abbrev pub listed : Option (List ℕ) → List (List ℕ)
listed None = []
listed (Some text) = text ∷ []

abbrev pub real_texts : Bool → List (List ℕ)
real_texts real = if real then real_text ∷ [] else []

-- the markers of what is assumed: one that is given, one for each specifier of the Python version, and that of
-- real interpreters if they alone count
abbrev pub assumed_texts : Option (List ℕ) → List SpecifierRecord → Bool → List (List ℕ)
assumed_texts marker specifiers real = (listed marker ++ map python_text specifiers) ++ real_texts real

abbrev pub in_parentheses : List ℕ → List ℕ
in_parentheses text = codes "(" ++ text ++ codes ")"

abbrev pub and_text : List ℕ → List ℕ
and_text text = codes " and " ++ in_parentheses text

-- the marker that holds where all of some do: itself where it is one
abbrev pub all_text : List (List ℕ) → List ℕ
all_text [] = []
all_text (text ∷ []) = text
all_text (text ∷ other ∷ others) = in_parentheses text ++ flat_map and_text (other ∷ others)

abbrev pub assumption_text : Option (List ℕ) → List SpecifierRecord → Bool → List ℕ
assumption_text marker specifiers real = all_text (assumed_texts marker specifiers real)

-- ---- the condition

-- the specifiers of a text, sorted by version; without a text there are none
abbrev pub AreSpecifiers : Option (List ℕ) → List SpecifierRecord → Type 0
AreSpecifiers None specifiers = specifiers ≡ []
AreSpecifiers (Some text) specifiers = ReadsList (Ok specifiers) text

-- a fault of a text that is no list of specifiers: that of its first piece that is none, and its place
pub record IsNoList (text : List ℕ) (fault : Fault Verbatim VerbatimUrlError) : Type 0 where
  pub piece : ListFault
  pub error : VersionSpecifierParseError
  pub message : String Global
  pub reading : list_reading text ≡ Err piece
  pub tells : told_specifier error ≡ Some piece.fault
  pub says : string_bytes message ≡ specifier_error_text error
  pub is : Some fault ≡ fault_at (sources.String message) piece.line piece.start (piece.end - piece.start)

-- an error is for the text of specifiers, unless it is lack of memory
abbrev pub RefusesSpecifiers : Option (List ℕ) → Pep508Error Verbatim VerbatimUrlError → Type 0
RefusesSpecifiers None error = told_error error ≡ None
RefusesSpecifiers (Some text) error = IfSome (told_error error) (IsNoList text)

-- a marker that is given is one
abbrev pub IsMarker : Option (List ℕ) → Type 0
IsMarker marker = IfSome marker (λ text. (parts : List (Part ExpressionRecord)) × ReadsCondition text (Ok parts))

-- an error is for a marker that is none
abbrev pub RefusesMarker : Option (List ℕ) → Pep508Error Verbatim VerbatimUrlError → Type 0
RefusesMarker marker error = (text : List ℕ) × (marker ≡ Some text) × ReadsCondition text (Err error)

-- what is assumed has this text: the marker is one by itself, and the specifiers are a list of them
pub record IsAssumptionText (marker python : Option (List ℕ)) (real : Bool) (text : List ℕ) : Type 0 where
  pub specifiers : List SpecifierRecord
  pub is_marker : IsMarker marker
  pub are_specifiers : AreSpecifiers python specifiers
  pub is_text : text ≡ assumption_text marker specifiers real

-- the condition is that of this text, or there is none where the text is empty; or the marker is no marker, or
-- the specifiers are none, or the text is no marker, where a specifier is one that no marker has
abbrev pub ReadsAssumption : Option (List ℕ) → Option (List ℕ) → Bool
    → Result (Option (List (Part ExpressionRecord))) (Pep508Error Verbatim VerbatimUrlError) → Type 0
ReadsAssumption marker python real (Ok None) = IsAssumptionText marker python real []
ReadsAssumption marker python real (Ok (Some parts)) =
    (text : List ℕ) × IsAssumptionText marker python real text × ReadsCondition text (Ok parts)
ReadsAssumption marker python real (Err error) =
    (RefusesMarker marker error ⊎ RefusesSpecifiers python error)
    ⊎ ((text : List ℕ) × IsAssumptionText marker python real text × ReadsCondition text (Err error))
