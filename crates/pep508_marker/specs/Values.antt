-- The sides of an operator in a marker (PEP 508, "Environment Markers").
use Rattle.std.specs.Prelude.{ℕ, if◌then◌else◌, List, ◌++◌, codes, Option, Some, None, option_map, Result, Ok}
use Rattle.std.specs.Prelude.{Err}
use Rattle.std.specs.Str.{bytes_eq}
use Rattle.std.specs.String.{string_bytes}
use Rattle.pep508_marker.specs.declared.keys.MarkerValueVersion.{MarkerValueVersion}
use Rattle.pep508_marker.specs.declared.keys.MarkerValueVersion.TheVariants as versions
use Rattle.pep508_marker.specs.declared.keys.MarkerValueString.{MarkerValueString}
use Rattle.pep508_marker.specs.declared.keys.MarkerValueString.TheVariants as texts
use Rattle.pep508_marker.specs.declared.values.MarkerValue.{MarkerValue}
use Rattle.pep508_marker.specs.declared.values.MarkerValue.TheVariants as rust
use Rattle.pep508_marker.specs.declared.values.MarkerValueExtra.{MarkerValueExtra}
use Rattle.pep508_marker.specs.declared.values.MarkerValueExtra.TheVariants as extras
use Rattle.pep508_marker.specs.Keys.{version_key_name, text_key_name}

-- the value that `extra` is compared with: a name in normal form, or a text that is not a name
pub data ExtraRecord : Type 0 where
  Name : List ℕ → ExtraRecord
  Arbitrary : List ℕ → ExtraRecord

-- that of the program, with texts as their bytes
abbrev pub extra_of : MarkerValueExtra → ExtraRecord
extra_of (extras.Extra name) = Name name
extra_of (extras.Arbitrary text) = Arbitrary (string_bytes text)

-- its text
abbrev pub extra_text : ExtraRecord → List ℕ
extra_text (Name name) = name
extra_text (Arbitrary text) = text

-- a side of a comparison: a key, `extra`, or a quoted text
pub data ValueRecord : Type 0 where
  VersionKey : MarkerValueVersion → ValueRecord
  TextKey : MarkerValueString → ValueRecord
  ExtraKey : ValueRecord
  Quoted : List ℕ → ValueRecord

-- that of the program, with texts as their bytes
abbrev pub value_of : MarkerValue → ValueRecord
value_of (rust.MarkerEnvVersion key) = VersionKey key
value_of (rust.MarkerEnvString key) = TextKey key
value_of rust.Extra = ExtraKey
value_of (rust.QuotedString text) = Quoted (string_bytes text)

-- its print: the modern name of a key, a quoted text in single quotes
abbrev pub value_text : ValueRecord → List ℕ
value_text (VersionKey key) = version_key_name key
value_text (TextKey key) = text_key_name key
value_text ExtraKey = codes "extra"
value_text (Quoted text) = codes "'" ++ text ++ codes "'"

-- the key with versions as values that is written so
unfoldable pub version_key_of : List ℕ → Option MarkerValueVersion
version_key_of text =
    if bytes_eq text (codes "implementation_version") then Some versions.ImplementationVersion
    else (if bytes_eq text (codes "python_full_version") then Some versions.PythonFullVersion
    else (if bytes_eq text (codes "python_version") then Some versions.PythonVersion else None))

-- the key with texts as values that is written so
unfoldable pub text_key_of : List ℕ → Option MarkerValueString
text_key_of text =
    if bytes_eq text (codes "implementation_name") then Some texts.ImplementationName
    else (if bytes_eq text (codes "os_name") then Some texts.OsName
    else (if bytes_eq text (codes "os.name") then Some texts.OsNameDeprecated
    else (if bytes_eq text (codes "platform_machine") then Some texts.PlatformMachine
    else (if bytes_eq text (codes "platform.machine") then Some texts.PlatformMachineDeprecated
    else (if bytes_eq text (codes "platform_python_implementation")
    then Some texts.PlatformPythonImplementation
    else (if bytes_eq text (codes "platform.python_implementation")
    then Some texts.PlatformPythonImplementationDeprecated
    else (if bytes_eq text (codes "python_implementation") then Some texts.PythonImplementationDeprecated
    else (if bytes_eq text (codes "platform_release") then Some texts.PlatformRelease
    else (if bytes_eq text (codes "platform_system") then Some texts.PlatformSystem
    else (if bytes_eq text (codes "platform_version") then Some texts.PlatformVersion
    else (if bytes_eq text (codes "platform.version") then Some texts.PlatformVersionDeprecated
    else (if bytes_eq text (codes "sys_platform") then Some texts.SysPlatform
    else (if bytes_eq text (codes "sys.platform") then Some texts.SysPlatformDeprecated
    else None)))))))))))))

-- a text that is not a key with versions as values: another key, or `extra`
abbrev pub other_key_of : List ℕ → Option ValueRecord
other_key_of text =
    if bytes_eq text (codes "extra") then Some ExtraKey else option_map TextKey (text_key_of text)

abbrev pub version_key_or : Option ValueRecord → Option MarkerValueVersion → Option ValueRecord
version_key_or other (Some key) = Some (VersionKey key)
version_key_or other None = other

-- the key that a text is, or `extra`
abbrev pub key_of_text : List ℕ → Option ValueRecord
key_of_text text = version_key_or (other_key_of text) (version_key_of text)

abbrev pub key_or_message : List ℕ → Option ValueRecord → Result ValueRecord (List ℕ)
key_or_message text (Some value) = Ok value
key_or_message text None = Err (codes "Invalid key: " ++ text)

-- the key of a text, or the message where it is not one
abbrev pub key_reading : List ℕ → Result ValueRecord (List ℕ)
key_reading text = key_or_message text (key_of_text text)
