-- The values that keys read in an environment, its JSON value, its equality, and the input to its hash.
use Rattle.std.specs.Prelude.{ℕ, Bool, List, [], ◌∷◌, ◌++◌, codes}
use Rattle.std.specs.Cmp.Lexicographic.{pointwise}
use Rattle.std.specs.Hash as fed
use Rattle.std.specs.List.{flat_map}
use Rattle.std.specs.Ordering.{on, eq_of_both}
use Rattle.std.specs.Str.{bytes_eq}
use Rattle.serde_json.specs.Data.{Data, string, object, no_members, member}
use Rattle.pep440_text.specs.Record.{VersionRecord}
use Rattle.pep440_version.specs.Order.{version_eq, key_of, fed_key}
use Rattle.pep508_marker.specs.declared.keys.MarkerValueVersion.{MarkerValueVersion}
use Rattle.pep508_marker.specs.declared.keys.MarkerValueVersion.TheVariants.{ImplementationVersion}
use Rattle.pep508_marker.specs.declared.keys.MarkerValueVersion.TheVariants.{PythonFullVersion, PythonVersion}
use Rattle.pep508_marker.specs.declared.keys.MarkerValueString.{MarkerValueString}
use Rattle.pep508_marker.specs.declared.keys.MarkerValueString.TheVariants as texts
use Rattle.pep508_environment.specs.Environment.{EnvironmentRecord}

-- the version that a key reads
abbrev pub version_in : EnvironmentRecord → MarkerValueVersion → VersionRecord
version_in environment ImplementationVersion = environment.implementation_version
version_in environment PythonFullVersion = environment.python_full_version
version_in environment PythonVersion = environment.python_version

-- the text that a key reads; an old name of PEP 345 reads what the modern one reads
abbrev pub text_in : EnvironmentRecord → MarkerValueString → List ℕ
text_in environment texts.ImplementationName = environment.implementation_name
text_in environment texts.OsName = environment.os_name
text_in environment texts.OsNameDeprecated = environment.os_name
text_in environment texts.PlatformMachine = environment.platform_machine
text_in environment texts.PlatformMachineDeprecated = environment.platform_machine
text_in environment texts.PlatformPythonImplementation = environment.platform_python_implementation
text_in environment texts.PlatformPythonImplementationDeprecated = environment.platform_python_implementation
text_in environment texts.PythonImplementationDeprecated = environment.platform_python_implementation
text_in environment texts.PlatformRelease = environment.platform_release
text_in environment texts.PlatformSystem = environment.platform_system
text_in environment texts.PlatformVersion = environment.platform_version
text_in environment texts.PlatformVersionDeprecated = environment.platform_version
text_in environment texts.SysPlatform = environment.sys_platform
text_in environment texts.SysPlatformDeprecated = environment.sys_platform

-- an environment as a JSON value: an object with the eleven texts
abbrev pub environment_value : EnvironmentRecord → Data
environment_value e = object (
    member (codes "implementation_name") (string e.implementation_name) (
    member (codes "implementation_version") (string e.implementation_version_text) (
    member (codes "os_name") (string e.os_name) (
    member (codes "platform_machine") (string e.platform_machine) (
    member (codes "platform_python_implementation") (string e.platform_python_implementation) (
    member (codes "platform_release") (string e.platform_release) (
    member (codes "platform_system") (string e.platform_system) (
    member (codes "platform_version") (string e.platform_version) (
    member (codes "python_full_version") (string e.python_full_version_text) (
    member (codes "python_version") (string e.python_version_text) (
    member (codes "sys_platform") (string e.sys_platform) no_members)))))))))))

-- the eleven texts of an environment, in the order of its members
abbrev pub texts_of : EnvironmentRecord → List (List ℕ)
texts_of e =
    e.implementation_name ∷ e.implementation_version_text ∷ e.os_name ∷ e.platform_machine
    ∷ e.platform_python_implementation ∷ e.platform_release ∷ e.platform_system ∷ e.platform_version
    ∷ e.python_full_version_text ∷ e.python_version_text ∷ e.sys_platform ∷ []

-- its three versions
abbrev pub versions_of : EnvironmentRecord → List VersionRecord
versions_of e = e.implementation_version ∷ e.python_full_version ∷ e.python_version ∷ []

-- environments are equal where all their texts are, byte by byte, and all their versions
abbrev pub environment_eq : EnvironmentRecord → EnvironmentRecord → Bool
environment_eq = eq_of_both (on texts_of (pointwise bytes_eq)) (on versions_of (pointwise version_eq))

abbrev pub fed_version : VersionRecord → List (List ℕ)
fed_version version = fed_key (key_of version)

-- the input to a hash of an environment: its texts, then its versions
abbrev pub fed_environment : EnvironmentRecord → List (List ℕ)
fed_environment e = flat_map fed.str (texts_of e) ++ flat_map fed_version (versions_of e)
