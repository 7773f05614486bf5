-- A marker environment as a JSON value, and why a value is not one (PEP 508, "Environment Markers").
use Rattle.std.specs.Prelude.{◌≡◌, ℕ, ◌&&◌, Bool, IsTrue, true, false, not, if◌then◌else◌, List, [], ◌∷◌}
use Rattle.std.specs.Prelude.{◌++◌, codes, Option, Some, None, is_some, option_and_then, Result, Ok, Err}
use Rattle.std.specs.List.{filter_map}
use Rattle.serde_json.specs.Data.{Data}
use Rattle.serde_json.specs.Find.{get, as_str, as_object}
use Rattle.serde_json.specs.Written.{has_float}
use Rattle.pep440_text.specs.Record.{VersionRecord}
use Rattle.pep440_text.specs.Reading.{version_of}
use Rattle.pep508_environment.specs.declared.EnvironmentMember.{EnvironmentMember}
use Rattle.pep508_environment.specs.declared.EnvironmentMember.TheVariants.{ImplementationName}
use Rattle.pep508_environment.specs.declared.EnvironmentMember.TheVariants.{ImplementationVersion, OsName}
use Rattle.pep508_environment.specs.declared.EnvironmentMember.TheVariants.{PlatformMachine}
use Rattle.pep508_environment.specs.declared.EnvironmentMember.TheVariants.{PlatformPythonImplementation}
use Rattle.pep508_environment.specs.declared.EnvironmentMember.TheVariants.{PlatformRelease, PlatformSystem}
use Rattle.pep508_environment.specs.declared.EnvironmentMember.TheVariants.{PlatformVersion}
use Rattle.pep508_environment.specs.declared.EnvironmentMember.TheVariants.{PythonFullVersion, PythonVersion}
use Rattle.pep508_environment.specs.declared.EnvironmentMember.TheVariants.{SysPlatform}
use Rattle.pep508_environment.specs.declared.EnvironmentError.{EnvironmentError}
use Rattle.pep508_environment.specs.declared.EnvironmentError.TheVariants.{Float, Shape, Member, Version}
use Rattle.pep508_environment.specs.declared.EnvironmentError.TheVariants.{Memory}

-- an environment (PEP 508, "Environment Markers"): texts, and versions with the texts that they were read of
pub record EnvironmentRecord : Type 0 where
  pub implementation_name : List ℕ
  pub implementation_version : VersionRecord
  pub implementation_version_text : List ℕ
  pub os_name : List ℕ
  pub platform_machine : List ℕ
  pub platform_python_implementation : List ℕ
  pub platform_release : List ℕ
  pub platform_system : List ℕ
  pub platform_version : List ℕ
  pub python_full_version : VersionRecord
  pub python_full_version_text : List ℕ
  pub python_version : VersionRecord
  pub python_version_text : List ℕ
  pub sys_platform : List ℕ

-- the member's name in JSON
abbrev pub member_name : EnvironmentMember → List ℕ
member_name ImplementationName = codes "implementation_name"
member_name ImplementationVersion = codes "implementation_version"
member_name OsName = codes "os_name"
member_name PlatformMachine = codes "platform_machine"
member_name PlatformPythonImplementation = codes "platform_python_implementation"
member_name PlatformRelease = codes "platform_release"
member_name PlatformSystem = codes "platform_system"
member_name PlatformVersion = codes "platform_version"
member_name PythonFullVersion = codes "python_full_version"
member_name PythonVersion = codes "python_version"
member_name SysPlatform = codes "sys_platform"

-- the members, in the order in which they are looked at
abbrev pub members : List EnvironmentMember
members =
    ImplementationName ∷ ImplementationVersion ∷ OsName ∷ PlatformMachine ∷ PlatformPythonImplementation
    ∷ PlatformRelease ∷ PlatformSystem ∷ PlatformVersion ∷ PythonFullVersion ∷ PythonVersion
    ∷ SysPlatform ∷ []

-- whether a member's text has to be a version (PEP 440, "Version scheme")
abbrev pub is_version : EnvironmentMember → Bool
is_version ImplementationName = false
is_version ImplementationVersion = true
is_version OsName = false
is_version PlatformMachine = false
is_version PlatformPythonImplementation = false
is_version PlatformRelease = false
is_version PlatformSystem = false
is_version PlatformVersion = false
is_version PythonFullVersion = true
is_version PythonVersion = true
is_version SysPlatform = false

-- the text of a member, if it is there and a text
abbrev pub member_text : Data → EnvironmentMember → Option (List ℕ)
member_text value member = option_and_then as_str (get (member_name member) value)

-- the version of a member, if it is there and reads as one
abbrev pub member_version : Data → EnvironmentMember → Option VersionRecord
member_version value member = option_and_then version_of (member_text value member)

-- what is wrong with a member
unfoldable pub member_fault : Data → EnvironmentMember → Option EnvironmentError
member_fault value member =
    if not (is_some (member_text value member)) then Some (Member member)
    else (if is_version member && not (is_some (member_version value member))
    then Some (Version member)
    else None)

-- what is wrong with the members, in their order
abbrev pub faults : Data → List EnvironmentError
faults value = filter_map (member_fault value) members

infixl 10 ◌>>=◌
abbrev ◌>>=◌ : {A B : Type 0} → Option A → (A → Option B) → Option B
none >>= f = option_and_then f none

-- the environment of the members' texts, if all are there and those that have to be versions are
abbrev pub environment_in : Data → Option EnvironmentRecord
environment_in value = do
  implementation_name ← member_text value ImplementationName
  implementation_version_text ← member_text value ImplementationVersion
  implementation_version ← version_of implementation_version_text
  os_name ← member_text value OsName
  platform_machine ← member_text value PlatformMachine
  platform_python_implementation ← member_text value PlatformPythonImplementation
  platform_release ← member_text value PlatformRelease
  platform_system ← member_text value PlatformSystem
  platform_version ← member_text value PlatformVersion
  python_full_version_text ← member_text value PythonFullVersion
  python_full_version ← version_of python_full_version_text
  python_version_text ← member_text value PythonVersion
  python_version ← version_of python_version_text
  sys_platform ← member_text value SysPlatform
  Some (record {
    implementation_name = implementation_name;
    implementation_version = implementation_version;
    implementation_version_text = implementation_version_text;
    os_name = os_name;
    platform_machine = platform_machine;
    platform_python_implementation = platform_python_implementation;
    platform_release = platform_release;
    platform_system = platform_system;
    platform_version = platform_version;
    python_full_version = python_full_version;
    python_full_version_text = python_full_version_text;
    python_version = python_version;
    python_version_text = python_version_text;
    sys_platform = sys_platform;
  })

-- the first fault, or the environment, which is there where no member is wrong
abbrev pub first_fault_or : List EnvironmentError → Option EnvironmentRecord
    → Result EnvironmentRecord EnvironmentError
first_fault_or (fault ∷ others) environment = Err fault
first_fault_or [] (Some environment) = Ok environment
first_fault_or [] None = Err Shape

-- the environment that a value is, or the first that is wrong: a float anywhere, then the shape, then
-- the members
unfoldable pub environment_of : Data → Result EnvironmentRecord EnvironmentError
environment_of value =
    if has_float value then Err Float
    else (if not (is_some (as_object value))
    then Err Shape
    else first_fault_or (faults value) (environment_in value))

-- the text of this member is looked at: there is an object without floats, the members before this one
-- are right, and it is a text
pub record IsReached (value : Data) (member : EnvironmentMember) : Type 0 where
  pub no_float : has_float value ≡ false
  pub is_object : IsTrue (is_some (as_object value))
  pub before : List EnvironmentMember
  pub after : List EnvironmentMember
  pub in_order : members ≡ before ++ member ∷ after
  pub are_right : filter_map (member_fault value) before ≡ []
  pub is_text : IsTrue (is_some (member_text value member))

-- the fault that an error reports of a value, unless it is lack of memory
abbrev pub told_environment : EnvironmentError → Option EnvironmentError
told_environment Float = Some Float
told_environment Shape = Some Shape
told_environment (Member member) = Some (Member member)
told_environment (Version member) = Some (Version member)
told_environment Memory = None

-- the print of an error
abbrev pub error_text : EnvironmentError → List ℕ
error_text Float = codes "a number is a float"
error_text Shape = codes "no object"
error_text (Member member) = codes "member " ++ member_name member ++ codes " is missing or no text"
error_text (Version member) = codes "member " ++ member_name member ++ codes " is no version"
error_text Memory = codes "out of memory"
