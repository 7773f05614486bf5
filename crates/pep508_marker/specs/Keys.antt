-- The keys of markers (PEP 508, "Environment Markers").
use Rattle.std.specs.Prelude.{ℕ, Bool, true, false, List, codes}
use Rattle.pep508_marker.specs.declared.keys.MarkerValueVersion.{MarkerValueVersion}
use Rattle.pep508_marker.specs.declared.keys.MarkerValueVersion.TheVariants.{ImplementationVersion}
use Rattle.pep508_marker.specs.declared.keys.MarkerValueVersion.TheVariants.{PythonFullVersion, PythonVersion}
use Rattle.pep508_marker.specs.declared.keys.MarkerValueString.{MarkerValueString}
use Rattle.pep508_marker.specs.declared.keys.MarkerValueString.TheVariants.{ImplementationName, OsName}
use Rattle.pep508_marker.specs.declared.keys.MarkerValueString.TheVariants.{OsNameDeprecated, PlatformMachine}
use Rattle.pep508_marker.specs.declared.keys.MarkerValueString.TheVariants.{PlatformMachineDeprecated}
use Rattle.pep508_marker.specs.declared.keys.MarkerValueString.TheVariants.{PlatformPythonImplementation}
use Rattle.pep508_marker.specs.declared.keys.MarkerValueString.TheVariants.{
  PlatformPythonImplementationDeprecated,
}
use Rattle.pep508_marker.specs.declared.keys.MarkerValueString.TheVariants.{PythonImplementationDeprecated}
use Rattle.pep508_marker.specs.declared.keys.MarkerValueString.TheVariants.{PlatformRelease, PlatformSystem}
use Rattle.pep508_marker.specs.declared.keys.MarkerValueString.TheVariants.{PlatformVersion}
use Rattle.pep508_marker.specs.declared.keys.MarkerValueString.TheVariants.{PlatformVersionDeprecated}
use Rattle.pep508_marker.specs.declared.keys.MarkerValueString.TheVariants.{SysPlatform}
use Rattle.pep508_marker.specs.declared.keys.MarkerValueString.TheVariants.{SysPlatformDeprecated}

-- the name of a key whose values are versions
abbrev pub version_key_name : MarkerValueVersion → List ℕ
version_key_name ImplementationVersion = codes "implementation_version"
version_key_name PythonFullVersion = codes "python_full_version"
version_key_name PythonVersion = codes "python_version"

-- the place of a key among those whose values are versions
abbrev pub version_key_rank : MarkerValueVersion → ℕ
version_key_rank ImplementationVersion = 0
version_key_rank PythonFullVersion = 1
version_key_rank PythonVersion = 2

-- the key that is read for a key whose values are texts: another one for an old name of PEP 345
abbrev pub modern : MarkerValueString → MarkerValueString
modern ImplementationName = ImplementationName
modern OsName = OsName
modern OsNameDeprecated = OsName
modern PlatformMachine = PlatformMachine
modern PlatformMachineDeprecated = PlatformMachine
modern PlatformPythonImplementation = PlatformPythonImplementation
modern PlatformPythonImplementationDeprecated = PlatformPythonImplementation
modern PythonImplementationDeprecated = PlatformPythonImplementation
modern PlatformRelease = PlatformRelease
modern PlatformSystem = PlatformSystem
modern PlatformVersion = PlatformVersion
modern PlatformVersionDeprecated = PlatformVersion
modern SysPlatform = SysPlatform
modern SysPlatformDeprecated = SysPlatform

-- whether a key is an old name of PEP 345
abbrev pub is_deprecated : MarkerValueString → Bool
is_deprecated ImplementationName = false
is_deprecated OsName = false
is_deprecated OsNameDeprecated = true
is_deprecated PlatformMachine = false
is_deprecated PlatformMachineDeprecated = true
is_deprecated PlatformPythonImplementation = false
is_deprecated PlatformPythonImplementationDeprecated = true
is_deprecated PythonImplementationDeprecated = true
is_deprecated PlatformRelease = false
is_deprecated PlatformSystem = false
is_deprecated PlatformVersion = false
is_deprecated PlatformVersionDeprecated = true
is_deprecated SysPlatform = false
is_deprecated SysPlatformDeprecated = true

-- a key whose values are texts, as it is written in a marker
abbrev pub text_key_written : MarkerValueString → List ℕ
text_key_written ImplementationName = codes "implementation_name"
text_key_written OsName = codes "os_name"
text_key_written OsNameDeprecated = codes "os.name"
text_key_written PlatformMachine = codes "platform_machine"
text_key_written PlatformMachineDeprecated = codes "platform.machine"
text_key_written PlatformPythonImplementation = codes "platform_python_implementation"
text_key_written PlatformPythonImplementationDeprecated = codes "platform.python_implementation"
text_key_written PythonImplementationDeprecated = codes "python_implementation"
text_key_written PlatformRelease = codes "platform_release"
text_key_written PlatformSystem = codes "platform_system"
text_key_written PlatformVersion = codes "platform_version"
text_key_written PlatformVersionDeprecated = codes "platform.version"
text_key_written SysPlatform = codes "sys_platform"
text_key_written SysPlatformDeprecated = codes "sys.platform"

-- the modern name of a key whose values are texts
abbrev pub text_key_name : MarkerValueString → List ℕ
text_key_name key = text_key_written (modern key)

-- the place of a key among those whose values are texts
abbrev pub text_key_rank : MarkerValueString → ℕ
text_key_rank ImplementationName = 0
text_key_rank OsName = 1
text_key_rank OsNameDeprecated = 2
text_key_rank PlatformMachine = 3
text_key_rank PlatformMachineDeprecated = 4
text_key_rank PlatformPythonImplementation = 5
text_key_rank PlatformPythonImplementationDeprecated = 6
text_key_rank PythonImplementationDeprecated = 7
text_key_rank PlatformRelease = 8
text_key_rank PlatformSystem = 9
text_key_rank PlatformVersion = 10
text_key_rank PlatformVersionDeprecated = 11
text_key_rank SysPlatform = 12
text_key_rank SysPlatformDeprecated = 13
