-- An environment that is built from texts (PEP 508, "Environment Markers").
use Rattle.std.specs.Prelude.{ℕ, List, ◌++◌, codes, Option, Some, None, option_map, Result, Ok, Err}
use Rattle.pep440_version.specs.ErrorPrints.{version_error_text}
use Rattle.pep440_text.specs.Record.{VersionRecord}
use Rattle.pep440_version.specs.VersionReading.{VersionFault, version_reading, told_version}
use Rattle.pep508_marker.specs.declared.keys.MarkerValueVersion.{MarkerValueVersion}
use Rattle.pep508_marker.specs.declared.keys.MarkerValueVersion.TheVariants.{ImplementationVersion}
use Rattle.pep508_marker.specs.declared.keys.MarkerValueVersion.TheVariants.{PythonFullVersion, PythonVersion}
use Rattle.pep508_marker.specs.Keys.{version_key_name}
use Rattle.pep508_environment.specs.declared.builder.MarkerEnvironmentBuilder.{MarkerEnvironmentBuilder}
use Rattle.pep508_environment.specs.declared.builder.EnvironmentBuildError.{EnvironmentBuildError}
use Rattle.pep508_environment.specs.declared.builder.EnvironmentBuildError.TheVariants.{Memory, Version}
use Rattle.pep508_environment.specs.Environment.{EnvironmentRecord}

infixl 10 ◌>>=◌
abbrev ◌>>=◌ : {A B F : Type 0} → Result A F → (A → Result B F) → Result B F
(Ok x) >>= f = f x
(Err fault) >>= f = Err fault

-- a version, or the fault of a text under a key
abbrev pub under : MarkerValueVersion → Result VersionRecord VersionFault
    → Result VersionRecord (MarkerValueVersion × VersionFault)
under key (Ok version) = Ok version
under key (Err fault) = Err (key, fault)

-- the environment of eleven texts, or the first of the three versions that is invalid, with its fault
unfoldable pub environment_built : MarkerEnvironmentBuilder
    → Result EnvironmentRecord (MarkerValueVersion × VersionFault)
environment_built b = do
  implementation_version ← under ImplementationVersion (version_reading b.implementation_version.now)
  python_full_version ← under PythonFullVersion (version_reading b.python_full_version.now)
  python_version ← under PythonVersion (version_reading b.python_version.now)
  Ok (record {
    implementation_name = b.implementation_name.now;
    implementation_version = implementation_version;
    implementation_version_text = b.implementation_version.now;
    os_name = b.os_name.now;
    platform_machine = b.platform_machine.now;
    platform_python_implementation = b.platform_python_implementation.now;
    platform_release = b.platform_release.now;
    platform_system = b.platform_system.now;
    platform_version = b.platform_version.now;
    python_full_version = python_full_version;
    python_full_version_text = b.python_full_version.now;
    python_version = python_version;
    python_version_text = b.python_version.now;
    sys_platform = b.sys_platform.now;
  })

-- the key and the fault that an error reports; none for lack of memory
abbrev pub told_build : EnvironmentBuildError → Option (MarkerValueVersion × VersionFault)
told_build Memory = None
told_build (Version key error) = option_map (λ fault. (key, fault)) (told_version error)

-- the print of an error
abbrev pub build_error_text : EnvironmentBuildError → List ℕ
build_error_text Memory = codes "out of memory"
build_error_text (Version key error) =
    codes "member " ++ version_key_name key ++ codes " is no version: " ++ version_error_text error
