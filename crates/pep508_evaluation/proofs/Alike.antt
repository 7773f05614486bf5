-- Environments that are alike but for one member, and that what holds in one can hold.
use Rattle.std.proofs.Common.{◌≡◌, ℕ, true, List, refl, ap}
use Rattle.pep440_text.specs.Record.{VersionRecord}
use Rattle.version_ranges.specs.Point.{At}
use Rattle.pep508_marker.specs.declared.keys.MarkerValueString.{MarkerValueString}
use Rattle.pep508_marker.specs.declared.keys.MarkerValueString.TheVariants.{ImplementationName, OsName}
use Rattle.pep508_marker.specs.declared.keys.MarkerValueString.TheVariants.{OsNameDeprecated, PlatformMachine}
use Rattle.pep508_marker.specs.declared.keys.MarkerValueString.TheVariants.{PlatformMachineDeprecated}
use Rattle.pep508_marker.specs.declared.keys.MarkerValueString.TheVariants.{PlatformPythonImplementation}
use Rattle.pep508_marker.specs.declared.keys.MarkerValueString.TheVariants.{PlatformPythonImplementationDeprecated}
use Rattle.pep508_marker.specs.declared.keys.MarkerValueString.TheVariants.{PythonImplementationDeprecated}
use Rattle.pep508_marker.specs.declared.keys.MarkerValueString.TheVariants.{PlatformRelease, PlatformSystem}
use Rattle.pep508_marker.specs.declared.keys.MarkerValueString.TheVariants.{PlatformVersion}
use Rattle.pep508_marker.specs.declared.keys.MarkerValueString.TheVariants.{PlatformVersionDeprecated}
use Rattle.pep508_marker.specs.declared.keys.MarkerValueString.TheVariants.{SysPlatform}
use Rattle.pep508_marker.specs.declared.keys.MarkerValueString.TheVariants.{SysPlatformDeprecated}
use Rattle.pep508_environment.specs.Environment.{EnvironmentRecord}
use Rattle.pep508_environment.specs.EnvironmentValues.{text_in}
use Rattle.pep508_diagram.specs.declared.variable.VersionVariable.{VersionVariable}
use Rattle.pep508_diagram.specs.declared.variable.VersionVariable.TheVariants.{ImplementationVersion}
use Rattle.pep508_diagram.specs.declared.variable.VersionVariable.TheVariants.{PythonFullVersion}
use Rattle.pep508_diagram.specs.declared.variable.Flag.{Flag}
use Rattle.pep508_diagram.specs.declared.variable.Flag.TheVariants.{In, Contains, Extra, Arbitrary}
use Rattle.pep508_tree.specs.Tree.{Tree}
use Rattle.pep508_tree.specs.Meaning.{NodeRecord, holds}
use Rattle.pep508_evaluation.specs.Valuations.{stands_in, variable_in, is_set, valuation_of, CanHold}

module _ (environment : EnvironmentRecord) (extras : List (List ℕ)) (version : VersionRecord) (text : List ℕ) where
  abbrev other : EnvironmentRecord
  other = record environment { python_version = version; python_version_text = text }

  same_version : (key : VersionVariable) → variable_in other key ≡ variable_in environment key
  same_version ImplementationVersion = refl
  same_version PythonFullVersion = refl

  same_text : (key : MarkerValueString) → text_in other key ≡ text_in environment key
  same_text ImplementationName = refl
  same_text OsName = refl
  same_text OsNameDeprecated = refl
  same_text PlatformMachine = refl
  same_text PlatformMachineDeprecated = refl
  same_text PlatformPythonImplementation = refl
  same_text PlatformPythonImplementationDeprecated = refl
  same_text PythonImplementationDeprecated = refl
  same_text PlatformRelease = refl
  same_text PlatformSystem = refl
  same_text PlatformVersion = refl
  same_text PlatformVersionDeprecated = refl
  same_text SysPlatform = refl
  same_text SysPlatformDeprecated = refl

  same_set : (flag : Flag) → is_set other extras flag ≡ is_set environment extras flag
  same_set (In key needed) = ap (λ t. stands_in t needed) (same_text key)
  same_set (Contains key needed) = ap (λ t. stands_in needed t) (same_text key)
  same_set (Extra name) = refl
  same_set (Arbitrary needed) = refl

  pub same_valuation : valuation_of other extras ≡ valuation_of environment extras
  same_valuation = λ i. record {
    version = λ key. At (same_version key i);
    text = λ key. At (same_text key i);
    flag = λ flag. same_set flag i;
  }

pub holding_can_hold : (nodes : List NodeRecord) (tree : Tree) (environment : EnvironmentRecord)
    (extras : List (List ℕ)) → holds nodes tree (valuation_of environment extras) ≡ true →
    CanHold nodes tree extras
holding_can_hold nodes tree environment extras e =
    (valuation_of environment extras, record { listed = λ name. refl; no_other = λ text. refl }, e)
