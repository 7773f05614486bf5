use Rattle.std.proofs.Common.{[], ◌∷◌, refl, sym, ◌∙◌, rules}
use Rattle.pep508_environment.specs.declared.EnvironmentMember.TheVariants.{ImplementationName}
use Rattle.pep508_environment.specs.declared.EnvironmentMember.TheVariants.{ImplementationVersion, OsName}
use Rattle.pep508_environment.specs.declared.EnvironmentMember.TheVariants.{PlatformMachine}
use Rattle.pep508_environment.specs.declared.EnvironmentMember.TheVariants.{PlatformPythonImplementation}
use Rattle.pep508_environment.specs.declared.EnvironmentMember.TheVariants.{PlatformRelease, PlatformSystem}
use Rattle.pep508_environment.specs.declared.EnvironmentMember.TheVariants.{PlatformVersion}
use Rattle.pep508_environment.specs.declared.EnvironmentMember.TheVariants.{PythonFullVersion, PythonVersion}
use Rattle.pep508_environment.specs.declared.EnvironmentMember.TheVariants.{SysPlatform}
use Rattle.pep508_environment.proofs.Reached.{reached}
use Rattle.pep508_environment.proofs.environment.MarkerEnvironment.from_value.Goals as goal

pub returns-in_err-text-clause-grown : goal.returns-in_err-text-clause-grown
returns-in_err-text-clause-grown c = λ e.
    reached _ ([]) ImplementationName (ImplementationVersion ∷ OsName ∷ PlatformMachine ∷ PlatformPythonImplementation ∷ PlatformRelease ∷ PlatformSystem ∷ PlatformVersion ∷ PythonFullVersion ∷ PythonVersion ∷ SysPlatform ∷ [])
    (sym c.has_float.ensures ∙ c.if-has_float.false) (sym c.is_object.ensures ∙ c.if-not-is_object.false) refl
    tt (c.in_err-text.ensures.grown (search rules))

pub returns-in_err-version-clause-grown : goal.returns-in_err-version-clause-grown
returns-in_err-version-clause-grown c = λ e.
    reached _ (ImplementationName ∷ []) ImplementationVersion (OsName ∷ PlatformMachine ∷ PlatformPythonImplementation ∷ PlatformRelease ∷ PlatformSystem ∷ PlatformVersion ∷ PythonFullVersion ∷ PythonVersion ∷ SysPlatform ∷ [])
    (sym c.has_float.ensures ∙ c.if-has_float.false) (sym c.is_object.ensures ∙ c.if-not-is_object.false) refl
    (c.in_ok-text.ensures.fine, tt) (c.in_err-version.ensures.grown (search rules))

pub returns-in_err-text-2-clause-grown : goal.returns-in_err-text-2-clause-grown
returns-in_err-text-2-clause-grown c = λ e.
    reached _ (ImplementationName ∷ ImplementationVersion ∷ []) OsName (PlatformMachine ∷ PlatformPythonImplementation ∷ PlatformRelease ∷ PlatformSystem ∷ PlatformVersion ∷ PythonFullVersion ∷ PythonVersion ∷ SysPlatform ∷ [])
    (sym c.has_float.ensures ∙ c.if-has_float.false) (sym c.is_object.ensures ∙ c.if-not-is_object.false) refl
    (c.in_ok-text.ensures.fine, (c.in_ok-version.ensures.fine, tt)) (c.in_err-text-2.ensures.grown (search rules))

pub returns-in_err-text-3-clause-grown : goal.returns-in_err-text-3-clause-grown
returns-in_err-text-3-clause-grown c = λ e.
    reached _ (ImplementationName ∷ ImplementationVersion ∷ OsName ∷ []) PlatformMachine (PlatformPythonImplementation ∷ PlatformRelease ∷ PlatformSystem ∷ PlatformVersion ∷ PythonFullVersion ∷ PythonVersion ∷ SysPlatform ∷ [])
    (sym c.has_float.ensures ∙ c.if-has_float.false) (sym c.is_object.ensures ∙ c.if-not-is_object.false) refl
    (c.in_ok-text.ensures.fine, (c.in_ok-version.ensures.fine, (c.in_ok-text-2.ensures.fine, tt))) (c.in_err-text-3.ensures.grown (search rules))

pub returns-in_err-text-4-clause-grown : goal.returns-in_err-text-4-clause-grown
returns-in_err-text-4-clause-grown c = λ e.
    reached _ (ImplementationName ∷ ImplementationVersion ∷ OsName ∷ PlatformMachine ∷ []) PlatformPythonImplementation (PlatformRelease ∷ PlatformSystem ∷ PlatformVersion ∷ PythonFullVersion ∷ PythonVersion ∷ SysPlatform ∷ [])
    (sym c.has_float.ensures ∙ c.if-has_float.false) (sym c.is_object.ensures ∙ c.if-not-is_object.false) refl
    (c.in_ok-text.ensures.fine, (c.in_ok-version.ensures.fine, (c.in_ok-text-2.ensures.fine, (c.in_ok-text-3.ensures.fine, tt)))) (c.in_err-text-4.ensures.grown (search rules))

pub returns-in_err-text-5-clause-grown : goal.returns-in_err-text-5-clause-grown
returns-in_err-text-5-clause-grown c = λ e.
    reached _ (ImplementationName ∷ ImplementationVersion ∷ OsName ∷ PlatformMachine ∷ PlatformPythonImplementation ∷ []) PlatformRelease (PlatformSystem ∷ PlatformVersion ∷ PythonFullVersion ∷ PythonVersion ∷ SysPlatform ∷ [])
    (sym c.has_float.ensures ∙ c.if-has_float.false) (sym c.is_object.ensures ∙ c.if-not-is_object.false) refl
    (c.in_ok-text.ensures.fine, (c.in_ok-version.ensures.fine, (c.in_ok-text-2.ensures.fine, (c.in_ok-text-3.ensures.fine, (c.in_ok-text-4.ensures.fine, tt))))) (c.in_err-text-5.ensures.grown (search rules))

pub returns-in_err-text-6-clause-grown : goal.returns-in_err-text-6-clause-grown
returns-in_err-text-6-clause-grown c = λ e.
    reached _ (ImplementationName ∷ ImplementationVersion ∷ OsName ∷ PlatformMachine ∷ PlatformPythonImplementation ∷ PlatformRelease ∷ []) PlatformSystem (PlatformVersion ∷ PythonFullVersion ∷ PythonVersion ∷ SysPlatform ∷ [])
    (sym c.has_float.ensures ∙ c.if-has_float.false) (sym c.is_object.ensures ∙ c.if-not-is_object.false) refl
    (c.in_ok-text.ensures.fine, (c.in_ok-version.ensures.fine, (c.in_ok-text-2.ensures.fine, (c.in_ok-text-3.ensures.fine, (c.in_ok-text-4.ensures.fine, (c.in_ok-text-5.ensures.fine, tt)))))) (c.in_err-text-6.ensures.grown (search rules))

pub returns-in_err-text-7-clause-grown : goal.returns-in_err-text-7-clause-grown
returns-in_err-text-7-clause-grown c = λ e.
    reached _ (ImplementationName ∷ ImplementationVersion ∷ OsName ∷ PlatformMachine ∷ PlatformPythonImplementation ∷ PlatformRelease ∷ PlatformSystem ∷ []) PlatformVersion (PythonFullVersion ∷ PythonVersion ∷ SysPlatform ∷ [])
    (sym c.has_float.ensures ∙ c.if-has_float.false) (sym c.is_object.ensures ∙ c.if-not-is_object.false) refl
    (c.in_ok-text.ensures.fine, (c.in_ok-version.ensures.fine, (c.in_ok-text-2.ensures.fine, (c.in_ok-text-3.ensures.fine, (c.in_ok-text-4.ensures.fine, (c.in_ok-text-5.ensures.fine, (c.in_ok-text-6.ensures.fine, tt))))))) (c.in_err-text-7.ensures.grown (search rules))

pub returns-in_err-version-2-clause-grown : goal.returns-in_err-version-2-clause-grown
returns-in_err-version-2-clause-grown c = λ e.
    reached _ (ImplementationName ∷ ImplementationVersion ∷ OsName ∷ PlatformMachine ∷ PlatformPythonImplementation ∷ PlatformRelease ∷ PlatformSystem ∷ PlatformVersion ∷ []) PythonFullVersion (PythonVersion ∷ SysPlatform ∷ [])
    (sym c.has_float.ensures ∙ c.if-has_float.false) (sym c.is_object.ensures ∙ c.if-not-is_object.false) refl
    (c.in_ok-text.ensures.fine, (c.in_ok-version.ensures.fine, (c.in_ok-text-2.ensures.fine, (c.in_ok-text-3.ensures.fine, (c.in_ok-text-4.ensures.fine, (c.in_ok-text-5.ensures.fine, (c.in_ok-text-6.ensures.fine, (c.in_ok-text-7.ensures.fine, tt)))))))) (c.in_err-version-2.ensures.grown (search rules))

pub returns-in_err-version-3-clause-grown : goal.returns-in_err-version-3-clause-grown
returns-in_err-version-3-clause-grown c = λ e.
    reached _ (ImplementationName ∷ ImplementationVersion ∷ OsName ∷ PlatformMachine ∷ PlatformPythonImplementation ∷ PlatformRelease ∷ PlatformSystem ∷ PlatformVersion ∷ PythonFullVersion ∷ []) PythonVersion (SysPlatform ∷ [])
    (sym c.has_float.ensures ∙ c.if-has_float.false) (sym c.is_object.ensures ∙ c.if-not-is_object.false) refl
    (c.in_ok-text.ensures.fine, (c.in_ok-version.ensures.fine, (c.in_ok-text-2.ensures.fine, (c.in_ok-text-3.ensures.fine, (c.in_ok-text-4.ensures.fine, (c.in_ok-text-5.ensures.fine, (c.in_ok-text-6.ensures.fine, (c.in_ok-text-7.ensures.fine, (c.in_ok-version-2.ensures.fine, tt))))))))) (c.in_err-version-3.ensures.grown (search rules))

pub returns-in_err-text-8-clause-grown : goal.returns-in_err-text-8-clause-grown
returns-in_err-text-8-clause-grown c = λ e.
    reached _ (ImplementationName ∷ ImplementationVersion ∷ OsName ∷ PlatformMachine ∷ PlatformPythonImplementation ∷ PlatformRelease ∷ PlatformSystem ∷ PlatformVersion ∷ PythonFullVersion ∷ PythonVersion ∷ []) SysPlatform ([])
    (sym c.has_float.ensures ∙ c.if-has_float.false) (sym c.is_object.ensures ∙ c.if-not-is_object.false) refl
    (c.in_ok-text.ensures.fine, (c.in_ok-version.ensures.fine, (c.in_ok-text-2.ensures.fine, (c.in_ok-text-3.ensures.fine, (c.in_ok-text-4.ensures.fine, (c.in_ok-text-5.ensures.fine, (c.in_ok-text-6.ensures.fine, (c.in_ok-text-7.ensures.fine, (c.in_ok-version-2.ensures.fine, (c.in_ok-version-3.ensures.fine, tt)))))))))) (c.in_err-text-8.ensures.grown (search rules))
