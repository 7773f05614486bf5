-- What specifiers print (PEP 440, "Version specifiers").
use Rattle.std.specs.Prelude.{ℕ, List, ◌++◌}
use Rattle.pep440_version.specs.Print.{version_text}
use Rattle.pep440_operator.specs.OperatorPrint.{operator_text, star_text}
use Rattle.pep440_specifier.specs.Matching.{SpecifierRecord}

-- the operator and the version, with no blank between them
abbrev pub specifier_text : SpecifierRecord → List ℕ
specifier_text specifier =
    operator_text specifier.operator ++ version_text specifier.version ++ star_text specifier.operator
