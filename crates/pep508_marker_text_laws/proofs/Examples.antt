-- Texts of some diagrams, computed from the definitions.
use Rattle.std.proofs.Common.{◌≡◌, ℕ, true, false, List, [], ◌∷◌, ◌++◌, refl}
use Rattle.std.specs.Prelude.{codes, Some, None}
use Rattle.std.specs.Fmt.{digits}
use Rattle.version_ranges.specs.declared.boundary.Boundary.TheVariants.{At, JustAbove}
use Rattle.pep440_text.specs.Record.{release_record}
use Rattle.pep440_version.specs.Order.{key_of}
use Rattle.pep440_text.specs.Print.{version_text}
use Rattle.pep508_marker.specs.declared.keys.MarkerValueString.TheVariants.{OsName, SysPlatform}
use Rattle.pep508_diagram.specs.declared.variable.VersionVariable.TheVariants.{PythonFullVersion}
use Rattle.pep508_diagram.specs.declared.variable.Flag.TheVariants.{In, Contains, Extra}
use Rattle.pep508_diagram.specs.Diagram.{Diagram, Leaf, Test}
use Rattle.pep508_diagram.specs.Question.{Question, VersionBelow, TextBelow, IsSet, question_cmp}
use Rattle.pep508_marker_text_laws.specs.MarkerText.{marker_text}

below : List ℕ → Diagram Question → Diagram Question → Diagram Question
below numbers = Test (VersionBelow PythonFullVersion (At (release_record numbers)))

text_is : List ℕ → Diagram Question → Diagram Question → Diagram Question
text_is text other same =
    Test (TextBelow SysPlatform (At text)) other (Test (TextBelow SysPlatform (JustAbove text)) same other)

-- from 3 up to below 3.1, a lower bound of one number
one_minor : marker_text (below (3 ∷ []) (Leaf false) (below (3 ∷ 1 ∷ []) (Leaf true) (Leaf false)))
    ≡ Some (codes "python_full_version == '3.0.*'")
unfolding below key_of version_text digits
one_minor = refl

no_minor : marker_text (below (3 ∷ 9 ∷ []) (Leaf true) (below (3 ∷ 10 ∷ []) (Leaf false) (Leaf true)))
    ≡ Some (codes "python_full_version != '3.9.*'")
unfolding below key_of version_text digits
no_minor = refl

-- below 3 and from 3.1 on `sys_platform == 'x'` leads to true; between the two all does
first_gone : marker_text (below (3 ∷ []) (text_is (codes "x") (Leaf false) (Leaf true))
    (below (3 ∷ 1 ∷ []) (Leaf true) (text_is (codes "x") (Leaf false) (Leaf true))))
    ≡ Some (codes "sys_platform == 'x' or python_full_version == '3.0.*'")
unfolding below text_is key_of version_text digits question_cmp
first_gone = refl

not_text : marker_text (text_is (codes "x") (Leaf true) (Leaf false)) ≡ Some (codes "sys_platform != 'x'")
unfolding text_is
not_text = refl

two_kinds : marker_text (Test (IsSet (In OsName (codes "a"))) (Test (IsSet (Contains OsName (codes "a"))) (Leaf true)
    (Test (IsSet (Extra (codes "x"))) (Leaf true) (Leaf false))) (Test (IsSet (Extra (codes "x"))) (Leaf true)
    (Leaf false)))
    ≡ Some (codes "(os_name in 'a' and 'a' in os_name) or ('a' not in os_name and extra == 'x')"
    ++ codes " or (os_name not in 'a' and extra == 'x')")
two_kinds = refl

always : marker_text (Leaf true) ≡ None
always = refl
