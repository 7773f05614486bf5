-- Lists print their members with a separator between them.
use Rattle.std.proofs.Common.{◌≡◌, ℕ, List, [], ◌∷◌, ◌++◌, codes, refl, ap, sym}
use Rattle.std.proofs.lemmas.List.{append-nil}
use Rattle.std.specs.List.{flat_map}
use Rattle.pep440_specifier.specs.Matching.{SpecifierRecord}
use Rattle.pep440_specifier.specs.SpecifierPrint.{specifier_text}
use Rattle.pep440_specifier_list.specs.ListText.{behind_separator, separated, list_value_text}

pub members_separated : (separator : List ℕ) (member : SpecifierRecord) (members : List SpecifierRecord) → separated separator (member ∷ members) ≡ specifier_text member ++ flat_map (behind_separator separator) members
members_separated separator member members = refl

value_behind : (member : SpecifierRecord) (members : List SpecifierRecord) → list_value_text (member ∷ members) ≡ specifier_text member ++ flat_map (behind_separator (codes ",")) members
value_behind member [] = sym (append-nil (specifier_text member))
value_behind member (next ∷ members) = ap (λ rest. specifier_text member ++ (codes "," ++ rest)) (value_behind next members)

pub value_separated : (members : List SpecifierRecord) → separated (codes ",") members ≡ list_value_text members
value_separated [] = refl
value_separated (member ∷ members) = sym (value_behind member members)
