-- The parts of a requirement's text, one behind another, are its text.
use Rattle.std.proofs.Common.{◌≡◌, ℕ, List, [], ◌∷◌, ◌++◌, codes, Option, Some, None, option_map, refl, ap}
use Rattle.std.proofs.Common.{sym, append_assoc}
use Rattle.std.proofs.lemmas.List.{append-nil}
use Rattle.std.specs.Fmt.{◌++?◌}
use Rattle.std.specs.List.{flat_map, join_with_byte}
use Rattle.pep508_requirement_text.specs.FrontReading.{Source}
use Rattle.pep508_requirement_ref.specs.RequirementPrint.{behind_comma, extras_text, source_text}
use Rattle.pep508_requirement_ref.specs.RequirementPrint.{marker_part, requirement_text, unnamed_text}

pub names_joined : (name : List ℕ) (names : List (List ℕ)) → join_with_byte 44 (name ∷ names) ≡ name ++ flat_map behind_comma names
names_joined name [] = sym (append-nil name)
names_joined name (next ∷ names) = ap (λ rest. name ++ (codes "," ++ rest)) (names_joined next names)

regrouped : (a b c d : List ℕ) → a ++ (b ++ (c ++ d)) ≡ ((a ++ b) ++ c) ++ d
regrouped a b c d = simp append_assoc

pub whole_print : (name : List ℕ) (names : List (List ℕ)) (source : Option Source) (marker : Option (List ℕ)) →
    Some name ++? (Some (extras_text names) ++? (option_map source_text source ++? Some (marker_part marker)))
    ≡ option_map (λ front. requirement_text front marker)
    (option_map (λ what. record { name = name; extras = names; source = what }) source)
whole_print name names None marker = refl
whole_print name names (Some source) marker =
    ap Some (regrouped name (extras_text names) (source_text source) (marker_part marker))

pub unnamed_print : (url : Option (List ℕ)) (names : List (List ℕ)) (marker : Option (List ℕ)) →
    url ++? (Some (extras_text names) ++? Some (marker_part marker))
    ≡ option_map (λ text. unnamed_text text names marker) url
unnamed_print None names marker = refl
unnamed_print (Some url) names marker = ap Some (sym (append_assoc url (extras_text names) (marker_part marker)))
