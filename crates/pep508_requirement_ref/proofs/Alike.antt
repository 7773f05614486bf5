-- Requirements that say the same print the same.
use Rattle.std.proofs.Common.{◌≡◌, ℕ, List, Option, option_map, ap, ap₂, ◌∙◌}
use Rattle.pep508_diagram.specs.Question.{IsCanonical}
use Rattle.pep508_diagram.specs.Shortened.{HasShortVersions}
use Rattle.pep508_marker_text_laws.proofs.Spelled.{one_spelling}
use Rattle.pep508_marker_text_laws.specs.MarkerText.{marker_text}
use Rattle.pep508_requirement_text.specs.FrontReading.{Source}
use Rattle.pep508_requirement_ref.specs.RequirementPrint.{requirement_text}
use Rattle.pep508_requirement_ref.specs.Views.{SayTheSame, printed, source_of}
use Rattle.pep508_requirement_ref.specs.declared.requirement_ref.RequirementRef.{RequirementRef}
use Rattle.pep508_tree_ref.specs.Lent.{tree_in}
use Rattle.pep508_tree_ref.specs.TreeIn.{diagram_in}

abbrev with_parts : List ℕ → List (List ℕ) → Option (List ℕ) → Option Source → Option (List ℕ)
with_parts name extras marker source =
    option_map (λ front. requirement_text front marker)
    (option_map (λ what. record { name = name; extras = extras; source = what }) source)

pub alike_print : {T E : Type 0} (output : T → Option (List ℕ)) (a b : RequirementRef T E) →
    IsCanonical (diagram_in (tree_in a.marker)) → IsCanonical (diagram_in (tree_in b.marker)) →
    HasShortVersions (diagram_in (tree_in a.marker)) → HasShortVersions (diagram_in (tree_in b.marker)) →
    SayTheSame a b → printed output a ≡ printed output b
alike_print output a b c k s t h =
    let d = diagram_in (tree_in a.marker) in
    let e = diagram_in (tree_in b.marker) in
    let one : d ≡ e = one_spelling d e c k s t h.marker in
    ap₂ (λ n es. with_parts n es (marker_text d) (source_of output a.version_or_url.now)) h.name h.extras
    ∙ ap₂ (λ m w. with_parts b.name.now b.extras.now m (source_of output w)) (ap marker_text one) h.version_or_url
