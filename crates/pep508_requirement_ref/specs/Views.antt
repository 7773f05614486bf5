-- The parts of requirements that views show, and their print. `output` is the print of a URL, if it has
-- one.
use Rattle.std.specs.Prelude.{◌≡◌, ℕ, List, Option, Some, None, option_map}
use Rattle.pep508_diagram.specs.Question.{Valuation, truth}
use Rattle.pep508_tree.specs.Meaning.{NodeRecord}
use Rattle.pep508_tree_ref.specs.declared.tree_ref.MarkerTreeRef.{MarkerTreeRef}
use Rattle.pep508_tree_ref.specs.Lent.{tree_in}
use Rattle.pep508_tree_ref.specs.TreeIn.{diagram_in}
use Rattle.pep508_marker_text_laws.specs.MarkerText.{marker_text}
use Rattle.pep508_requirement_text.specs.FrontReading.{Front, Source}
use Rattle.pep508_requirement_text.specs.FrontReading.Source.{Any, Specifiers, Url}
use Rattle.pep508_requirement.specs.declared.requirement.Requirement.{Requirement}
use Rattle.pep508_requirement.specs.declared.unnamed.UnnamedRequirement.{UnnamedRequirement}
use Rattle.pep508_requirement.specs.declared.version_or_url.VersionOrUrl.{VersionOrUrl}
use Rattle.pep508_requirement.specs.declared.version_or_url.VersionOrUrl.TheVariants as asked
use Rattle.pep508_requirement_ref.specs.declared.requirement_ref.RequirementRef.{RequirementRef}
use Rattle.pep508_requirement_ref.specs.declared.unnamed_ref.UnnamedRequirementRef.{UnnamedRequirementRef}
use Rattle.pep508_requirement_ref.specs.RequirementPrint.{requirement_text, unnamed_text}

-- the view shows the requirement, whose marker is a tree of these nodes
pub record IsViewOf {T E : Type 0} (nodes : List NodeRecord) (r : Requirement T E)
    (shown : RequirementRef T E) : Type 0 where
  pub name : shown.name.now ≡ r.name
  pub extras : shown.extras.now ≡ r.extras.items
  pub version_or_url : shown.version_or_url.now ≡ r.version_or_url
  pub marker : tree_in shown.marker ≡ record { nodes = nodes; tree = r.marker }
  pub origin : shown.origin.now ≡ r.origin

pub record IsUnnamedViewOf {T E : Type 0} (nodes : List NodeRecord) (r : UnnamedRequirement T E)
    (shown : UnnamedRequirementRef T E) : Type 0 where
  pub url : shown.url.now ≡ r.url
  pub extras : shown.extras.now ≡ r.extras.items
  pub marker : tree_in shown.marker ≡ record { nodes = nodes; tree = r.marker }

-- the text of a marker, where it doesn't always hold
abbrev pub marker_text_in : MarkerTreeRef → Option (List ℕ)
marker_text_in marker = marker_text (diagram_in (tree_in marker))

-- the specifiers or the URL, a URL by its print
abbrev pub source_of : {T E : Type 0} → (T → Option (List ℕ)) → Option (VersionOrUrl T E) → Option Source
source_of output None = Some Any
source_of output (Some (asked.VersionSpecifier list)) = Some (Specifiers list)
source_of output (Some (asked.Url url)) = option_map Url (output url)

-- a view but for its marker, as a text has it
abbrev pub front_of : {T E : Type 0} → (T → Option (List ℕ)) → RequirementRef T E → Option Front
front_of output shown =
    option_map (λ source. record { name = shown.name.now; extras = shown.extras.now; source = source })
    (source_of output shown.version_or_url.now)

abbrev pub printed : {T E : Type 0} → (T → Option (List ℕ)) → RequirementRef T E → Option (List ℕ)
printed output shown =
    option_map (λ front. requirement_text front (marker_text_in shown.marker)) (front_of output shown)

abbrev pub printed_unnamed : {T E : Type 0} → (T → Option (List ℕ)) → UnnamedRequirementRef T E
    → Option (List ℕ)
printed_unnamed output shown =
    option_map (λ url. unnamed_text url shown.extras.now (marker_text_in shown.marker)) (output shown.url.now)

-- they have the same name, extras and specifiers or URL, and markers of one meaning; origins may differ
pub record SayTheSame {T E : Type 0} (a b : RequirementRef T E) : Type 0 where
  pub name : a.name.now ≡ b.name.now
  pub extras : a.extras.now ≡ b.extras.now
  pub version_or_url : a.version_or_url.now ≡ b.version_or_url.now
  pub marker : (v : Valuation)
      → truth (diagram_in (tree_in a.marker)) v ≡ truth (diagram_in (tree_in b.marker)) v
