-- The order of requirements: the first of their fields that differ decides. No place in an interner is in it.
use Rattle.std.specs.Ordering.{nat_cmp, ordering_then}
use Rattle.std.specs.Option.{option_cmp}
use Rattle.std.specs.Cmp.Lexicographic.{slice_cmp}
use Rattle.std.specs.declared.cmp.Ordering.{Ordering}
use Rattle.std.specs.declared.cmp.Ordering.TheVariants.{Less, Equal, Greater}
use Rattle.pep440_specifier_list.specs.ListOrder.{list_cmp}
use Rattle.pep508_name.specs.Name.{name_cmp}
use Rattle.pep508_name.specs.Origin.{Origin, File, Project, Workspace, origin_of}
use Rattle.pep508_requirement.specs.declared.version_or_url.VersionOrUrl.{VersionOrUrl}
use Rattle.pep508_requirement.specs.declared.version_or_url.VersionOrUrl.TheVariants as asked
use Rattle.pep508_requirement_ref.specs.declared.requirement_ref.RequirementRef.{RequirementRef}
use Rattle.pep508_tree_ref.specs.Lent.{tree_ref_cmp}

-- specifiers before URLs
abbrev pub asked_cmp : {T E : Type 0} → (T → T → Ordering) → VersionOrUrl T E → VersionOrUrl T E → Ordering
asked_cmp url_cmp (asked.VersionSpecifier list) (asked.VersionSpecifier other) = list_cmp list other
asked_cmp url_cmp (asked.VersionSpecifier list) (asked.Url url) = Less
asked_cmp url_cmp (asked.Url url) (asked.VersionSpecifier list) = Greater
asked_cmp url_cmp (asked.Url url) (asked.Url other) = url_cmp url other

-- files before projects, and these before workspaces; then by the path and the name
abbrev pub origin_cmp : Origin → Origin → Ordering
origin_cmp (File path) (File other) = slice_cmp nat_cmp path other
origin_cmp (File path) origin = Less
origin_cmp (Project path name) (File other) = Greater
origin_cmp (Project path name) (Project other other_name) =
    ordering_then (slice_cmp nat_cmp path other) (name_cmp name other_name)
origin_cmp (Project path name) Workspace = Less
origin_cmp Workspace Workspace = Equal
origin_cmp Workspace origin = Greater

-- the name; the extras in their order; the specifiers or URL, none before all else; the meaning of the
-- marker; the origin, none before all others
abbrev pub requirement_cmp : {T E : Type 0} → (T → T → Ordering) → RequirementRef T E → RequirementRef T E
    → Ordering
requirement_cmp url_cmp a b =
    ordering_then (name_cmp a.name.now b.name.now)
    (ordering_then (slice_cmp name_cmp a.extras.now b.extras.now)
    (ordering_then (option_cmp (asked_cmp url_cmp) a.version_or_url.now b.version_or_url.now)
    (ordering_then (tree_ref_cmp a.marker b.marker)
    (option_cmp (λ x y. origin_cmp (origin_of x) (origin_of y)) a.origin.now b.origin.now))))
