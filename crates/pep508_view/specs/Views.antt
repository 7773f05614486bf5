-- The content of a view: the node at a tree's root, with the tree's negation applied to its children.
use Rattle.std.specs.Prelude.{◌≡◌, ℕ, List, [], Option, Some, None, MatchOption}
use Rattle.pep440_text.specs.Record.{VersionRecord}
use Rattle.pep508_marker.specs.declared.keys.MarkerValueVersion.{MarkerValueVersion}
use Rattle.pep508_marker.specs.declared.keys.MarkerValueVersion.TheVariants as key
use Rattle.pep508_diagram.specs.declared.variable.VersionVariable.{VersionVariable}
use Rattle.pep508_diagram.specs.declared.variable.VersionVariable.TheVariants.{ImplementationVersion}
use Rattle.pep508_diagram.specs.declared.variable.VersionVariable.TheVariants.{PythonFullVersion}
use Rattle.pep508_diagram.specs.declared.variable.Flag.{Flag}
use Rattle.pep508_diagram.specs.declared.variable.Flag.TheVariants.{In, Contains, Extra, Arbitrary}
use Rattle.pep508_tree.specs.Tree.{Tree, always, never}
use Rattle.pep508_tree.specs.Meaning.{NodeRecord, Versions, Texts, Flagged}
use Rattle.pep508_tree.specs.Nodes.{signed}
use Rattle.pep508_tree.specs.Roots.{root_of}
use Rattle.pep508_view.specs.declared.version_view.VersionMarkerTree.{VersionMarkerTree}
use Rattle.pep508_view.specs.declared.text_view.StringMarkerTree.{StringMarkerTree}
use Rattle.pep508_view.specs.declared.occurrence_view.OccurrenceMarkerTree.{OccurrenceMarkerTree}
use Rattle.pep508_view.specs.declared.extra_view.ExtraMarkerTree.{ExtraMarkerTree}
use Rattle.pep508_view.specs.declared.extra_view.MarkerExtra.{MarkerExtra}
use Rattle.pep508_view.specs.declared.extra_view.MarkerExtra.TheVariants as extra
use Rattle.pep508_view.specs.declared.kind.MarkerTreeKind.{MarkerTreeKind}
use Rattle.pep508_view.specs.declared.kind.MarkerTreeKind.TheVariants as kind
use Rattle.pep508_view.specs.Edges.{EdgeOf, edges}

-- the key of a variable whose values are versions
abbrev pub key_of : VersionVariable → MarkerValueVersion
key_of ImplementationVersion = key.ImplementationVersion
key_of PythonFullVersion = key.PythonFullVersion

-- the flag of an extra
abbrev pub flag_of : MarkerExtra → Flag
flag_of (extra.Extra name) = Extra name.now
flag_of (extra.Arbitrary text) = Arbitrary text.now

-- ---- nodes

abbrev pub version_node : VersionMarkerTree → NodeRecord
version_node view = signed view.negated (Versions view.variable view.first view.later.now)

abbrev pub text_node : StringMarkerTree → NodeRecord
text_node view = signed view.negated (Texts view.key view.first view.later.now)

abbrev pub in_node : OccurrenceMarkerTree → NodeRecord
in_node view = Flagged (In view.key view.text.now) view.set view.unset

abbrev pub contains_node : OccurrenceMarkerTree → NodeRecord
contains_node view = Flagged (Contains view.key view.text.now) view.set view.unset

abbrev pub extra_node : ExtraMarkerTree → NodeRecord
extra_node view = Flagged (flag_of view.extra) view.set view.unset

-- ---- parts of nodes

-- the edges of a node of versions
abbrev pub version_edges : NodeRecord → List (EdgeOf VersionRecord)
version_edges (Versions key first later) = edges first later
version_edges (Texts key first later) = []
version_edges (Flagged flag set unset) = []

-- the edges of a node of texts
abbrev pub text_edges : NodeRecord → List (EdgeOf (List ℕ))
text_edges (Versions key first later) = []
text_edges (Texts key first later) = edges first later
text_edges (Flagged flag set unset) = []

-- ---- kinds

-- the tree that is viewed, with the node that is shown; a constant shows none
abbrev pub viewed : MarkerTreeKind → Option (Tree × NodeRecord)
viewed kind.True = None
viewed kind.False = None
viewed (kind.Version view) = Some (view.tree, version_node view)
viewed (kind.String view) = Some (view.tree, text_node view)
viewed (kind.In view) = Some (view.tree, in_node view)
viewed (kind.Contains view) = Some (view.tree, contains_node view)
viewed (kind.Extra view) = Some (view.tree, extra_node view)

-- the constant that a kind without a view names
abbrev pub constant_of : MarkerTreeKind → Tree
constant_of kind.True = always
constant_of _ = never

-- the kind of a tree: the constant that it is, or a view of it that shows its root
abbrev pub IsKind : List NodeRecord → Tree → MarkerTreeKind → Type 0
IsKind nodes tree kind =
    MatchOption (viewed kind) (tree ≡ constant_of kind)
    (λ view. (view.0 ≡ tree) × (root_of nodes tree ≡ Some view.1))
