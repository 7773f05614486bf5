-- The clauses of a diagram of markers: for each way from its root to a leaf that is true, the values of the
-- variables on that way. Edges of one variable that lead to one diagram are written together.
use Rattle.std.specs.Prelude.{ℕ, ◌==◌, Bool, if◌then◌else◌, cond, List, [], ◌∷◌, ◌++◌, map}
use Rattle.std.specs.List.{flat_map}
use Rattle.version_ranges.specs.declared.boundary.Boundary.{Boundary}
use Rattle.pep440_text.specs.Record.{VersionRecord}
use Rattle.pep508_marker.specs.declared.keys.MarkerValueString.{MarkerValueString}
use Rattle.pep508_marker.specs.Keys.{text_key_rank}
use Rattle.pep508_diagram.specs.declared.branch.Branch.{Branch}
use Rattle.pep508_diagram.specs.declared.variable.VersionVariable.{VersionVariable}
use Rattle.pep508_diagram.specs.declared.variable.Flag.{Flag}
use Rattle.pep508_diagram.specs.Diagram.{Diagram, Leaf, Test}
use Rattle.pep508_diagram.specs.Question.{Question, VersionBelow, TextBelow, IsSet, version_rank}
use Rattle.pep508_marker_text_laws.specs.Groups.{firsts, standing, points_where}
use Rattle.pep508_marker_text_laws.specs.Saying.{Clause, Saying, set_clauses}
use Rattle.pep508_marker_text_laws.specs.SameDiagrams.{same_diagram}
use Rattle.pep508_marker_text_laws.specs.Terms.{version_saying, text_saying, set_term, unset_term}

-- a diagram with its clauses
pub record Part : Type 0 where
  pub diagram : Diagram Question
  pub clauses : List Clause

-- the edges of a diagram's first variable: from endpoints on, or where a flag is set and where it is not; a
-- leaf has none
pub data Edges : Type 0 where
  NoEdges : Edges
  Versions : VersionVariable → Part → List (Branch VersionRecord Part) → Edges
  Texts : MarkerValueString → Part → List (Branch (List ℕ) Part) → Edges
  Flagged : Flag → Part → Part → Edges

-- a diagram with its clauses and its edges
pub record Walk : Type 0 where
  pub part : Part
  pub edges : Edges

-- ---- edges

-- the edges of a variable from an endpoint on: those of the child there, where it tests that variable too,
-- and else the child
abbrev pub versions_from : VersionVariable → Boundary VersionRecord → Walk → Edges
    → List (Branch VersionRecord Part)
versions_from key boundary walk (Versions other first later) =
    cond (version_rank key == version_rank other) (record { boundary = boundary; child = first } ∷ later)
    (record { boundary = boundary; child = walk.part } ∷ [])
versions_from key boundary walk edges = record { boundary = boundary; child = walk.part } ∷ []

abbrev pub texts_from : MarkerValueString → Boundary (List ℕ) → Walk → Edges → List (Branch (List ℕ) Part)
texts_from key boundary walk (Texts other first later) =
    cond (text_key_rank key == text_key_rank other) (record { boundary = boundary; child = first } ∷ later)
    (record { boundary = boundary; child = walk.part } ∷ [])
texts_from key boundary walk edges = record { boundary = boundary; child = walk.part } ∷ []

-- the edges of a question with the diagrams for yes and for no
abbrev pub edges_of : Question → Walk → Walk → Edges
edges_of (VersionBelow key boundary) low high =
    Versions key low.part (versions_from key boundary high high.edges)
edges_of (TextBelow key boundary) low high = Texts key low.part (texts_from key boundary high high.edges)
edges_of (IsSet flag) low high = Flagged flag low.part high.part

-- ---- clauses

-- each of some clauses followed by each of others
abbrev pub followed_by : List Clause → List Clause → List Clause
followed_by others ones = flat_map (λ one. map (λ other. one ++ other) others) ones

abbrev pub same_part : Part → Part → Bool
same_part a b = same_diagram a.diagram b.diagram

-- the clauses of what leads to one diagram: that the value lies there, and then the diagram's own
abbrev pub group_clauses : {T : Type 0} → Saying T → Part → List (Branch T Part) → Part → List Clause
group_clauses say first later part =
    followed_by part.clauses (set_clauses say (points_where (same_part part) first later))

-- those of all groups, in the order of each one's first edge
abbrev pub grouped_clauses : {T : Type 0} → Saying T → Part → List (Branch T Part) → List Clause
grouped_clauses say first later =
    flat_map (group_clauses say first later) (firsts same_part (standing first later))

abbrev pub edge_clauses : Edges → List Clause
edge_clauses NoEdges = []
edge_clauses (Versions key first later) = grouped_clauses (version_saying key) first later
edge_clauses (Texts key first later) = grouped_clauses (text_saying key) first later
edge_clauses (Flagged flag set unset) =
    map (λ clause. set_term flag ∷ clause) set.clauses
    ++ map (λ clause. unset_term flag ∷ clause) unset.clauses

-- ---- diagrams

abbrev pub with_edges : Diagram Question → Edges → Walk
with_edges diagram edges =
    record { part = record { diagram = diagram; clauses = edge_clauses edges }; edges = edges }

-- the way through a diagram; the empty clause holds always
abbrev pub walk_of : Diagram Question → Walk
walk_of (Leaf b) =
    record { part = record { diagram = Leaf b; clauses = if b then [] ∷ [] else [] }; edges = NoEdges }
walk_of (Test q low high) = with_edges (Test q low high) (edges_of q (walk_of low) (walk_of high))

abbrev pub clauses_of : Diagram Question → List Clause
clauses_of diagram = (walk_of diagram).part.clauses
