pub use Rattle.pep508_name.specs.Name
pub use Rattle.pep508_name.specs.Origin
pub use Rattle.pep508_url.specs.Vars
pub use Rattle.pep508_url.specs.Expansion
pub use Rattle.pep508_url.specs.Schemes
pub use Rattle.pep508_url.specs.Splits
pub use Rattle.pep508_url.specs.UrlFaults
pub use Rattle.pep508_url.specs.Paths
pub use Rattle.pep508_url.specs.UrlTexts
pub use Rattle.pep508_url.specs.Lacking
pub use Rattle.pep508_error.specs.Spans
pub use Rattle.pep508_error.specs.Cuts
pub use Rattle.pep508_error.specs.Steps
pub use Rattle.pep508_error.specs.Errors
pub use Rattle.pep508_marker.specs.Keys
pub use Rattle.pep508_marker.specs.Operators
pub use Rattle.pep508_marker.specs.Values
pub use Rattle.pep508_marker.specs.Expression
pub use Rattle.pep508_marker.specs.Warnings
pub use Rattle.pep508_environment.specs.Environment
pub use Rattle.pep508_environment.specs.EnvironmentValues
pub use Rattle.pep508_environment.specs.EnvironmentLaws
pub use Rattle.pep508_environment.specs.Building
pub use Rattle.pep508_comparison.specs.Comparisons
pub use Rattle.pep508_diagram.specs.Diagram
pub use Rattle.pep508_diagram.specs.Question
pub use Rattle.pep508_diagram.specs.Chains
pub use Rattle.pep508_diagram.specs.Branches
pub use Rattle.pep508_diagram.specs.Questions
pub use Rattle.pep508_diagram.specs.Shortened
pub use Rattle.pep508_diagram.specs.Text
pub use Rattle.pep508_tree.specs.Tree
pub use Rattle.pep508_tree.specs.Meaning
pub use Rattle.pep508_tree.specs.Truths
pub use Rattle.pep508_tree.specs.Nodes
pub use Rattle.pep508_tree.specs.Disjoint
pub use Rattle.pep508_tree.specs.Interning
pub use Rattle.pep508_evaluation.specs.Valuations
pub use Rattle.pep508_evaluation.specs.Warned
pub use Rattle.pep508_evaluation.specs.Edges as WarnedEdges
pub use Rattle.pep508_view.specs.Edges as ShownEdges
pub use Rattle.pep508_view.specs.Views
pub use Rattle.pep508_view.specs.Reading as ReadViewsOf
pub use Rattle.pep508_view.specs.ReadOff
pub use Rattle.pep508_view.specs.Shown
pub use Rattle.pep508_view.specs.Sameness
pub use Rattle.pep508_view.specs.SamenessLaws
pub use Rattle.pep508_marker_key.specs.Told as MarkerKeyBytes
pub use Rattle.pep508_marker_key.specs.Walk as MarkerKeyWalk
pub use Rattle.pep508_marker_key.specs.Key as MarkerKey
pub use Rattle.pep508_expression.specs.Expressions
pub use Rattle.pep508_expression.specs.Trees as ExpressionTrees
pub use Rattle.pep508_simplification.specs.Simplified as SimplifiedTrees
pub use Rattle.pep508_simplification.specs.Parts
pub use Rattle.pep508_simplification.specs.Named
pub use Rattle.pep508_simplification.specs.Within
pub use Rattle.pep508_simplification.specs.Narrowed
pub use Rattle.pep508_marker_text_laws.specs.Groups
pub use Rattle.pep508_marker_text_laws.specs.Saying
pub use Rattle.pep508_marker_text_laws.specs.Terms
pub use Rattle.pep508_marker_text_laws.specs.SameDiagrams
pub use Rattle.pep508_marker_text_laws.specs.Clauses
pub use Rattle.pep508_marker_text_laws.specs.Simplified as SimplifiedClauses
pub use Rattle.pep508_marker_text_laws.specs.SameTerms
pub use Rattle.pep508_marker_text_laws.specs.ReleaseBounds
pub use Rattle.pep508_marker_text_laws.specs.Truth
pub use Rattle.pep508_marker_text_laws.specs.Raisable
pub use Rattle.pep508_marker_text_laws.specs.MarkerText as MarkerPrint
pub use Rattle.pep508_marker_display.specs.Said
pub use Rattle.pep508_marker_display.specs.TopExtra
pub use Rattle.pep508_marker_display.specs.Counted
pub use Rattle.pep508_tree_ref.specs.TreeOrder
pub use Rattle.pep508_tree_ref.specs.TreeIn
pub use Rattle.pep508_tree_ref.specs.TreeOrderLaws
pub use Rattle.pep508_tree_ref.specs.TreeText
pub use Rattle.pep508_tree_ref.specs.Lent
pub use Rattle.pep508_comparison_parser.specs.Compared
pub use Rattle.pep508_comparison_parser.specs.SideReading
pub use Rattle.pep508_comparison_parser.specs.Notices
pub use Rattle.pep508_comparison_parser.specs.Outcome
pub use Rattle.pep508_marker_parser.specs.Formula
pub use Rattle.pep508_marker_parser.specs.MarkerReading
pub use Rattle.pep508_marker_parser.specs.MarkerText
pub use Rattle.pep508_marker_parser.specs.MarkerOutcome
pub use Rattle.pep508_marker_parser.specs.TreeReading
pub use Rattle.pep508_marker_parser.specs.TextOutcome
pub use Rattle.pep508_requirement_text.specs.Archives
pub use Rattle.pep508_requirement_text.specs.Unnamed
pub use Rattle.pep508_requirement_text.specs.UrlEnds
pub use Rattle.pep508_requirement_text.specs.FrontReading
pub use Rattle.pep508_requirement_text.specs.FrontText
pub use Rattle.pep508_requirement_text.specs.FrontOutcome
pub use Rattle.pep508_requirement_text.specs.UnnamedReading
pub use Rattle.pep508_requirement_text.specs.UnnamedText
pub use Rattle.pep508_requirement.specs.Asked as AskedFor
pub use Rattle.pep508_requirement.specs.Requirements
pub use Rattle.pep508_requirement.specs.MarkerBehind
pub use Rattle.pep508_requirement.specs.RequirementReading
pub use Rattle.pep508_requirement.specs.ExtrasReading
pub use Rattle.pep508_requirement.specs.UnnamedUrls
pub use Rattle.pep508_requirement.specs.UnnamedRequirementReading
pub use Rattle.pep508_requirement.specs.RequirementText
pub use Rattle.pep508_requirement_ref.specs.RequirementPrint
pub use Rattle.pep508_requirement_ref.specs.Views as RequirementViews
pub use Rattle.pep508_requirement_ref.specs.RequirementOrder
pub use Rattle.pep508_questions.specs.Asks
pub use Rattle.pep508_reading_back.specs.Readable
pub use Rattle.pep508_reading_back.specs.Clauses as ReadableClauses
pub use Rattle.pep508_reading_back.specs.Diagrams as ReadableDiagrams
pub use Rattle.pep508_reading_back.specs.ReadableRequirements
pub use Rattle.pep508_reading_back.specs.Views as ReadableViews
pub use Rattle.pep508_reading_back.specs.ReadViews
pub use Rattle.pep508_reading_back.specs.Asked as AnsweredAlike
pub use Rattle.pep508_reading_back.specs.Told
pub use Rattle.pep508_reading_back.specs.Lines
pub use Rattle.pep508_reading_back.specs.Unquoted
pub use Rattle.pep508_reading_back.specs.Writable
