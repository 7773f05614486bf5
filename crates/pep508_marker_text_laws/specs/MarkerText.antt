-- The text of a diagram of markers (PEP 508, "Environment Markers").
use Rattle.std.specs.Prelude.{ℕ, true, false, List, [], ◌∷◌, ◌++◌, codes, Option, Some, None}
use Rattle.std.specs.List.{filter, join_by}
use Rattle.pep508_marker.specs.Expression.{expression_text}
use Rattle.pep508_diagram.specs.Diagram.{Diagram, Leaf, Test}
use Rattle.pep508_diagram.specs.Question.{Question}
use Rattle.pep508_marker_text_laws.specs.Saying.{Clause}
use Rattle.pep508_marker_text_laws.specs.Clauses.{clauses_of}
use Rattle.pep508_marker_text_laws.specs.SameTerms.{same_term, opposite_term}
use Rattle.pep508_marker_text_laws.specs.Simplified.{has_some, simplified}

-- the clauses that are written for a diagram, of which one holds where it does
abbrev pub disjunction : Diagram Question → List Clause
disjunction diagram = simplified same_term opposite_term (filter has_some (clauses_of diagram))

abbrev pub clause_text : Clause → List ℕ
clause_text clause = join_by expression_text (codes " and ") clause

-- a clause among others: in brackets where it has several terms
abbrev pub bracketed_text : Clause → List ℕ
bracketed_text (term ∷ other ∷ terms) = codes "(" ++ clause_text (term ∷ other ∷ terms) ++ codes ")"
bracketed_text clause = clause_text clause

abbrev pub clauses_text : List Clause → List ℕ
clauses_text (clause ∷ other ∷ clauses) =
    join_by bracketed_text (codes " or ") (clause ∷ other ∷ clauses)
clauses_text (clause ∷ []) = clause_text clause
clauses_text [] = []

-- the text: none of what holds always; what never holds has a text that hardly any version meets
abbrev pub marker_text : Diagram Question → Option (List ℕ)
marker_text (Leaf true) = None
marker_text (Leaf false) = Some (codes "python_version < '0'")
marker_text (Test q low high) = Some (clauses_text (disjunction (Test q low high)))
