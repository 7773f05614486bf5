-- The texts of terms and clauses, the first and those behind it.
use Rattle.std.proofs.Common.{◌≡◌, ◌==◌, false, List, [], ◌∷◌, ◌++◌, map, length, refl, ap, ◌∙◌, true≢false}
use Rattle.std.specs.Prelude.{codes, Vec}
use Rattle.std.specs.List.{flat_map}
use Rattle.pep508_marker.specs.declared.expression.MarkerExpression.{MarkerExpression}
use Rattle.pep508_marker.specs.Expression.{expression_of, expression_text}
use Rattle.pep508_marker_text_laws.specs.MarkerText.{clause_text, bracketed_text, clauses_text}
use Rattle.pep508_clauses.specs.Terms.{clause_of, clauses_shown}
use Rattle.pep508_clauses.specs.Texts.{and_term, or_clause}

flat_map_map : {A B D : Type 0} (h : B → List D) (k : A → B) (xs : List A) →
    flat_map h (map k xs) ≡ flat_map (λ x. h (k x)) xs
flat_map_map h k [] = refl
flat_map_map h k (x ∷ xs) = ap (λ rest. h (k x) ++ rest) (flat_map_map h k xs)

pub joined_terms : (first : MarkerExpression) (others : List MarkerExpression) →
    clause_text (clause_of (first ∷ others))
    ≡ expression_text (expression_of first) ++ flat_map and_term others
joined_terms first others =
    ap (λ rest. expression_text (expression_of first) ++ rest)
    (flat_map_map (λ term. codes " and " ++ expression_text term) expression_of others)

joined_clauses : {Y : Type 0} (first other : Vec MarkerExpression Y) (others : List (Vec MarkerExpression Y)) →
    clauses_text (clauses_shown (first ∷ other ∷ others))
    ≡ bracketed_text (clause_of first.items) ++ flat_map or_clause (other ∷ others)
joined_clauses first other others =
    ap (λ rest. bracketed_text (clause_of first.items) ++ rest)
    (flat_map_map (λ clause. codes " or " ++ bracketed_text clause) (λ clause. clause_of clause.items)
    (other ∷ others))

pub joined_all : {Y : Type 0} (clauses : List (Vec MarkerExpression Y)) (first : Vec MarkerExpression Y)
    (others : List (Vec MarkerExpression Y)) → clauses ≡ first ∷ others → (length others == 0) ≡ false →
    clauses_text (clauses_shown clauses) ≡ bracketed_text (clause_of first.items) ++ flat_map or_clause others
joined_all clauses first [] is some = absurd (true≢false some)
joined_all clauses first (other ∷ others) is some =
    ap (λ all. clauses_text (clauses_shown all)) is ∙ joined_clauses first other others
