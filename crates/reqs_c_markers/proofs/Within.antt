-- Trees within bounds.
use Rattle.std.proofs.Common.{◌≡◌, ℕ, true, List, Result, Ok, Err, IfOk, IfErr, inl, inr, subst}
use Rattle.std.specs.Str.{is_utf8, chars}
use Rattle.pep508_marker.specs.Expression.{ExpressionRecord}
use Rattle.pep508_formula.specs.Postfix.{Part, formula_of}
use Rattle.pep508_marker_parser.specs.Formula.{Formula}
use Rattle.pep508_marker_parser.specs.MarkerOutcome.{IsTreeOf}
use Rattle.pep508_marker_parser.specs.MarkerReading.{Marker, marker_at}
use Rattle.pep508_tree.specs.Tree.{Tree}
use Rattle.pep508_tree.specs.Meaning.{NodeRecord}
use Rattle.reqs_c_reply.specs.declared.ended.Ended.{Ended}
use Rattle.reqs_c_reply.specs.declared.place.Place.{Place}
use Rattle.reqs_c_reply.specs.Endings.{Ending, EndsIn, NoAnswer, ending_of}
use Rattle.reqs_c_reply.proofs.Ends.{refused_more}
use Rattle.reqs_c_markers.specs.Markers.{IsFormulaIn, IsMarkerTree, AreMore, RefusesMarker, RefusesTree, RefusesTreeOf}

-- the formula that was read is that of the marker
pub formula_read : (bytes text : List ℕ) (parts : List (Part ExpressionRecord)) (marker : Marker)
    → is_utf8 bytes ≡ true → text ≡ bytes → marker_at (chars text) ≡ Ok marker → formula_of parts ≡ marker.formula
    → IsFormulaIn bytes parts
formula_read bytes text parts marker e is reading formula = record {
  marker = marker;
  is_marker = record {
    is_utf8_text = e;
    is_marker = subst (λ (bs : List ℕ). marker_at (chars bs) ≡ Ok marker) is reading;
  };
  is_formula = formula;
}

-- the tree that was made of a marker's formula is the marker's
pub marker_tree : {E : Type 0} (nodes : List NodeRecord) (bytes : List ℕ) (parts : List (Part ExpressionRecord))
    (made : Result Tree E) (tree : Tree) → IsFormulaIn bytes parts → made ≡ Ok tree
    → IfOk made (λ tree. IsTreeOf nodes tree (formula_of parts)) → IsMarkerTree nodes bytes tree
marker_tree nodes bytes parts made tree formula is h = record {
  marker = formula.marker;
  is_marker = formula.is_marker;
  is_tree =
      subst (λ (f : Formula ExpressionRecord). IsTreeOf nodes tree f) formula.is_formula
      (subst (λ r. IfOk r (λ t. IsTreeOf nodes t (formula_of parts))) is h);
}

pub tree_read : {X E : Type 0} (nodes : List NodeRecord) (bytes : List ℕ) (parts : List (Part ExpressionRecord))
    (made : Result Tree E) (result : Result Tree X) → IsFormulaIn bytes parts
    → IfOk result (λ tree. made ≡ Ok tree) → IfOk made (λ tree. IsTreeOf nodes tree (formula_of parts))
    → IfOk result (IsMarkerTree nodes bytes)
tree_read nodes bytes parts made (Ok tree) formula is h = marker_tree nodes bytes parts made tree formula is h
tree_read nodes bytes parts made (Err error) formula is h = tt

module _ (input most : ℕ) (bytes : List ℕ) where
  -- a text that is no marker is refused
  pub no_marker : (ending : Ending) → EndsIn NoAnswer (RefusesMarker input bytes) ending
      → EndsIn NoAnswer (RefusesTree input most bytes) ending
  no_marker ending h =
      refused_more NoAnswer (RefusesTree input most bytes) (RefusesMarker input bytes) (λ place message no. inl no)
      ending h

  -- and so is a marker with too many nodes
  pub many_nodes : (nodes : List NodeRecord) (parts : List (Part ExpressionRecord)) (ending : Ending)
      → IsFormulaIn bytes parts → EndsIn NoAnswer (AreMore input most nodes) ending
      → EndsIn NoAnswer (RefusesTreeOf input most nodes bytes) ending
  many_nodes nodes parts ending formula h =
      refused_more NoAnswer (RefusesTreeOf input most nodes bytes) (AreMore input most nodes)
      (λ place message more. inr (record {
        marker = formula.marker;
        is_marker = formula.is_marker;
        are_more = more;
      })) ending h

  -- whatever the nodes are
  pub some_nodes : (nodes : List NodeRecord) (ending : Ending) → EndsIn NoAnswer (RefusesTreeOf input most nodes bytes) ending
      → EndsIn NoAnswer (RefusesTree input most bytes) ending
  some_nodes nodes ending h =
      refused_more NoAnswer (RefusesTree input most bytes) (RefusesTreeOf input most nodes bytes) (some nodes) ending h
    where
      some : (nodes : List NodeRecord) (place : Place) (message : List ℕ)
          → RefusesTreeOf input most nodes bytes place message → RefusesTree input most bytes place message
      some nodes place message (inl why) = inl why
      some nodes place message (inr more) = inr (nodes, more)

  pub nodes_refused : {X : Type 0} (nodes : List NodeRecord) (parts : List (Part ExpressionRecord))
      (result : Result X Ended) → IsFormulaIn bytes parts
      → IfErr result (λ ended. EndsIn NoAnswer (AreMore input most nodes) (ending_of ended))
      → IfErr result (λ ended. EndsIn NoAnswer (RefusesTreeOf input most nodes bytes) (ending_of ended))
  nodes_refused nodes parts (Ok tree) formula h = tt
  nodes_refused nodes parts (Err ended) formula h = many_nodes nodes parts (ending_of ended) formula h

  pub tree_refused : {X : Type 0} (nodes : List NodeRecord) (parts : List (Part ExpressionRecord))
      (result : Result X Ended) → IsFormulaIn bytes parts
      → IfErr result (λ ended. EndsIn NoAnswer (AreMore input most nodes) (ending_of ended))
      → IfErr result (λ ended. EndsIn NoAnswer (RefusesTree input most bytes) (ending_of ended))
  tree_refused nodes parts (Ok tree) formula h = tt
  tree_refused nodes parts (Err ended) formula h =
      some_nodes nodes (ending_of ended) (many_nodes nodes parts (ending_of ended) formula h)
