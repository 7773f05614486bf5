-- Endings with markers that are simplified.
use Rattle.std.proofs.Common.{◌≡◌, ◌∙◌, ℕ, Bool, List, Option, inl, inr, subst}
use Rattle.std.specs.declared.ops.Bound.{Bound}
use Rattle.pep440_text.specs.Record.{VersionRecord}
use Rattle.pep508_diagram.specs.Question.{Valuation}
use Rattle.pep508_simplification.specs.Simplified.{IsSimplified, between}
use Rattle.pep508_tree.specs.Tree.{Tree}
use Rattle.pep508_tree.specs.Meaning.{NodeRecord, Extends, diagram_of, holds}
use Rattle.pep508_tree.proofs.Conjoining.{tree_kept}
use Rattle.pep508_tree.proofs.Diagrams.{holds_kept}
use Rattle.reqs_c_reply.specs.Endings.{Ending, Answered, Different, Refused, OutOfMemory, EndsIn, NoAnswer}
use Rattle.reqs_c_reply.proofs.Ends.{refused_more}
use Rattle.reqs_c_markers.specs.declared.bounds.Bounds.{Bounds}
use Rattle.reqs_c_markers.specs.Markers.{marker_holds, Wants, IsMarkerTree, AreFew, AreMore, HasTree, GivesText}
use Rattle.reqs_c_markers.specs.Markers.{RefusesText, TextEnds}
use Rattle.reqs_c_markers.specs.NormalTexts.{IsNormalDiagram, DiagramEnds}
use Rattle.reqs_c_markers.proofs.NormalTexts.{gives_text}
use Rattle.reqs_c_algebra.proofs.Saying.{tree_values}
use Rattle.reqs_c_algebra.specs.Arguments.{IsVersionOrNone, lower_bound, upper_bound}
use Rattle.reqs_c_algebra.specs.Simplified.{HoldsBetween, SimplifiedPythonEnds}

-- a tree of a marker is its tree still where nodes were added
pub kept : (most : ℕ) (old new : List NodeRecord) (tree : Tree) (bytes : List ℕ) → Extends old new → AreFew most new
    → IsMarkerTree old bytes tree → HasTree most bytes
kept most old new tree bytes more few is = record {
  nodes = new;
  tree = tree;
  are_few = few;
  is_tree = record {
    marker = is.marker;
    is_marker = is.is_marker;
    is_tree = record {
      made = tree_kept old new more tree is.is_tree.made;
      truth = λ v. holds_kept old new more tree is.is_tree.made v ∙ is.is_tree.truth v;
    };
  };
}

-- more nodes than may be are refused
pub too_many : (bounds : Bounds) (bytes : List ℕ) (Wanted : Wants) (old new : List NodeRecord) (tree : Tree)
    (ending : Ending) → EndsIn NoAnswer (AreMore 1 bounds.nodes new) ending → IsMarkerTree old bytes tree
    → TextEnds bounds bytes Wanted ending
too_many bounds bytes Wanted old new tree ending h is =
    refused_more (GivesText bounds bytes Wanted) (RefusesText bounds bytes Wanted) (AreMore 1 bounds.nodes new)
    (λ place message more.
    inl (inr (new, record { marker = is.marker; is_marker = is.is_marker; are_more = more }))) ending h

-- a tree is simplified as its marker is
pub text_between : (bounds : Bounds) (old new : List NodeRecord) (tree simple : Tree) (least end : Option VersionRecord)
    (lower upper : Bound VersionRecord) (ending : Ending) → lower ≡ lower_bound least → upper ≡ upper_bound end
    → IsSimplified (between lower upper) (holds old tree) (holds new simple) → IsNormalDiagram (diagram_of new simple)
    → DiagramEnds bounds.clauses (diagram_of new simple) ending → (bytes : List ℕ) → HasTree bounds.nodes bytes
    → IsMarkerTree old bytes tree → TextEnds bounds bytes (HoldsBetween least end) ending
text_between bounds old new tree simple least end lower upper ending is_lower is_upper h normal ends bytes has is =
    gives_text bounds bytes (HoldsBetween least end) is.marker (diagram_of new simple) ending is.is_marker has normal
    (subst (λ (bound : Bound VersionRecord).
    IsSimplified (between bound (upper_bound end)) (marker_holds is.marker) (holds new simple)) is_lower
    (subst (λ (bound : Bound VersionRecord). IsSimplified (between lower bound) (marker_holds is.marker) (holds new simple))
    is_upper
    (subst (λ (value : Valuation → Bool). IsSimplified (between lower upper) value (holds new simple))
    (tree_values old bytes tree is) h)))
    ends

-- the text is given or lacking, or the marker refused
module _ (bounds : Bounds) (bytes lower upper : List ℕ) where
  pub ends_between : (least end : Option VersionRecord) → IsVersionOrNone lower least → IsVersionOrNone upper end
      → (ending : Ending) → TextEnds bounds bytes (HoldsBetween least end) ending
      → SimplifiedPythonEnds bounds bytes lower upper ending
  ends_between least end is_least is_end (Answered text) h = record {
    least = least;
    end = end;
    are_bounds = record { is_least = is_least; is_end = is_end };
    gives = h;
  }
  ends_between least end is_least is_end (Different text) h = absurd h
  ends_between least end is_least is_end (Refused place message) (inl why) = inl why
  ends_between least end is_least is_end (Refused place message) (inr lacks) =
      inr (inr (inr (record {
        least = least;
        end = end;
        are_bounds = record { is_least = is_least; is_end = is_end };
        lacks = lacks;
      })))
  ends_between least end is_least is_end OutOfMemory h = tt
