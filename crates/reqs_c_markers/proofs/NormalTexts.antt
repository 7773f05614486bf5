-- Normal texts of what is wanted of markers.
use Rattle.std.proofs.Common.{◌≡◌, ◌≤◌, ◌++◌, ℕ, List, [], Result, Some, None, String, string_bytes, codes, IfOk}
use Rattle.std.proofs.Common.{MatchResult, unwrap_or, inl, inr, refl}
use Rattle.pep508_diagram.specs.Diagram.{Diagram}
use Rattle.pep508_diagram.specs.Question.{Question, truth}
use Rattle.reqs_c_reply.specs.Endings.{Ending, Answered, Different, Refused, OutOfMemory, EndsIn, NoAnswer, span}
use Rattle.reqs_c_reply.proofs.Ends.{refused_with, refused_more, answered_with}
use Rattle.pep508_marker_display.specs.Counted.{clause_count}
use Rattle.pep508_marker_text_laws.specs.MarkerText.{marker_text}
use Rattle.reqs_c_markers.specs.declared.bounds.Bounds.{Bounds}
use Rattle.reqs_c_markers.specs.declared.normal_texts.TextFault.{TextFault}
use Rattle.reqs_c_markers.specs.NormalTexts.{IsNormalDiagram, IsTextOfDiagram, DiagramEnds, HasNoText, HasMoreClauses}
use Rattle.reqs_c_markers.specs.NormalTexts.{LacksText, text_fault, text_fault_words}
use Rattle.reqs_c_markers.specs.Markers.{Wants, IsMarkerIn, HasTree, RefusesTree, RefusesText, GivesText, TextEnds}
use Rattle.pep508_marker_parser.specs.MarkerReading.{Marker}

module _ (bounds : Bounds) (bytes : List ℕ) (Wanted : Wants) where
  -- the normal text of a diagram that is wanted is given, or said to be none
  pub gives_text : (marker : Marker) (diagram : Diagram Question) (ending : Ending) → IsMarkerIn bytes marker
      → HasTree bounds.nodes bytes → IsNormalDiagram diagram → Wanted marker (truth diagram)
      → DiagramEnds bounds.clauses diagram ending → TextEnds bounds bytes Wanted ending
  gives_text marker diagram (Answered text) is has normal wanted h = record {
    marker = marker;
    is_marker = is;
    has_tree = has;
    is_text = record { diagram = diagram; is_normal = normal; wanted = wanted; is_text = h };
  }
  gives_text marker diagram (Different text) is has normal wanted h = absurd h
  gives_text marker diagram (Refused place message) is has normal wanted h = inr (record {
    marker = marker;
    is_marker = is;
    has_tree = has;
    has_none = record { diagram = diagram; is_normal = normal; wanted = wanted; has_none = h };
  })
  gives_text marker diagram OutOfMemory is has normal wanted h = tt

  -- a text that is no marker's, or a marker with too many nodes, is refused
  pub no_tree : (ending : Ending) → EndsIn NoAnswer (RefusesTree 1 bounds.nodes bytes) ending
      → TextEnds bounds bytes Wanted ending
  no_tree ending h =
      refused_more (GivesText bounds bytes Wanted) (RefusesText bounds bytes Wanted) (RefusesTree 1 bounds.nodes bytes)
      (λ place message no. inl no) ending h

module _ (most : ℕ) (diagram : Diagram Question) where
  -- a diagram without a normal text is refused
  pub no_text : (ending : Ending) → EndsIn NoAnswer (HasNoText diagram) ending → DiagramEnds most diagram ending
  no_text ending h =
      refused_more (IsTextOfDiagram most diagram) (LacksText most diagram) (HasNoText diagram)
      (λ place message no. inl no) ending h

  -- and so is one with too many clauses
  pub many_clauses : (ending : Ending) → EndsIn NoAnswer (HasMoreClauses most diagram) ending
      → DiagramEnds most diagram ending
  many_clauses ending h =
      refused_more (IsTextOfDiagram most diagram) (LacksText most diagram) (HasMoreClauses most diagram)
      (λ place message no. inr no) ending h

  -- the text of another is given
  pub text_given : {Y E : Type 0} (text : Result (String Y) E) (ending : Ending)
      → MatchResult text (λ text. ending ≡ Answered (string_bytes text)) (λ error. ending ≡ OutOfMemory)
      → IfOk text (λ text. string_bytes text ≡ unwrap_or (marker_text diagram) [])
      → text_fault diagram ≡ None → clause_count diagram ≤ most → DiagramEnds most diagram ending
  text_given text ending is made no_fault few =
      answered_with (IsTextOfDiagram most diagram) (LacksText most diagram) text ending
      (unwrap_or (marker_text diagram) []) is made
      (record { no_fault = no_fault; few = few; is_text = refl })

-- a message that was made says why there is none
pub says_why : {Y E : Type 0} (fault : TextFault) (message : Result (String Y) E) (ending : Ending)
    (diagram : Diagram Question)
    → MatchResult message (λ text. ending ≡ Refused (span 1 0 0) (string_bytes text)) (λ error. ending ≡ OutOfMemory)
    → IfOk message (λ text. string_bytes text ≡ codes "no normal text: " ++ text_fault_words fault)
    → text_fault diagram ≡ Some fault → EndsIn NoAnswer (HasNoText diagram) ending
says_why fault message ending diagram is made h =
    refused_with NoAnswer (HasNoText diagram) (span 1 0 0) message ending
    (codes "no normal text: " ++ text_fault_words fault) is made
    (record { fault = fault; is_fault = h; stands = refl; says = refl })
