-- Diagrams that tie are the same where their versions are short, and so print the same.
use Rattle.std.proofs.Common.{◌≡◌, ap, IsTrue}
use Rattle.std.specs.Ordering.{eq_by_cmp}
use Rattle.pep508_diagram.specs.Diagram.{Diagram}
use Rattle.pep508_diagram.specs.Question.{Question, IsCanonical}
use Rattle.pep508_diagram.specs.Shortened.{HasShortVersions}
use Rattle.pep508_marker_text_laws.proofs.Spelled.{one_spelling}
use Rattle.pep508_tree_ref.specs.TreeOrder.{diagram_cmp}
use Rattle.pep508_tree_ref.specs.TreeText.{tree_text}
use Rattle.pep508_tree_ref.proofs.Ordered.{tied_mean_the_same}

pub tied_are_same : (d e : Diagram Question) → IsCanonical d → IsCanonical e → HasShortVersions d →
    HasShortVersions e → IsTrue (eq_by_cmp diagram_cmp d e) → d ≡ e
tied_are_same d e canonical other_canonical short other_short tied =
    one_spelling d e canonical other_canonical short other_short
    ((tied_mean_the_same d e canonical other_canonical).0 tied)

pub tied_print_the_same : (d e : Diagram Question) → IsCanonical d → IsCanonical e → HasShortVersions d →
    HasShortVersions e → IsTrue (eq_by_cmp diagram_cmp d e) → tree_text d ≡ tree_text e
tied_print_the_same d e canonical other_canonical short other_short tied =
    ap tree_text (tied_are_same d e canonical other_canonical short other_short tied)
