-- The test of whether diagrams are one says that they are.
use Rattle.std.proofs.Common.{◌≡◌, Bool, true, false, not, refl, sym, ap, true≢false}
use Rattle.std.specs.Ordering.{is_eq}
use Rattle.version_ranges.specs.Turns.{flips}
use Rattle.pep508_diagram.specs.Diagram.{Diagram, Leaf, Test}
use Rattle.pep508_diagram.specs.Question.{Question, Valuation, question_cmp, truth, AreOne}
use Rattle.pep508_diagram.proofs.Alike.{alike_itself, alike_on, alike_truth}
use Rattle.pep508_diagram.proofs.Places.{equal_from}
use Rattle.pep508_diagram.proofs.Questions.{asks}
use Rattle.pep508_marker_text_laws.specs.SameDiagrams.{same_diagram}
use Rattle.pep508_marker_text_laws.proofs.Removals.{both, together}

same_leaf : (b c : Bool) → not (flips b c) ≡ true → b ≡ c
same_leaf true true e = refl
same_leaf true false e = absurd (true≢false (sym e))
same_leaf false true e = absurd (true≢false (sym e))
same_leaf false false e = refl

one_leaf : (b c : Bool) → b ≡ c → not (flips b c) ≡ true
one_leaf true true e = refl
one_leaf true false e = absurd (true≢false e)
one_leaf false true e = absurd (true≢false (sym e))
one_leaf false false e = refl

pub same_are_one : (d e : Diagram Question) → same_diagram d e ≡ true → AreOne d e
same_are_one (Leaf b) (Leaf c) h = same_leaf b c h
same_are_one (Leaf b) (Test r low high) h = absurd (true≢false (sym h))
same_are_one (Test q low high) (Leaf c) h = absurd (true≢false (sym h))
same_are_one (Test q low high) (Test r other_low other_high) h =
    let parts = both (is_eq (question_cmp q r)) _ h in
    let rest = both (same_diagram low other_low) (same_diagram high other_high) parts.1 in (
      equal_from (question_cmp q r) parts.0,
      same_are_one low other_low rest.0,
      same_are_one high other_high rest.1,
    )

pub one_are_same : (d e : Diagram Question) → AreOne d e → same_diagram d e ≡ true
one_are_same (Leaf b) (Leaf c) h = one_leaf b c h
one_are_same (Leaf b) (Test r low high) h = absurd h
one_are_same (Test q low high) (Leaf c) h = absurd h
one_are_same (Test q low high) (Test r other_low other_high) h =
    together (is_eq (question_cmp q r)) _ (ap is_eq h.0)
    (together (same_diagram low other_low) (same_diagram high other_high) (one_are_same low other_low h.1)
    (one_are_same high other_high h.2))

pub same_itself : (d : Diagram Question) → same_diagram d d ≡ true
same_itself d = one_are_same d d (alike_itself asks d)

pub same_on : (d e f : Diagram Question) → same_diagram d e ≡ true → same_diagram e f ≡ true →
    same_diagram d f ≡ true
same_on d e f h k = one_are_same d f (alike_on asks d e f (same_are_one d e h) (same_are_one e f k))

pub same_truth : (d e : Diagram Question) (v : Valuation) → same_diagram d e ≡ true → truth d v ≡ truth e v
same_truth d e v h = alike_truth asks d e (same_are_one d e h) v
