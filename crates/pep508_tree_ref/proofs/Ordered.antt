-- Diagrams tie where they are one.
use Rattle.std.proofs.Common.{◌≡◌, ◌↔◌, Bool, true, false, not, refl, sym, ap, ◌∙◌, true≢false, IsTrue}
use Rattle.std.proofs.Common.{Ordering, Less, Equal, Greater, is_eq}
use Rattle.std.specs.Ordering.{bool_cmp, ordering_then, eq_by_cmp}
use Rattle.pep508_diagram.specs.Diagram.{Diagram, Leaf, Test}
use Rattle.pep508_diagram.specs.Question.{Question, Valuation, question_cmp, truth, AreOne, IsCanonical}
use Rattle.pep508_diagram.proofs.Alike.{shares_equal, alike_truth}
use Rattle.pep508_diagram.proofs.Places.{equal_from}
use Rattle.version_ranges.specs.HashingLaws.{then_equal}
use Rattle.pep508_diagram.proofs.Questions.{asks, one_marker_diagram}
use Rattle.pep508_tree_ref.specs.TreeOrder.{is_last, diagram_cmp}

-- ---- ties

level_leaves : (b c : Bool) → bool_cmp (not b) (not c) ≡ Equal → b ≡ c
level_leaves true true e = refl
level_leaves true false e = absurd (true≢false (sym (ap is_eq e)))
level_leaves false true e = absurd (true≢false (sym (ap is_eq e)))
level_leaves false false e = refl

equal_level : (b c : Bool) → b ≡ c → bool_cmp b c ≡ Equal
equal_level true true e = refl
equal_level true false e = absurd (true≢false e)
equal_level false true e = absurd (true≢false (sym e))
equal_level false false e = refl

never_less : Less ≡ Equal → ⊥
never_less e = true≢false (sym (ap is_eq e))

never_greater : Greater ≡ Equal → ⊥
never_greater e = true≢false (sym (ap is_eq e))

pub tied_are_one : (d e : Diagram Question) → diagram_cmp d e ≡ Equal → AreOne d e
tied_are_one (Leaf b) (Leaf c) t = level_leaves b c t
tied_are_one (Leaf b) (Test r m k) t = absurd (never_less t)
tied_are_one (Test q l h) (Leaf c) t = absurd (never_greater t)
tied_are_one (Test q l h) (Test r m k) t =
    let first = then_equal (question_cmp q r) _ t in
    let low = then_equal (diagram_cmp l m) _ first.1 in
    let last = then_equal (bool_cmp (is_last q h) (is_last r k)) _ low.1 in
    (first.0, tied_are_one l m low.0, tied_are_one h k last.1)

-- diagrams that are one end an edge alike
same_last : (q r : Question) → question_cmp q r ≡ Equal → (h k : Diagram Question) → AreOne h k →
    is_last q h ≡ is_last r k
same_last q r e (Leaf b) (Leaf c) one = refl
same_last q r e (Leaf b) (Test s m k) one = absurd one
same_last q r e (Test p l h) (Leaf c) one = absurd one
same_last q r e (Test p l h) (Test s m k) one =
    ap not (shares_equal asks q p s one.0 ∙ asks.shares_turned q s ∙ shares_equal asks s q r e ∙ asks.shares_turned s r)

both_tied : (o p : Ordering) → o ≡ Equal → p ≡ Equal → ordering_then o p ≡ Equal
both_tied o p e f = ap (λ a. ordering_then a p) e ∙ f

pub one_are_tied : (d e : Diagram Question) → AreOne d e → diagram_cmp d e ≡ Equal
one_are_tied (Leaf b) (Leaf c) one = equal_level (not b) (not c) (ap not one)
one_are_tied (Leaf b) (Test r m k) one = absurd one
one_are_tied (Test q l h) (Leaf c) one = absurd one
one_are_tied (Test q l h) (Test r m k) one =
    both_tied (question_cmp q r) _ one.0
    (both_tied (diagram_cmp l m) _ (one_are_tied l m one.1)
    (both_tied (bool_cmp (is_last q h) (is_last r k)) (diagram_cmp h k)
    (equal_level (is_last q h) (is_last r k) (same_last q r one.0 h k one.2)) (one_are_tied h k one.2)))

-- canonical diagrams tie where they mean the same
pub tied_mean_the_same : (d e : Diagram Question) → IsCanonical d → IsCanonical e →
    IsTrue (eq_by_cmp diagram_cmp d e) ↔ ((v : Valuation) → truth d v ≡ truth e v)
tied_mean_the_same d e canonical other_canonical = (
  λ tied v. alike_truth asks d e (tied_are_one d e (equal_from (diagram_cmp d e) tied)) v,
  λ agree. ap is_eq (one_are_tied d e (one_marker_diagram d e canonical other_canonical agree)),
)
