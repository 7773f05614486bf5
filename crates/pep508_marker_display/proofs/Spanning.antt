-- What is said of sets, by the intervals that they leave out.
use Rattle.std.proofs.Common.{◌≡◌, Bool, true, false, cond, List, [], ◌∷◌, map, Option, Some, None, refl, sym}
use Rattle.std.proofs.Common.{ap, ap₂, ◌∙◌}
use Rattle.std.specs.Option.{option_or}
use Rattle.std.specs.Prelude.{option_map}
use Rattle.std.specs.Ordering.{eq_by_cmp}
use Rattle.version_ranges.specs.declared.boundary.Boundary.{Boundary}
use Rattle.version_ranges.specs.declared.boundary.Boundary.TheVariants.{At, JustAbove}
use Rattle.version_ranges.specs.Boundaries.{point_of, turns_of}
use Rattle.version_ranges.specs.Bounds.{intervals}
use Rattle.pep508_diagram.specs.declared.branch.Branch.{Branch}
use Rattle.pep508_marker_text_laws.specs.Groups.{turning, points_where}
use Rattle.pep508_marker_text_laws.specs.Saying.{Clause, Saying, left_out, star_out, exclusion, interval_clause}
use Rattle.pep508_marker_text_laws.specs.Saying.{one_or_intervals, set_clauses}
use Rattle.pep508_tree.specs.Tree.{Tree}
use Rattle.pep508_marker_display.specs.Spans.{spans, differs_before, differs_from, star_from, left_out_by}
use Rattle.pep508_marker_display.specs.Trees.{same_tree}
use Rattle.pep508_marker_display.proofs.Turning.{opposite_turning}

module _ {T : Type 0} (say : Saying T) where
  differs_with : (one : Bool) (v : T) (found : Option Clause) (left : Option (List T)) →
      found ≡ option_map (map say.differs) left →
      differs_before say (cond one (Some v) None) found
      ≡ option_map (map say.differs) (cond one (option_map (λ vs. v ∷ vs) left) None)
  differs_with true v found None e = ap (option_map (λ terms. say.differs v ∷ terms)) e
  differs_with true v found (Some vs) e = ap (option_map (λ terms. say.differs v ∷ terms)) e
  differs_with false v found left e = refl

  differs_is : (bs : List (Boundary T)) →
      differs_from say (intervals (map point_of bs)) ≡ option_map (map say.differs) (left_out say.cmp (map point_of bs))
  differs_is [] = refl
  differs_is (At v ∷ []) = refl
  differs_is (JustAbove v ∷ []) = refl
  differs_is (At v ∷ At w ∷ later) = refl
  differs_is (At v ∷ JustAbove w ∷ later) =
      differs_with (eq_by_cmp say.cmp v w) v (differs_from say (intervals (map point_of later)))
      (left_out say.cmp (map point_of later)) (differs_is later)
  differs_is (JustAbove v ∷ At w ∷ later) = refl
  differs_is (JustAbove v ∷ JustAbove w ∷ later) = refl

  star_is : (bs : List (Boundary T)) → star_from say (intervals (map point_of bs)) ≡ star_out say (map point_of bs)
  star_is [] = refl
  star_is (At v ∷ []) = refl
  star_is (JustAbove v ∷ []) = refl
  star_is (At v ∷ At w ∷ []) = refl
  star_is (At v ∷ At w ∷ b ∷ []) = refl
  star_is (At v ∷ At w ∷ b ∷ c ∷ later) = refl
  star_is (At v ∷ JustAbove w ∷ []) = refl
  star_is (At v ∷ JustAbove w ∷ b ∷ []) = refl
  star_is (At v ∷ JustAbove w ∷ b ∷ c ∷ later) = refl
  star_is (JustAbove v ∷ At w ∷ []) = refl
  star_is (JustAbove v ∷ At w ∷ b ∷ []) = refl
  star_is (JustAbove v ∷ At w ∷ b ∷ c ∷ later) = refl
  star_is (JustAbove v ∷ JustAbove w ∷ []) = refl
  star_is (JustAbove v ∷ JustAbove w ∷ b ∷ []) = refl
  star_is (JustAbove v ∷ JustAbove w ∷ b ∷ c ∷ later) = refl

  begins_high : (bs : List (Boundary T)) → exclusion say (map point_of bs) ≡ None
  begins_high [] = refl
  begins_high (At v ∷ later) = refl
  begins_high (JustAbove v ∷ later) = refl

  module _ (tree first : Tree) (later : List (Branch T Tree)) where
    -- what is left out where the tree stands below the first boundary
    left_out_is : left_out_by say (spans tree true false later)
        ≡ exclusion say (turns_of true (turning (same_tree tree) true later))
    left_out_is =
        let bs = turning (same_tree tree) true later in
        ap (λ bs. left_out_by say (intervals (map point_of bs))) (opposite_turning (same_tree tree) true later)
        ∙ ap₂ option_or (differs_is bs) (star_is bs)

    pub excluded : (clause : Clause) → same_tree tree first ≡ true →
        Some clause ≡ left_out_by say (spans tree true false later) →
        clause ∷ [] ≡ set_clauses say (points_where (same_tree tree) first later)
    excluded clause held e =
        sym (ap (λ b. set_clauses say (turns_of b (turning (same_tree tree) b later))) held
        ∙ ap (one_or_intervals say (turns_of true (turning (same_tree tree) true later))) (sym (e ∙ left_out_is)))

    pub none_excluded : same_tree tree first ≡ true → None ≡ left_out_by say (spans tree true false later) →
        map (interval_clause say) (spans tree false true later)
        ≡ set_clauses say (points_where (same_tree tree) first later)
    none_excluded held e =
        sym (ap (λ b. set_clauses say (turns_of b (turning (same_tree tree) b later))) held
        ∙ ap (one_or_intervals say (turns_of true (turning (same_tree tree) true later))) (sym (e ∙ left_out_is)))

    pub not_below : same_tree tree first ≡ false →
        map (interval_clause say) (spans tree false false later)
        ≡ set_clauses say (points_where (same_tree tree) first later)
    not_below held =
        sym (ap (λ b. set_clauses say (turns_of b (turning (same_tree tree) b later))) held
        ∙ ap (one_or_intervals say (turns_of false (turning (same_tree tree) false later)))
        (begins_high (turning (same_tree tree) false later)))

-- What the span of a set leaves out.
pub ruleset span_rules = (excluded, none_excluded, not_below)
