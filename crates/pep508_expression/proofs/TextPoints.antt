-- Texts on either side of boundaries.
use Rattle.std.proofs.Common.{◌≡◌, ◌∙◌, ℕ, Bool, true, false, not, cond, List, [], ◌∷◌, refl, ap, sym}
use Rattle.std.proofs.Common.{Ordering, Less, Equal, Greater, is_eq, is_gt}
use Rattle.std.specs.Ordering.{ordering_then, ordering_reverse}
use Rattle.std.specs.Cmp.{tied_itself}
use Rattle.std.specs.Cmp.Lexicographic.{nat_list_cmp_total}
use Rattle.std.specs.declared.ops.Bound.TheVariants.{Included, Excluded}
use Rattle.version_ranges.specs.declared.boundary.Boundary.{Boundary}
use Rattle.version_ranges.specs.declared.boundary.Boundary.TheVariants as boundary
use Rattle.version_ranges.specs.Boundaries.{point_of, boundary_cmp}
use Rattle.version_ranges.specs.Bounds.{goes_on_to}
use Rattle.version_ranges.specs.Point.{Point, BelowAll, At, JustAbove, point_cmp}
use Rattle.version_ranges.specs.Turns.{flips, reaches, Rising}
use Rattle.version_ranges.proofs.Reading.{goes_to}
use Rattle.pep508_diagram.specs.Text.{text_cmp}
use Rattle.pep508_diagram.specs.Branches.{branch_at, by_turns}

-- between at a text and just above it lies the text alone
between : (o : Ordering) → cond (not (is_gt o)) (cond (not (is_gt (ordering_then o Greater))) false true) false
    ≡ is_eq (ordering_reverse o)
between Less = refl
between Equal = refl
between Greater = refl

between_above : (o : Ordering) → cond (not (is_gt (ordering_then o Less))) (cond (not (is_gt o)) false true) false
    ≡ is_eq (ordering_then (ordering_reverse o) Greater)
between_above Less = refl
between_above Equal = refl
between_above Greater = refl

one_text : (text : List ℕ) (p : Point (List ℕ)) →
    branch_at text_cmp false (by_turns false (boundary.At text ∷ boundary.JustAbove text ∷ [])) p
    ≡ is_eq (point_cmp text_cmp p (At text))
one_text text BelowAll = refl
one_text text (At other) =
    between (text_cmp text other) ∙ ap is_eq (sym (nat_list_cmp_total.antisymm other text))
one_text text (JustAbove other) =
    between_above (text_cmp text other)
    ∙ ap (λ o. is_eq (ordering_then o Greater)) (sym (nat_list_cmp_total.antisymm other text))

-- with the other truth first, all is turned
turned : (a b : Bool) → cond a (cond b true false) true ≡ not (cond a (cond b false true) false)
turned true true = refl
turned true false = refl
turned false b = refl

pub equal_texts : (negated : Bool) (text : List ℕ) (p : Point (List ℕ)) →
    branch_at text_cmp negated (by_turns negated (boundary.At text ∷ boundary.JustAbove text ∷ [])) p
    ≡ flips negated (is_eq (point_cmp text_cmp p (At text)))
equal_texts false text p = one_text text p
equal_texts true text p =
    turned (reaches (point_cmp text_cmp) (At text) p) (reaches (point_cmp text_cmp) (JustAbove text) p)
    ∙ ap not (one_text text p)

-- the boundaries of one text rise
pub equal_rises : (text : List ℕ) → Rising (boundary_cmp text_cmp) (boundary.At text ∷ boundary.JustAbove text ∷ [])
equal_rises text = ((ap (λ o. ordering_then o Less) (tied_itself nat_list_cmp_total text), tt), (tt, tt))

one_side : (below up : Bool) → cond up (not below) below ≡ flips below up
one_side true true = refl
one_side true false = refl
one_side false true = refl
one_side false false = refl

pub side_texts : (below : Bool) (b : Boundary (List ℕ)) (p : Point (List ℕ)) →
    branch_at text_cmp below (by_turns below (b ∷ [])) p
    ≡ flips below (reaches (point_cmp text_cmp) (point_of b) p)
side_texts below b p = one_side below (reaches (point_cmp text_cmp) (point_of b) p)

-- what an upper bound holds lies below its boundary
pub below_text : (text : List ℕ) (p : Point (List ℕ)) →
    not (reaches (point_cmp text_cmp) (At text) p) ≡ goes_on_to text_cmp (Excluded text) p
below_text text p = sym (goes_to text_cmp nat_list_cmp_total (At text) p tt)

pub up_to_text : (text : List ℕ) (p : Point (List ℕ)) →
    not (reaches (point_cmp text_cmp) (JustAbove text) p) ≡ goes_on_to text_cmp (Included text) p
up_to_text text p = sym (goes_to text_cmp nat_list_cmp_total (JustAbove text) p tt)
