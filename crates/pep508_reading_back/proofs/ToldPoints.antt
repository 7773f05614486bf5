-- Points that lie alike beside a value are held alike by whatever is bounded there.
use Rattle.std.proofs.Common.{◌≡◌, ◌∙◌, Bool, false, not, cond, List, [], ◌∷◌, ◌++◌, refl, ap, ap₂, sym}
use Rattle.std.proofs.Common.{Ordering, Less, Equal, Greater, is_eq, is_gt}
use Rattle.std.specs.List.{AllByRecursion, flat_map}
use Rattle.std.specs.Ordering.{ordering_then, ordering_reverse}
use Rattle.std.specs.Cmp.{IsTotalOrder}
use Rattle.std.specs.declared.ops.Bound.TheVariants.{Included, Excluded}
use Rattle.version_ranges.specs.declared.boundary.Boundary.TheVariants as boundary
use Rattle.version_ranges.specs.Bounds.{goes_on_to}
use Rattle.version_ranges.specs.Point.{Point, BelowAll, At, JustAbove, point_cmp}
use Rattle.version_ranges.specs.Turns.{reaches}
use Rattle.version_ranges.proofs.Reading.{goes_to}
use Rattle.pep508_diagram.specs.Question.{lies_below}
use Rattle.pep508_diagram.proofs.Questions.{not_not}

-- ---- lists

pub all_parts : {X : Type 0} (P : X → Type 0) (xs ys : List X) → AllByRecursion P (xs ++ ys) →
    AllByRecursion P xs × AllByRecursion P ys
all_parts P [] ys all = (tt, all)
all_parts P (x ∷ xs) ys all = let parts = all_parts P xs ys all.1 in ((all.0, parts.0), parts.1)

pub all_in : {X Y : Type 0} (P : Y → Type 0) (f : X → List Y) (xs : List X) →
    AllByRecursion P (flat_map f xs) →
    AllByRecursion (λ x. AllByRecursion P (f x)) xs
all_in P f [] all = tt
all_in P f (x ∷ xs) all =
    let parts = all_parts P (f x) (flat_map f xs) all in (parts.0, all_in P f xs parts.1)

-- ---- truths

pub not_same : (a b : Bool) → not a ≡ not b → a ≡ b
not_same a b e = sym (not_not a) ∙ ap not e ∙ not_not b

between : (o : Ordering) →
    cond (not (is_gt o)) (not (not (is_gt (ordering_then o Greater)))) false ≡ is_eq (ordering_reverse o)
between Less = refl
between Equal = refl
between Greater = refl

between_above : (o : Ordering) →
    cond (not (is_gt (ordering_then o Less))) (not (not (is_gt o))) false
    ≡ is_eq (ordering_then (ordering_reverse o) Greater)
between_above Less = refl
between_above Equal = refl
between_above Greater = refl

-- ---- points

module _ {T : Type 0} (cmp : T → T → Ordering) where
  -- two points lie alike beside a value: whether at it or behind, and whether behind it
  abbrev pub AlikeAt : Point T → Point T → T → Type 0
  AlikeAt p q x =
      (reaches (point_cmp cmp) (At x) p ≡ reaches (point_cmp cmp) (At x) q)
      × (reaches (point_cmp cmp) (JustAbove x) p ≡ reaches (point_cmp cmp) (JustAbove x) q)

  pub alike_answers : (p q : Point T) (x : T) →
      lies_below cmp p (boundary.At x) ≡ lies_below cmp q (boundary.At x) →
      lies_below cmp p (boundary.JustAbove x) ≡ lies_below cmp q (boundary.JustAbove x) → AlikeAt p q x
  alike_answers p q x at above = (
    not_same (reaches (point_cmp cmp) (At x) p) (reaches (point_cmp cmp) (At x) q) at,
    not_same (reaches (point_cmp cmp) (JustAbove x) p) (reaches (point_cmp cmp) (JustAbove x) q) above,
  )

  module _ (total : IsTotalOrder cmp) where
    at_one : (x : T) (p : Point T) →
        cond (reaches (point_cmp cmp) (At x) p) (not (reaches (point_cmp cmp) (JustAbove x) p)) false
        ≡ is_eq (point_cmp cmp p (At x))
    at_one x BelowAll = refl
    at_one x (At y) = between (cmp x y) ∙ ap is_eq (sym (total.antisymm y x))
    at_one x (JustAbove y) =
        between_above (cmp x y) ∙ ap (λ o. is_eq (ordering_then o Greater)) (sym (total.antisymm y x))

    pub alike_at : (p q : Point T) (x : T) → AlikeAt p q x →
        is_eq (point_cmp cmp p (At x)) ≡ is_eq (point_cmp cmp q (At x))
    alike_at p q x alike =
        sym (at_one x p) ∙ ap₂ (λ a b. cond a (not b) false) alike.0 alike.1 ∙ at_one x q

    pub alike_below : (p q : Point T) (x : T) → AlikeAt p q x →
        goes_on_to cmp (Excluded x) p ≡ goes_on_to cmp (Excluded x) q
    alike_below p q x alike =
        goes_to cmp total (At x) p tt ∙ ap not alike.0 ∙ sym (goes_to cmp total (At x) q tt)

    pub alike_up_to : (p q : Point T) (x : T) → AlikeAt p q x →
        goes_on_to cmp (Included x) p ≡ goes_on_to cmp (Included x) q
    alike_up_to p q x alike =
        goes_to cmp total (JustAbove x) p tt ∙ ap not alike.1 ∙ sym (goes_to cmp total (JustAbove x) q tt)
