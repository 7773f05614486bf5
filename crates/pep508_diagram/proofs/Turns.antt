-- True and false by turns, from each boundary on the other one.
use Rattle.std.proofs.Common.{◌≡◌, inl, inr, Bool, true, false, not, List, [], ◌∷◌, map, refl, sym, ap, subst}
use Rattle.std.proofs.Common.{◌∙◌, true≢false}
use Rattle.std.proofs.lemmas.Bool.{cases_Bool}
use Rattle.std.specs.List.{AllByRecursion}
use Rattle.std.specs.Cmp.{IsTotalOrder}
use Rattle.std.specs.declared.cmp.Ordering.{Ordering}
use Rattle.std.specs.declared.cmp.Ordering.TheVariants.{Less}
use Rattle.version_ranges.specs.declared.boundary.Boundary.{Boundary}
use Rattle.version_ranges.specs.Point.{Point, point_cmp}
use Rattle.version_ranges.specs.Boundaries.{point_of, boundary_cmp, turns_of}
use Rattle.version_ranges.specs.OrderLaws.{points_total}
use Rattle.version_ranges.specs.Turns.{flips, reaches, is_held, Rising}
use Rattle.version_ranges.proofs.Membership.{before_less, flips_false}
use Rattle.version_ranges.proofs.Turning.{held_turns}
use Rattle.pep508_diagram.specs.Branches.{RisingBranches, branch_at, NeighboursDiffer, by_turns}
use Rattle.pep508_diagram.proofs.Branching.{gt_of}

-- the boundaries are kept
pub turns_boundaries : {T : Type 0} (first : Bool) (boundaries : List (Boundary T)) →
    map (λ branch. branch.boundary) (by_turns first boundaries) ≡ boundaries
turns_boundaries first [] = refl
turns_boundaries first (b ∷ later) = ap (λ bs. b ∷ bs) (turns_boundaries (not first) later)

-- no truth is its own other
other_differs : (b : Bool) → b ≡ not b → ⊥
other_differs true e = true≢false e
other_differs false e = true≢false (sym e)

pub turns_differ : {T : Type 0} (first : Bool) (boundaries : List (Boundary T)) →
    NeighboursDiffer first (by_turns first boundaries)
turns_differ first [] = tt
turns_differ first (b ∷ later) = (other_differs first, turns_differ (not first) later)

pub turns_rise : {T : Type 0} (cmp : T → T → Ordering) (first : Bool) (boundaries : List (Boundary T)) →
    Rising (boundary_cmp cmp) boundaries → RisingBranches cmp (by_turns first boundaries)
turns_rise cmp first boundaries rising =
    subst (Rising (boundary_cmp cmp)) (sym (turns_boundaries first boundaries)) rising

turned : (c d : Bool) → flips (not c) d ≡ flips c (not d)
turned true true = refl
turned true false = refl
turned false true = refl
turned false false = refl

module _ {T : Type 0} {cmp : T → T → Ordering} (o : IsTotalOrder cmp) where
  -- behind a boundary that does not come up to the point, none turns there
  unheld : (b : Boundary T) (later : List (Boundary T)) (p : Point T) →
      reaches (point_cmp cmp) (point_of b) p ≡ false →
      AllByRecursion (λ c. boundary_cmp cmp b c ≡ Less) later →
      is_held (point_cmp cmp) (map point_of later) p ≡ false
  unheld b [] p over before = refl
  unheld b (c ∷ later) p over before =
      let too : reaches (point_cmp cmp) (point_of c) p ≡ false =
      before_less (point_cmp cmp) (points_total cmp o) (point_of c) (point_of b) p
      (gt_of (point_cmp cmp (point_of b) p) over) before.0 in
      rw too (unheld b later p over before.1)

  -- what stands first, turned where the boundaries that come up to the point turn it
  turns_flip : (first : Bool) (boundaries : List (Boundary T)) (p : Point T) →
      Rising (boundary_cmp cmp) boundaries →
      branch_at cmp first (by_turns first boundaries) p
      ≡ flips first (is_held (point_cmp cmp) (map point_of boundaries) p)
  turns_flip first [] p rising = sym (flips_false first)
  turns_flip first (b ∷ later) p rising = elim (cases_Bool (reaches (point_cmp cmp) (point_of b) p)) [
    | inl up ↦
        rw up (turns_flip (not first) later p rising.1
        ∙ turned first (is_held (point_cmp cmp) (map point_of later) p))
    | inr over ↦
        let none : is_held (point_cmp cmp) (map point_of later) p ≡ false = unheld b later p over rising.0 in
        rw (over, none) (sym (flips_false first))
  ]

  -- by turns stands whether the point is held
  pub turns_held : (first : Bool) (boundaries : List (Boundary T)) (p : Point T) →
      Rising (boundary_cmp cmp) boundaries →
      branch_at cmp first (by_turns first boundaries) p
      ≡ is_held (point_cmp cmp) (turns_of first boundaries) p
  turns_held first boundaries p rising =
      turns_flip first boundaries p rising ∙ sym (held_turns cmp first boundaries p)
