-- Where what stands between boundaries begins and ceases to pass a test.
use Rattle.std.proofs.Common.{◌≡◌, Bool, true, false, not, cond, List, [], ◌∷◌, map, refl, sym, ap, ◌∙◌}
use Rattle.std.proofs.Common.{true≢false}
use Rattle.version_ranges.specs.declared.boundary.Boundary.{Boundary}
use Rattle.version_ranges.specs.Boundaries.{point_of}
use Rattle.version_ranges.specs.Bounds.{lower_bound_at, intervals}
use Rattle.version_ranges.specs.Point.{Point}
use Rattle.version_ranges.specs.Turns.{flips}
use Rattle.pep508_diagram.specs.declared.branch.Branch.{Branch}
use Rattle.pep508_marker_text_laws.specs.Groups.{turning}
use Rattle.pep508_marker_display.specs.Spans.{begun}

flips_both : (a b : Bool) → flips (not a) (not b) ≡ flips a b
flips_both true true = refl
flips_both true false = refl
flips_both false true = refl
flips_both false false = refl

flipped : (held now : Bool) → flips held now ≡ true → now ≡ not held
flipped true true e = absurd (true≢false (sym e))
flipped true false e = refl
flipped false true e = refl
flipped false false e = absurd (true≢false (sym e))

module _ {T C : Type 0} (test : C → Bool) where
  -- the opposite test turns at the same boundaries
  pub opposite_turning : (held : Bool) (later : List (Branch T C)) →
      turning (λ c. not (test c)) (not held) later ≡ turning test held later
  opposite_turning held [] = refl
  opposite_turning held (branch ∷ later) = λ i.
      cond (flips_both held (test branch.child) i)
      (branch.boundary ∷ opposite_turning (test branch.child) later i) (opposite_turning held later i)

  pub turns_here : (held : Bool) (branch : Branch T C) (later : List (Branch T C)) →
      flips held (test branch.child) ≡ true →
      turning test held (branch ∷ later) ≡ branch.boundary ∷ turning test (not held) later
  turns_here held branch later e =
      ap (λ b. cond b (branch.boundary ∷ turning test (test branch.child) later) (turning test held later)) e
      ∙ ap (λ b. branch.boundary ∷ turning test b later) (flipped held (test branch.child) e)

  pub turns_later : (held : Bool) (branch : Branch T C) (later : List (Branch T C)) →
      flips held (test branch.child) ≡ false → turning test held (branch ∷ later) ≡ turning test held later
  turns_later held branch later e =
      ap (λ b. cond b (branch.boundary ∷ turning test (test branch.child) later) (turning test held later)) e

-- intervals from a first point on
pub begun_at : {T : Type 0} (p : Point T) (later : List (Boundary T)) →
    intervals (p ∷ map point_of later) ≡ begun (lower_bound_at p) later
begun_at p [] = refl
begun_at p (boundary ∷ later) = refl
