-- Versions between the same two boundaries are held alike.
use Rattle.std.proofs.Common.{◌≡◌, ◌∙◌, ◌<◌, ◌≤◌, ◌-◌, ℕ, Bool, true, false, List, length, get_or, is_le}
use Rattle.std.proofs.Common.{refl, sym, ap, true≢false, arith}
use Rattle.std.specs.List.{AllWithin}
use Rattle.std.specs.List.Sorted.{IsPartitionedBy, IsPartitionPoint}
use Rattle.version_ranges.specs.declared.boundary.Boundary.{Boundary}
use Rattle.version_ranges.specs.Boundaries.{point_of, boundary_cmp, turns_of}
use Rattle.version_ranges.specs.Held.{holds_at}
use Rattle.version_ranges.specs.Point.{At}
use Rattle.version_ranges.specs.Turns.{Rising}
use Rattle.version_ranges.proofs.Searching.{partitioned, held_by_count}
use Rattle.version_ranges.proofs.Turning.{normal_turns}
use Rattle.pep440_version.specs.Order.{version_cmp}
use Rattle.pep440_version.specs.OrderLaws.{version_cmp_total}
use Rattle.pep440_version.specs.Record.{VersionRecord}
use Rattle.reqtable_candidates.specs.declared.ordered.Placed.{Placed}
use Rattle.reqtable_search.specs.InRun.{version_of, Falls}
use Rattle.reqtable_search.proofs.Falling.{reached_by, up, falls_at}
use Rattle.reqtable_search.proofs.Places.{same_there}

pub boundaries_parted : (boundaries : List (Boundary VersionRecord)) (version : VersionRecord) →
    Rising (boundary_cmp version_cmp) boundaries → IsPartitionedBy (λ b. reached_by (point_of b) version) boundaries
boundaries_parted boundaries version rising =
    partitioned version_cmp version_cmp_total false boundaries (turns_of false boundaries) (At version) refl
    (normal_turns version_cmp false boundaries rising)

-- just the first so many boundaries are reached
abbrev pub Reaches : List (Boundary VersionRecord) → VersionRecord → ℕ → Type 0
Reaches boundaries version count =
    IsPartitionPoint (λ b. reached_by (point_of b) version ≡ true) (λ b. reached_by (point_of b) version ≡ false) boundaries count

not_true : (b : Bool) → (b ≡ true → ⊥) → b ≡ false
not_true true h = absurd (h refl)
not_true false h = refl

-- a lower version that reaches the last of these too
reaches_as_many : (boundaries : List (Boundary VersionRecord)) (low high : VersionRecord) (count : ℕ) →
    Rising (boundary_cmp version_cmp) boundaries → is_le (version_cmp low high) ≡ true → count ≤ length boundaries →
    Reaches boundaries high count →
    ((d : Boundary VersionRecord) → 0 < count → reached_by (point_of (get_or boundaries (count - 1) d)) low ≡ true) →
    Reaches boundaries low count
reaches_as_many boundaries low high count rising le within here last = (
  (λ k d l m. boundaries_parted boundaries low rising k (count - 1) d (omega arith) (omega arith) (last d (omega arith))),
  (λ k d l m. not_true (reached_by (point_of (get_or boundaries k d)) low)
      (λ e. true≢false (sym (up (point_of (get_or boundaries k d)) low high le e) ∙ here.1 k d l m))),
)

held_alike : (starts : Bool) (boundaries : List (Boundary VersionRecord)) (low high : VersionRecord) (count : ℕ) →
    count ≤ length boundaries → Reaches boundaries low count → Reaches boundaries high count →
    holds_at version_cmp (turns_of starts boundaries) (At low) ≡ holds_at version_cmp (turns_of starts boundaries) (At high)
held_alike starts boundaries low high count within a b =
    sym (held_by_count version_cmp starts boundaries (turns_of starts boundaries) (At low) count refl within a)
    ∙ held_by_count version_cmp starts boundaries (turns_of starts boundaries) (At high) count refl within b

-- the candidates from one on that reach what it reaches
pub gap_held : (placed : List Placed) (at end count : ℕ) (boundaries : List (Boundary VersionRecord)) (first : Placed) →
    Falls placed → Rising (boundary_cmp version_cmp) boundaries → at < length placed → end ≤ length placed →
    first ≡ get_or placed at first → count ≤ length boundaries → Reaches boundaries (version_of first) count →
    ((d : Boundary VersionRecord) → 0 < count →
    AllWithin (λ x. reached_by (point_of (get_or boundaries (count - 1) d)) (version_of x) ≡ true) placed at end) →
    (starts : Bool) → AllWithin (λ x. holds_at version_cmp (turns_of starts boundaries) (At (version_of x))
    ≡ holds_at version_cmp (turns_of starts boundaries) (At (version_of (get_or placed at x)))) placed at end
gap_held placed at end count boundaries first falls rising within over is few here last starts k d l m =
    let x = get_or placed k d in
    let version = version_of x in
    let at_first : get_or placed at d ≡ first = same_there placed at d first within ∙ sym is in
    let at_x : first ≡ get_or placed at x = is ∙ same_there placed at first x within in
    let le : is_le (version_cmp version (version_of first)) ≡ true =
    ap (λ y. is_le (version_cmp version (version_of y))) (sym at_first) ∙ falls_at placed falls at k d l (omega arith) in
    held_alike starts boundaries version (version_of first) count few
    (reaches_as_many boundaries version (version_of first) count rising le few here (λ b some. last b some k d l m)) here
    ∙ ap (λ y. holds_at version_cmp (turns_of starts boundaries) (At (version_of y))) at_x
