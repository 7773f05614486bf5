-- Candidates from the greatest version down, cut at a boundary.
use Rattle.std.proofs.Common.{◌≡◌, ◌∙◌, ◌<◌, ◌≤◌, ℕ, zero, suc, Bool, true, false, not, List, [], ◌∷◌, length}
use Rattle.std.proofs.Common.{get_or, Ordering, Less, Equal, Greater, is_le, refl, sym, ap, true≢false, arith}
use Rattle.std.specs.Cmp.{tied_itself}
use Rattle.std.specs.List.{AllByRecursion}
use Rattle.std.specs.List.Sorted.{IsPartitionedBy}
use Rattle.std.specs.Ordering.{is_gt}
use Rattle.version_ranges.specs.OrderLaws.{points_total}
use Rattle.version_ranges.specs.Point.{Point, At, point_cmp}
use Rattle.version_ranges.specs.Turns.{reaches}
use Rattle.version_ranges.proofs.Membership.{past_less, like}
use Rattle.pep440_version.specs.Order.{version_cmp}
use Rattle.pep440_version.specs.OrderLaws.{version_cmp_total}
use Rattle.pep440_version.specs.Record.{VersionRecord}
use Rattle.reqtable_candidates.specs.declared.ordered.Placed.{Placed}
use Rattle.reqtable_search.specs.InRun.{version_of, Falls}

abbrev pub reached_by : Point VersionRecord → VersionRecord → Bool
reached_by turn version = reaches (point_cmp version_cmp) turn (At version)

not_above : (o : Ordering) → is_le o ≡ true → is_gt o ≡ false
not_above Less e = refl
not_above Equal e = refl
not_above Greater e = sym e

-- what a version reaches, each above it reaches
up_by : (turn : Point VersionRecord) (low high : VersionRecord) (r : Ordering) →
    point_cmp version_cmp turn (At low) ≡ r → not (is_gt r) ≡ true → is_le (version_cmp low high) ≡ true →
    reached_by turn high ≡ true
up_by turn low high Less e h le =
    past_less (point_cmp version_cmp) (points_total version_cmp version_cmp_total) turn (At low) (At high)
    (version_cmp low high) refl e (not_above (version_cmp low high) le)
up_by turn low high Equal e h le =
    like (point_cmp version_cmp) (points_total version_cmp version_cmp_total) turn (At low) (At high) e
    ∙ ap not (not_above (version_cmp low high) le)
up_by turn low high Greater e h le = absurd (true≢false (sym h))

pub up : (turn : Point VersionRecord) (low high : VersionRecord) → is_le (version_cmp low high) ≡ true →
    reached_by turn low ≡ true → reached_by turn high ≡ true
up turn low high le e = up_by turn low high (point_cmp version_cmp turn (At low)) refl e le

all_at : (P : Placed → Type 0) (xs : List Placed) (j : ℕ) (d : Placed) → AllByRecursion P xs → j < length xs → P (get_or xs j d)
all_at P [] j d a h = absurd (omega arith)
all_at P (x ∷ xs) zero d a h = a.0
all_at P (x ∷ xs) (suc j) d a h = all_at P xs j d a.1 (omega arith)

pub falls_at : (xs : List Placed) → Falls xs → (i j : ℕ) (d : Placed) → i ≤ j → j < length xs →
    is_le (version_cmp (version_of (get_or xs j d)) (version_of (get_or xs i d))) ≡ true
falls_at [] f i j d le l = absurd (omega arith)
falls_at (x ∷ xs) f zero zero d le l = ap is_le (tied_itself version_cmp_total (version_of x))
falls_at (x ∷ xs) f zero (suc j) d le l =
    all_at (λ y. is_le (version_cmp (version_of y) (version_of x)) ≡ true) xs j d f.0 (omega arith)
falls_at (x ∷ xs) f (suc i) zero d le l = absurd (omega arith)
falls_at (x ∷ xs) f (suc i) (suc j) d le l = falls_at xs f.1 i j d (omega arith) (omega arith)

pub falls_parted : (turn : Point VersionRecord) (xs : List Placed) → Falls xs →
    IsPartitionedBy (λ x. reached_by turn (version_of x)) xs
falls_parted turn xs f i j d le l e =
    up turn (version_of (get_or xs j d)) (version_of (get_or xs i d)) (falls_at xs f i j d le l) e
