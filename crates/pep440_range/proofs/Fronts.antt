-- The order of versions, split: epoch and release first, and then what stands behind them.
use Rattle.std.proofs.Common.{◌≡◌, ℕ, ◌&&◌, List, [], ◌∷◌, Option, None, map, ap, ◌∙◌}
use Rattle.std.specs.declared.cmp.Ordering.{Ordering}
use Rattle.std.specs.Ordering.{ordering_then, nat_cmp, is_eq, is_lt, is_gt}
use Rattle.std.specs.Cmp.{unsigned_ties}
use Rattle.std.specs.Cmp.Lexicographic.{slice_cmp}
use Rattle.pep440_text.specs.declared.Prerelease.{Prerelease}
use Rattle.pep440_version.specs.Record.{Segment, VersionRecord}
use Rattle.pep440_version.specs.Order.{stripped, padded_cmp, suffix_class, class_below, absent_first}
use Rattle.pep440_version.specs.Order.{absent_last, pre_key, post_key, segment_key, key_of, key_cmp}
use Rattle.pep440_version.specs.Order.{version_cmp}
use Rattle.pep440_version.specs.OrderLaws.{version_cmp_total}
use Rattle.pep440_version.proofs.Padded.{padded_is}
use Rattle.pep440_specifier.specs.Matching.{same_release}
use Rattle.pep440_range.specs.Agreement.{IsSaid}
use Rattle.pep440_range.proofs.Orderings.{turned_less, regroup, both_equal}

-- what stands in a key behind the class
abbrev pub rest_of : Option Prerelease → Option ℕ → Option ℕ → Option ℕ → Option ℕ → List Segment
    → List (List ℕ)
rest_of pre post dev least most local =
    pre_key pre ∷ post_key post most ∷ absent_first least ∷ absent_last dev ∷ map segment_key local

-- what stands in a key behind epoch and release
abbrev pub tail_of : Option Prerelease → Option ℕ → Option ℕ → Option ℕ → Option ℕ → List Segment
    → List (List ℕ)
tail_of pre post dev least most local =
    (class_below least (suffix_class pre post dev most) ∷ []) ∷ rest_of pre post dev least most local

abbrev pub tail_key : VersionRecord → List (List ℕ)
tail_key version = tail_of version.pre version.post version.dev version.least version.most version.local

abbrev pub tail_cmp : VersionRecord → VersionRecord → Ordering
tail_cmp a b = key_cmp (tail_key a) (tail_key b)

-- the order of epoch and release alone
abbrev pub front_cmp : VersionRecord → VersionRecord → Ordering
front_cmp a b = ordering_then (nat_cmp a.epoch b.epoch)
    (slice_cmp nat_cmp (stripped a.release) (stripped b.release))

pub by_front : (a b : VersionRecord) → version_cmp a b ≡ ordering_then (front_cmp a b) (tail_cmp a b)
unfolding key_of
by_front a b = regroup (nat_cmp a.epoch b.epoch)
    (slice_cmp nat_cmp (stripped a.release) (stripped b.release)) (tail_cmp a b)

pub padded_front : (a b : VersionRecord) → front_cmp a b
    ≡ ordering_then (nat_cmp a.epoch b.epoch) (padded_cmp a.release b.release)
padded_front a b = ap (ordering_then (nat_cmp a.epoch b.epoch)) (padded_is a.release b.release)

pub same_front : (a b : VersionRecord) → same_release a b ≡ is_eq (front_cmp a b)
same_front a b =
    let releases : Ordering = slice_cmp nat_cmp (stripped a.release) (stripped b.release) in
    ap (λ t. t && is_eq releases) (unsigned_ties a.epoch b.epoch)
    ∙ both_equal (nat_cmp a.epoch b.epoch) releases

-- before is behind, the other way round
pub before : (a b : VersionRecord) → is_lt (version_cmp a b) ≡ is_gt (version_cmp b a)
before a b = ap is_lt (version_cmp_total.antisymm a b) ∙ turned_less (version_cmp b a)

-- a version of a text, without a local part
pub said_tail : (version : VersionRecord) → IsSaid version → version.local ≡ [] → tail_key version
    ≡ tail_of version.pre version.post version.dev None None []
said_tail version said plain =
    λ i. tail_of version.pre version.post version.dev (said.no_least i) (said.no_most i) (plain i)
