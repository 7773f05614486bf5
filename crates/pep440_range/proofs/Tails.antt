-- What stands behind epoch and release, compared: the first of a release, and what `<` and `>` set beside
-- a version.
use Rattle.std.proofs.Common.{◌≡◌, ℕ, ◌+◌, ◌<◌, true, false, not, ◌&&◌, ◌||◌, List, [], ◌∷◌, Option, Some}
use Rattle.std.proofs.Common.{None}
use Rattle.std.proofs.Common.{is_some, refl, ap, sym, ◌∙◌, true≢false, arith}
use Rattle.std.specs.declared.cmp.Ordering.{Ordering}
use Rattle.std.specs.declared.cmp.Ordering.TheVariants.{Less, Equal, Greater}
use Rattle.std.specs.Ordering.{ordering_then, nat_cmp, is_lt, is_gt, MatchOrdering}
use Rattle.std.specs.Cmp.{ranks}
use Rattle.std.specs.Cmp.Lexicographic.{slice_cmp}
use Rattle.pep440_text.specs.declared.Prerelease.{Prerelease}
use Rattle.pep440_text.specs.declared.PrereleaseKind.{PrereleaseKind}
use Rattle.pep440_text.specs.declared.PrereleaseKind.TheVariants.{Alpha, Beta, Rc}
use Rattle.pep440_version.specs.Order.{kind_rank, suffix_class, absent_last, pre_key, key_cmp}
use Rattle.pep440_range.proofs.Prefixes.{zero_first}
use Rattle.pep440_range.proofs.Fronts.{rest_of, tail_of}

-- where the classes are no tie, they decide
class_decides : (x y : ℕ) (o : Ordering) (xs ys : List (List ℕ)) → nat_cmp x y ≡ o
    → key_cmp ((x ∷ []) ∷ xs) ((y ∷ []) ∷ ys) ≡ ordering_then (ordering_then o Equal) (key_cmp xs ys)
class_decides x y o xs ys e = ap (λ r. ordering_then (ordering_then r Equal) (key_cmp xs ys)) e

least_below : (kind : PrereleaseKind) → nat_cmp 0 (2 + kind_rank kind) ≡ Less
least_below Alpha = refl
least_below Beta = refl
least_below Rc = refl

dev_below : (kind : PrereleaseKind) → nat_cmp 1 (2 + kind_rank kind) ≡ Less
dev_below Alpha = refl
dev_below Beta = refl
dev_below Rc = refl

final_above : (kind : PrereleaseKind) → nat_cmp 5 (2 + kind_rank kind) ≡ Greater
final_above Alpha = refl
final_above Beta = refl
final_above Rc = refl

post_above : (kind : PrereleaseKind) → nat_cmp 6 (2 + kind_rank kind) ≡ Greater
post_above Alpha = refl
post_above Beta = refl
post_above Rc = refl

-- ---- the first developmental release of all

lone : (o : Ordering) → is_gt o ≡ false → is_gt (ordering_then (ordering_then o Equal) Equal) ≡ false
lone Less h = refl
lone Equal h = refl
lone Greater h = h

pub first_not_above : (pre : Option Prerelease) (post dev : Option ℕ)
    → is_gt (key_cmp (tail_of None None (Some 0) None None []) (tail_of pre post dev None None [])) ≡ false
first_not_above (Some pre) post dev =
    ap is_gt (class_decides 1 (2 + kind_rank pre.kind) Less (rest_of None None (Some 0) None None [])
    (rest_of (Some pre) post dev None None []) (dev_below pre.kind))
first_not_above None (Some number) dev = refl
first_not_above None None (Some number) = lone (nat_cmp 0 number) (zero_first number)
first_not_above None None None = refl

-- ---- beside `<`: below all suffixes

pub least_not_above : (rest : List (List ℕ)) (pre : Option Prerelease) (post dev : Option ℕ)
    → is_gt (key_cmp ((0 ∷ []) ∷ rest) (tail_of pre post dev None None [])) ≡ false
least_not_above rest (Some pre) post dev =
    ap is_gt (class_decides 0 (2 + kind_rank pre.kind) Less rest
    (rest_of (Some pre) post dev None None []) (least_below pre.kind))
least_not_above rest None (Some number) dev = refl
least_not_above rest None None (Some number) = refl
least_not_above rest None None None = refl

-- what lies below a release itself is a pre-release
pub below_final : (pre : Option Prerelease) (post dev : Option ℕ)
    → is_gt (key_cmp (tail_of None None None None None []) (tail_of pre post dev None None [])) ≡ true
    → (is_some pre || is_some dev) ≡ true
below_final (Some pre) post dev h = refl
below_final None post (Some number) h = refl
below_final None (Some number) None h = absurd (true≢false (sym h))
below_final None None None h = absurd (true≢false (sym h))

-- ---- beside `>`: a number of a developmental release raised

next_number : (d next e : ℕ) (o p : Ordering) → d + 1 ≡ next
    → MatchOrdering o (next < e) (next ≡ e) (e < next) → MatchOrdering p (d < e) (d ≡ e) (e < d)
    → not (is_gt (ordering_then (ordering_then o Equal) Equal))
    ≡ is_lt (ordering_then (ordering_then p Equal) Equal)
next_number d next e Less Less n h k = refl
next_number d next e Less Equal n h k = absurd (omega arith)
next_number d next e Less Greater n h k = absurd (omega arith)
next_number d next e Equal Less n h k = refl
next_number d next e Equal Equal n h k = absurd (omega arith)
next_number d next e Equal Greater n h k = absurd (omega arith)
next_number d next e Greater Less n h k = absurd (omega arith)
next_number d next e Greater Equal n h k = refl
next_number d next e Greater Greater n h k = refl

next_behind : (c p q r : Ordering) → not (is_gt q) ≡ is_lt r
    → not (is_gt (ordering_then (ordering_then c Equal) (ordering_then p q)))
    ≡ is_lt (ordering_then (ordering_then c Equal) (ordering_then p r))
next_behind Less p q r h = refl
next_behind Greater p q r h = refl
next_behind Equal Less q r h = refl
next_behind Equal Equal q r h = h
next_behind Equal Greater q r h = refl

next_dev : (d next : ℕ) (dev : Option ℕ) → d + 1 ≡ next
    → not (is_gt (ordering_then (slice_cmp nat_cmp (absent_last (Some next)) (absent_last dev)) Equal))
    ≡ is_lt (ordering_then (slice_cmp nat_cmp (absent_last (Some d)) (absent_last dev)) Equal)
next_dev d next None n = refl
next_dev d next (Some e) n = next_number d next e (nat_cmp next e) (nat_cmp d e) n (ranks next e) (ranks d e)

abbrev dev_beside : ℕ → Option ℕ → Ordering
dev_beside d dev = ordering_then (slice_cmp nat_cmp (absent_last (Some d)) (absent_last dev)) Equal

pub dev_raised : (d next : ℕ) (pre other : Option Prerelease) (dev : Option ℕ) → d + 1 ≡ next
    → not (is_gt (key_cmp (tail_of pre None (Some next) None None [])
    (tail_of other None dev None None [])))
    ≡ is_lt (key_cmp (tail_of pre None (Some d) None None []) (tail_of other None dev None None []))
dev_raised d next None other dev n =
    next_behind (nat_cmp 1 (suffix_class other None dev None)) (slice_cmp nat_cmp [] (pre_key other))
    (dev_beside next dev) (dev_beside d dev) (next_dev d next dev n)
dev_raised d next (Some pre) other dev n =
    next_behind (nat_cmp (2 + kind_rank pre.kind) (suffix_class other None dev None))
    (slice_cmp nat_cmp (pre_key (Some pre)) (pre_key other)) (dev_beside next dev) (dev_beside d dev)
    (next_dev d next dev n)

-- ---- beside `>`: behind all post-releases

behind_all : (c p q r : Ordering) → is_lt q ≡ false → is_lt r ≡ false
    → is_lt (ordering_then (ordering_then c Equal) (ordering_then p q))
    ≡ is_lt (ordering_then (ordering_then c Equal) (ordering_then p r))
behind_all Less p q r g h = refl
behind_all Greater p q r g h = refl
behind_all Equal Less q r g h = refl
behind_all Equal Equal q r g h = g ∙ sym h
behind_all Equal Greater q r g h = refl

-- with no post-release, nothing comes behind a version that is none and no developmental release, as
-- nothing does behind the last of its release
pub none_behind : (pre other : Option Prerelease) (dev : Option ℕ)
    → is_lt (key_cmp (tail_of pre None None None (Some 0) []) (tail_of other None dev None None []))
    ≡ is_lt (key_cmp (tail_of pre None None None None []) (tail_of other None dev None None []))
none_behind None (Some other) dev =
    let rest : List (List ℕ) = rest_of (Some other) None dev None None [] in
    ap is_lt (class_decides 6 (2 + kind_rank other.kind) Greater (rest_of None None None None (Some 0) [])
    rest (post_above other.kind))
    ∙ sym (ap is_lt (class_decides 5 (2 + kind_rank other.kind) Greater
    (rest_of None None None None None []) rest (final_above other.kind)))
none_behind None None (Some number) = refl
none_behind None None None = refl
none_behind (Some pre) other None =
    behind_all (nat_cmp (2 + kind_rank pre.kind) (suffix_class other None None None))
    (slice_cmp nat_cmp (pre_key (Some pre)) (pre_key other)) Greater Equal refl refl
none_behind (Some pre) other (Some number) =
    behind_all (nat_cmp (2 + kind_rank pre.kind) (suffix_class other None (Some number) None))
    (slice_cmp nat_cmp (pre_key (Some pre)) (pre_key other)) Greater Greater refl refl

-- behind a final release there are its post-releases alone, and all of them come before the last of it
pub final_behind : (pre : Option Prerelease) (post dev : Option ℕ)
    → is_lt (key_cmp (tail_of None None None None (Some 0) []) (tail_of pre post dev None None []))
    ≡ (is_lt (key_cmp (tail_of None None None None None []) (tail_of pre post dev None None []))
    && not (is_some post && true))
final_behind (Some pre) post dev =
    let rest : List (List ℕ) = rest_of (Some pre) post dev None None [] in
    ap is_lt (class_decides 6 (2 + kind_rank pre.kind) Greater (rest_of None None None None (Some 0) [])
    rest (post_above pre.kind))
    ∙ sym (ap (λ o. is_lt o && not (is_some post && true)) (class_decides 5 (2 + kind_rank pre.kind) Greater
    (rest_of None None None None None []) rest (final_above pre.kind)))
final_behind None (Some number) dev = refl
final_behind None None (Some number) = refl
final_behind None None None = refl
