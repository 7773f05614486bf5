-- The order of versions is total, and equality is an equivalence that it agrees with; equal versions, and
-- equal patterns, feed a hash alike. The laws of `Eq`, `Ord` and `Hash` cite these.
use Rattle.std.specs.Prelude.{◌≡◌, ℕ, true, IsTrue, ◌↔◌, List, [], ◌∷◌, refl}
use Rattle.std.proofs.Common.{ap, sym, ◌∙◌}
use Rattle.std.proofs.lemmas.Bool.{and_parts}
use Rattle.std.proofs.lemmas.Map.Lookups.{exact_bytes}
use Rattle.std.specs.Bool.{beq}
use Rattle.std.specs.declared.cmp.Ordering.TheVariants.{Equal}
use Rattle.std.specs.Ordering.{nat_cmp, as_partial_cmp, is_eq}
use Rattle.std.specs.Cmp.{Equal-is, tied_itself, IsTotalOrder, IsEquivalence, IsPartialEquivalence}
use Rattle.std.specs.Cmp.{IsPartialOrder, partial_equiv_from_equiv, eq_by_cmp_equiv}
use Rattle.std.specs.Cmp.{partial_order_from_agreeing_total, on_total, and_equiv, on_equiv, bool_eq_equiv}
use Rattle.std.specs.Cmp.{booleans_Decides}
use Rattle.std.specs.Cmp.Lexicographic.{slice_cmp, lists_total, nat_list_cmp_total}
use Rattle.version_ranges.specs.HashingLaws.{then_equal}
use Rattle.pep440_text.specs.Record.{VersionRecord, PatternRecord}
use Rattle.pep440_version.specs.Order.{key_of, key_cmp, version_cmp, version_eq, fed_key}
use Rattle.pep440_version.specs.PatternOrder.{pattern_eq, fed_pattern}

-- the order is total
pub version_cmp_total : IsTotalOrder version_cmp
version_cmp_total = on_total key_of (lists_total nat_list_cmp_total)

-- equality is an equivalence
pub version_eq_equiv : IsEquivalence version_eq
version_eq_equiv = eq_by_cmp_equiv version_cmp_total

pub version_eq_partial : IsPartialEquivalence version_eq
version_eq_partial = partial_equiv_from_equiv version_eq_equiv

-- the order agrees with equality
pub version_partial_order : IsPartialOrder version_eq (as_partial_cmp version_cmp)
version_partial_order =
    partial_order_from_agreeing_total version_cmp version_cmp_total (λ x y. refl) (λ x y. refl)

keys_exact : (a b : List (List ℕ)) → key_cmp a b ≡ Equal → a ≡ b
keys_exact [] [] h = refl
keys_exact [] (y ∷ ys) h = absurd (cc)
keys_exact (x ∷ xs) [] h = absurd (cc)
keys_exact (x ∷ xs) (y ∷ ys) h =
    let both = then_equal (slice_cmp nat_cmp x y) (key_cmp xs ys) h in
    let one : x ≡ y = exact_bytes x y both.0 in
    let rest : xs ≡ ys = keys_exact xs ys both.1 in
    cc

-- equal versions have one key
pub same_key : (a b : VersionRecord) → version_eq a b ≡ true → key_of a ≡ key_of b
same_key a b h = keys_exact (key_of a) (key_of b) ((Equal-is (version_cmp a b)).0 h)

-- so equal versions feed a hash alike
pub alike_versions : (a b : VersionRecord) → version_eq a b ≡ true → fed_key (key_of a) ≡ fed_key (key_of b)
alike_versions a b h = ap fed_key (same_key a b h)

-- versions are equal exactly where they have one key
pub key_decides : (a b : VersionRecord) → (IsTrue (version_eq a b)) ↔ (key_of a ≡ key_of b)
key_decides a b = (
  λ h. same_key a b h,
  λ e. ap (λ k. is_eq (key_cmp (key_of a) k)) (sym e) ∙ ap is_eq (tied_itself version_cmp_total a),
)

-- a version equals itself
pub equal_records : (a b : VersionRecord) → a ≡ b → version_cmp a b ≡ Equal
equal_records a b e = ap (version_cmp a) (sym e) ∙ tied_itself version_cmp_total a

-- ---- patterns

-- equality is an equivalence
pub pattern_eq_equiv : IsEquivalence pattern_eq
pattern_eq_equiv =
    and_equiv (on_equiv (λ (pattern : PatternRecord). pattern.version) version_eq_equiv)
    (on_equiv (λ (pattern : PatternRecord). pattern.wildcard) bool_eq_equiv)

pub pattern_eq_partial : IsPartialEquivalence pattern_eq
pattern_eq_partial = partial_equiv_from_equiv pattern_eq_equiv

-- equal patterns feed a hash alike
pub alike_patterns : (a b : PatternRecord) → pattern_eq a b ≡ true → fed_pattern a ≡ fed_pattern b
alike_patterns a b h =
    let parts = and_parts (version_eq a.version b.version) (beq a.wildcard b.wildcard) h in
    let stars : a.wildcard ≡ b.wildcard = (booleans_Decides a.wildcard b.wildcard).0 parts.1 in
    let keys : fed_key (key_of a.version) ≡ fed_key (key_of b.version) =
    alike_versions a.version b.version parts.0 in
    cc
