-- The packages of a map from names to groups, in its keys' order.
use Rattle.std.proofs.Common.{◌≡◌, ℕ, ◌∷◌, [], List, Bool, true, false, map, is_some, refl, Bor}
use Rattle.std.specs.List.{list_any, AllByRecursion}
use Rattle.std.specs.List.Sorted.{IsStrictlySortedBy}
use Rattle.std.specs.Map.{lookup, keys_of}
use Rattle.std.specs.BTreeMap.{is_at}
use Rattle.std.specs.Ordering.{nat_cmp, is_eq}
use Rattle.std.specs.Cmp.{IsTotalOrder, on_total}
use Rattle.std.specs.Cmp.Lexicographic.{slice_cmp}
use Rattle.std.specs.Str.{bytes_eq}
use Rattle.std.specs.declared.cmp.Ordering.{Ordering}
use Rattle.std.specs.declared.cmp.Ordering.TheVariants.{Less}
use Rattle.std.proofs.lemmas.Cmp.{nat_list_cmp_total}
use Rattle.std.proofs.lemmas.Map.Text.{is_eq-slice_cmp}

abbrev pub by_name : Bor (List ℕ) → Bor (List ℕ) → Ordering
by_name a b = slice_cmp nat_cmp a.now b.now

pub by_name_total : IsTotalOrder by_name
by_name_total = on_total (λ k. k.now) nat_list_cmp_total

module _ {X : Type 0} where
  -- the names of some entries
  abbrev pub names : List (Bor (List ℕ) × X) → List (List ℕ)
  names es = map (λ e. e.0.now) es

  all_below : (k : List ℕ) (es : List (Bor (List ℕ) × X)) → AllByRecursion (λ y. slice_cmp nat_cmp k y.now ≡ Less) (keys_of es) → AllByRecursion (λ y. slice_cmp nat_cmp k y ≡ Less) (names es)
  all_below k [] h = tt
  all_below k (e ∷ es) h = (h.0, all_below k es h.1)

  pub names_rise : (es : List (Bor (List ℕ) × X)) → IsStrictlySortedBy by_name (keys_of es) → IsStrictlySortedBy (slice_cmp nat_cmp) (names es)
  unfolding IsStrictlySortedBy
  names_rise [] h = tt
  names_rise (e ∷ es) h = (all_below e.0.now es h.0, names_rise es h.1)

  found : (q : List ℕ) (e : Bor (List ℕ) × X) (es : List (Bor (List ℕ) × X)) (b : Bool) → is_eq (slice_cmp nat_cmp q e.0.now) ≡ b
      → list_any (bytes_eq q) (names es) ≡ is_some (lookup (is_at (λ k. slice_cmp nat_cmp q k.now)) es)
      → list_any (bytes_eq q) (names (e ∷ es)) ≡ is_some (lookup (is_at (λ k. slice_cmp nat_cmp q k.now)) (e ∷ es))
  found q e es true h ih = rw (← is_eq-slice_cmp q e.0.now, h) refl
  found q e es false h ih = rw (← is_eq-slice_cmp q e.0.now, h) ih

  -- a name is there where its group is
  pub names_found : (q : List ℕ) (es : List (Bor (List ℕ) × X)) → list_any (bytes_eq q) (names es) ≡ is_some (lookup (is_at (λ k. slice_cmp nat_cmp q k.now)) es)
  names_found q [] = refl
  names_found q (e ∷ es) = found q e es (is_eq (slice_cmp nat_cmp q e.0.now)) refl (names_found q es)
