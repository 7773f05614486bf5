-- Candidates of one name in order stand from the greatest version down.
use Rattle.std.proofs.Common.{◌≡◌, ◌∙◌, ℕ, Bool, true, List, [], ◌∷◌, map, filter, Ordering, Less, Equal}
use Rattle.std.proofs.Common.{Greater, is_le, refl, sym, ap, subst}
use Rattle.std.proofs.lemmas.Cmp.{nat_list_cmp_total}
use Rattle.std.proofs.lemmas.List.Elements.{filter_passes, recursion_from_All}
use Rattle.std.proofs.lemmas.List.Kept.{IsStrictlySortedBy-filter}
use Rattle.std.proofs.lemmas.Slice.Eq.{bytes_eq-Decides}
use Rattle.std.specs.Cmp.{tied_itself}
use Rattle.std.specs.List.{AllByRecursion}
use Rattle.std.specs.List.Sorted.{IsStrictlySortedBy}
use Rattle.std.specs.Ordering.{ordering_then, nat_cmp}
use Rattle.std.specs.Str.{bytes_eq}
use Rattle.pep440_version.specs.Order.{version_cmp}
use Rattle.pep508_name.specs.Name.{name_cmp}
use Rattle.reqtable_candidates.specs.declared.candidates.Candidate.{Candidate}
use Rattle.reqtable_candidates.specs.declared.ordered.Placed.{Placed}
use Rattle.reqtable_candidates.specs.Ordered.{placed_seen, order_cmp}
use Rattle.reqtable_search.specs.InRun.{version_of, Falls}

below_by : (names versions : Ordering) (places : Ordering) → names ≡ Equal →
    ordering_then names (ordering_then versions places) ≡ Less → is_le versions ≡ true
below_by names Less places e h = refl
below_by names Equal places e h = refl
below_by names Greater places e h =
    let less : Greater ≡ Less = ap (λ n. ordering_then n Greater) (sym e) ∙ h in absurd (cc)

same_name : (name a b : List ℕ) → bytes_eq name a ≡ true → bytes_eq name b ≡ true → name_cmp a b ≡ Equal
same_name name a b e h =
    let first = (bytes_eq-Decides name a).0 e in
    let second = (bytes_eq-Decides name b).0 h in
    ap (λ n. name_cmp n b) (sym first) ∙ ap (name_cmp name) (sym second) ∙ tied_itself nat_list_cmp_total name

module _ (name : List ℕ) where
  abbrev is_own : ℕ × Candidate → Bool
  is_own c = bytes_eq name c.1.name

  abbrev AreOwn : List (ℕ × Candidate) → Type 0
  AreOwn cs = AllByRecursion (λ c. is_own c ≡ true) cs

  each_below : (x : Placed) (xs : List Placed) → is_own (placed_seen x) ≡ true → AreOwn (map placed_seen xs) →
      AllByRecursion (λ c. order_cmp (placed_seen x) c ≡ Less) (map placed_seen xs) →
      AllByRecursion (λ y. is_le (version_cmp (version_of y) (version_of x)) ≡ true) xs
  each_below x [] own all less = tt
  each_below x (y ∷ xs) own all less = (
    below_by (name_cmp x.candidate.now.name y.candidate.now.name) (version_cmp (version_of y) (version_of x))
        (nat_cmp x.place y.place) (same_name name x.candidate.now.name y.candidate.now.name own all.0) less.0,
    each_below x xs own all.1 less.1,
  )

  own_fall : (xs : List Placed) → AreOwn (map placed_seen xs) → IsStrictlySortedBy order_cmp (map placed_seen xs) → Falls xs
  unfolding IsStrictlySortedBy
  own_fall [] all sorted = tt
  own_fall (x ∷ xs) all sorted = (each_below x xs all.0 all.1 sorted.0, own_fall xs all.1 sorted.1)

  pub run_falls : (placed : List (ℕ × Candidate)) (run : List Placed) → IsStrictlySortedBy order_cmp placed →
      map placed_seen run ≡ filter is_own placed → Falls run
  run_falls placed run sorted e =
      own_fall run (subst AreOwn (sym e) (recursion_from_All (λ c. is_own c ≡ true) (filter is_own placed) (filter_passes is_own placed)))
      (subst (IsStrictlySortedBy order_cmp) (sym e) (IsStrictlySortedBy-filter order_cmp is_own placed sorted))
