-- Lists of what has a name, of which one place is changed.
use Rattle.std.proofs.Common.{◌≡◌, ◌∙◌, ℕ, zero, suc, ◌<◌, ◌≤◌, true, false, List, [], ◌∷◌, ◌++◌, map, get_or, length, refl, sym, ap, subst, arith, Less, Equal, Greater, set, ◌+◌, ◌⊎◌, inl, inr}
use Rattle.std.specs.List.{AllByRecursion, AllZip}
use Rattle.std.specs.List.Sorted.{IsStrictlySortedBy, IsSortedBy, IsNonDecreasingBy, IsPartitionPoint}
use Rattle.std.specs.Ordering.{nat_cmp, is_eq, is_lt, ordering_index, ordering_reverse}
use Rattle.std.specs.Cmp.Lexicographic.{slice_cmp}
use Rattle.std.specs.Str.{bytes_eq}
use Rattle.std.specs.declared.cmp.Ordering.{Ordering}
use Rattle.std.proofs.lemmas.Cmp.{nat_list_cmp_total, nat_list_eq_equiv}
use Rattle.std.proofs.lemmas.List.Sorted.{searchable_from_sorted}
use Rattle.std.proofs.lemmas.Slice.Eq.{bytes_eq-Decides}
use Rattle.std.proofs.lemmas.Map.Text.{is_eq-slice_cmp}

pub all_at : {X : Type 0} (P : X → Type 0) (xs : List X) (i : ℕ) (d : X) → AllByRecursion P xs → i < length xs → P (get_or xs i d)
all_at P [] i d h within = absurd (omega arith)
all_at P (x ∷ xs) zero d h within = h.0
all_at P (x ∷ xs) (suc i) d h within = all_at P xs i d h.1 (omega arith)

pub all_set : {X : Type 0} (P : X → Type 0) (xs : List X) (i : ℕ) (w : X) → AllByRecursion P xs → P w → AllByRecursion P (set xs i w)
all_set P [] i w h p = tt
all_set P (x ∷ xs) zero w h p = (p, h.1)
all_set P (x ∷ xs) (suc i) w h p = (h.0, all_set P xs i w h.1 p)

pub all_more : {X : Type 0} (P : X → Type 0) (xs : List X) (x : X) → AllByRecursion P xs → P x → AllByRecursion P (xs ++ x ∷ [])
all_more P [] x h p = (p, tt)
all_more P (y ∷ xs) x h p = (h.0, all_more P xs x h.1 p)

pub all_behind : {X : Type 0} (P : X → Type 0) (xs : List X) (y : X) (ys : List X) → AllByRecursion P (xs ++ y ∷ ys) → P y
all_behind P [] y ys h = h.0
all_behind P (x ∷ xs) y ys h = all_behind P xs y ys h.1

pub all_first : {X : Type 0} (P : X → Type 0) (xs ys : List X) → AllByRecursion P (xs ++ ys) → AllByRecursion P xs
all_first P [] ys h = tt
all_first P (x ∷ xs) ys h = (h.0, all_first P xs ys h.1)

pub all_mapped : {X : Type 0} (P Q : X → Type 0) (xs : List X) → ((x : X) → P x → Q x) → AllByRecursion P xs → AllByRecursion Q xs
all_mapped P Q [] f h = tt
all_mapped P Q (x ∷ xs) f h = (f x h.0, all_mapped P Q xs f h.1)

pub all_next : {X Y : Type 0} (R : X → Y → Type 0) (P : X → Type 0) (Q : Y → Type 0) → ((x : X) (y : Y) → R x y → P x → Q y)
    → (xs : List X) (ys : List Y) → AllZip R xs ys → AllByRecursion P xs → AllByRecursion Q ys
all_next R P Q f [] [] r h = tt
all_next R P Q f [] (y ∷ ys) r h = absurd r
all_next R P Q f (x ∷ xs) [] r h = tt
all_next R P Q f (x ∷ xs) (y ∷ ys) r h = (f x y r.0 h.0, all_next R P Q f xs ys r.1 h.1)

module _ {X : Type 0} (name : X → List ℕ) where
  pub names_set : (xs : List X) (i : ℕ) (d w : X) → i < length xs → name w ≡ name (get_or xs i d) → map name (set xs i w) ≡ map name xs
  names_set [] i d w within e = refl
  names_set (x ∷ xs) zero d w within e = ap (λ n. n ∷ map name xs) e
  names_set (x ∷ xs) (suc i) d w within e = ap (λ ns. name x ∷ ns) (names_set xs i d w (omega arith) e)

  -- the names are rising
  abbrev pub Rise : List X → Type 0
  Rise xs = IsStrictlySortedBy (slice_cmp nat_cmp) (map name xs)

  unlike : (a b : List ℕ) → slice_cmp nat_cmp a b ≡ Less → bytes_eq a b ≡ false
  unlike a b h = sym (is_eq-slice_cmp a b) ∙ ap is_eq h

  below_at : (a : List ℕ) (xs : List X) (i : ℕ) (d : X) → AllByRecursion (λ b. slice_cmp nat_cmp a b ≡ Less) (map name xs) → i < length xs
      → slice_cmp nat_cmp a (name (get_or xs i d)) ≡ Less
  below_at a [] i d h within = absurd (omega arith)
  below_at a (x ∷ xs) zero d h within = h.0
  below_at a (x ∷ xs) (suc i) d h within = below_at a xs i d h.1 (omega arith)

  module _ (R : X → X → Type 0) (key : List ℕ) (other : (x : X) → bytes_eq (name x) key ≡ false → R x x) where
    -- no name is the key
    pub zip_same : (xs : List X) → AllByRecursion (λ x. bytes_eq (name x) key ≡ false) xs → AllZip R xs xs
    zip_same [] h = tt
    zip_same (x ∷ xs) h = (other x h.0, zip_same xs h.1)

    behind : (a : List ℕ) → a ≡ key → (xs : List X) → AllByRecursion (λ b. slice_cmp nat_cmp a b ≡ Less) (map name xs) → AllZip R xs xs
    behind a e [] h = tt
    behind a e (x ∷ xs) h =
        let not_key : bytes_eq (name x) key ≡ false =
        nat_list_eq_equiv.symm (name x) key ∙ ap (λ k. bytes_eq k (name x)) (sym e) ∙ unlike a (name x) h.0 in
        (other x not_key, behind a e xs h.1)

    -- the place of the key is changed
    pub zip_set : (xs : List X) (i : ℕ) (d w : X) → Rise xs → i < length xs → name (get_or xs i d) ≡ key → R (get_or xs i d) w
        → AllZip R xs (set xs i w)
    unfolding IsStrictlySortedBy
    zip_set [] i d w rise within e r = absurd (omega arith)
    zip_set (x ∷ xs) zero d w rise within e r = (r, behind (name x) e xs rise.0)
    zip_set (x ∷ xs) (suc i) d w rise within e r =
        let below : slice_cmp nat_cmp (name x) (name (get_or xs i d)) ≡ Less = below_at (name x) xs i d rise.0 (omega arith) in
        let not_key : bytes_eq (name x) key ≡ false = ap (bytes_eq (name x)) (sym e) ∙ unlike (name x) (name (get_or xs i d)) below in
        (other x not_key, zip_set xs i d w rise.1 (omega arith) e r)

  -- ---- a search for a name

  adjacent : (xs : List X) → Rise xs → (k : ℕ) (d : X) → suc k < length xs → slice_cmp nat_cmp (name (get_or xs k d)) (name (get_or xs (suc k) d)) ≡ Less
  unfolding IsStrictlySortedBy
  adjacent [] h k d within = absurd (omega arith)
  adjacent (x ∷ []) h k d within = absurd (omega arith)
  adjacent (x ∷ (y ∷ xs)) h zero d within = h.0.0
  adjacent (x ∷ (y ∷ xs)) h (suc k) d within = adjacent (y ∷ xs) h.1 k d (omega arith)

  sorted : (xs : List X) → Rise xs → IsSortedBy (λ a b. is_lt (slice_cmp nat_cmp (name a) (name b))) xs
  sorted xs h k d low within =
      let next : k + 1 ≡ suc k = omega arith in
      let less = adjacent xs h k d (omega arith) in
      ap (λ n. is_lt (slice_cmp nat_cmp (name (get_or xs n d)) (name (get_or xs k d)))) next
      ∙ ap is_lt (nat_list_cmp_total.antisymm (name (get_or xs (suc k) d)) (name (get_or xs k d)) ∙ ap ordering_reverse less)

  pub searchable : (xs : List X) (q : List ℕ) → Rise xs → IsNonDecreasingBy (λ x. ordering_index (slice_cmp nat_cmp (name x) q)) xs
  searchable xs q h = searchable_from_sorted nat_list_cmp_total name xs q (sorted xs h)

  either_side : (k i : ℕ) → (k < i) ⊎ (i ≤ k)
  either_side k zero = inr (omega arith)
  either_side zero (suc i) = inl (omega arith)
  either_side (suc k) (suc i) = elim (either_side k i) [
    | inl e ↦ inl (omega arith)
    | inr e ↦ inr (omega arith)
  ]

  each_by_place : (P : X → Type 0) (xs : List X) → ((k : ℕ) (d : X) → k < length xs → P (get_or xs k d)) → AllByRecursion P xs
  each_by_place P [] h = tt
  each_by_place P (x ∷ xs) h = (h 0 x (omega arith), each_by_place P xs (λ k d within. h (suc k) d (omega arith)))

  unlike_by : (q n : List ℕ) (o : Ordering) → slice_cmp nat_cmp n q ≡ o → is_eq o ≡ false → bytes_eq n q ≡ false
  unlike_by q n o e none = sym (is_eq-slice_cmp n q) ∙ ap is_eq e ∙ none

  -- what is not found is no name
  pub none_named : (xs : List X) (i : ℕ) (q : List ℕ)
      → IsPartitionPoint (λ x. slice_cmp nat_cmp (name x) q ≡ Less) (λ x. slice_cmp nat_cmp (name x) q ≡ Greater) xs i
      → AllByRecursion (λ x. bytes_eq (name x) q ≡ false) xs
  none_named xs i q parted =
      each_by_place (λ x. bytes_eq (name x) q ≡ false) xs (λ k d within. elim (either_side k i) [
        | inl less ↦ unlike_by q (name (get_or xs k d)) Less (parted.0 k d (omega arith) less) refl
        | inr not_less ↦ unlike_by q (name (get_or xs k d)) Greater (parted.1 k d not_less within) refl
      ])

-- texts that compare as equal are the same
pub told_same : (a q : List ℕ) → is_eq (slice_cmp nat_cmp a q) ≡ true → a ≡ q
told_same a q told = (bytes_eq-Decides a q).0 (sym (is_eq-slice_cmp a q) ∙ told)

pub same_name : (a q : List ℕ) → slice_cmp nat_cmp a q ≡ Equal → a ≡ q
same_name a q e = told_same a q (ap is_eq e)

-- ---- lists with the same names

module _ {X Y : Type 0} (f : X → List ℕ) (g : Y → List ℕ) where
  pub as_many : (xs : List X) (ys : List Y) → map f xs ≡ map g ys → length xs ≡ length ys
  as_many [] [] e = refl
  as_many [] (y ∷ ys) e = absurd (cc)
  as_many (x ∷ xs) [] e = absurd (cc)
  as_many (x ∷ xs) (y ∷ ys) e = ap suc (as_many xs ys (cc))

  pub same_at : (xs : List X) (ys : List Y) → map f xs ≡ map g ys → (i : ℕ) (d : X) (e : Y) → i < length xs
      → f (get_or xs i d) ≡ g (get_or ys i e)
  same_at [] ys e i d d' within = absurd (omega arith)
  same_at (x ∷ xs) [] e i d d' within = absurd (cc)
  same_at (x ∷ xs) (y ∷ ys) e zero d d' within = cc
  same_at (x ∷ xs) (y ∷ ys) e (suc i) d d' within = same_at xs ys (cc) i d d' (omega arith)

  pub all_as : (P : List ℕ → Type 0) (xs : List X) (ys : List Y) → map f xs ≡ map g ys → AllByRecursion (λ y. P (g y)) ys
      → AllByRecursion (λ x. P (f x)) xs
  all_as P [] ys e h = tt
  all_as P (x ∷ xs) [] e h = absurd (cc)
  all_as P (x ∷ xs) (y ∷ ys) e h = (let first : g y ≡ f x = cc in subst P first h.0, all_as P xs ys (cc) h.1)
