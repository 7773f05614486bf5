-- The bytes of components stand in the components' order, whatever follows them, and so do those of versions.
use Rattle.std.proofs.Common.{◌≡◌, ℕ, List, [], ◌∷◌, ◌++◌, length, refl, ap, sym, ◌∙◌, append_assoc, IsTrue}
use Rattle.std.proofs.Common.{◌↔◌, arith}
use Rattle.std.proofs.lemmas.List.{append-nil}
use Rattle.std.specs.declared.cmp.Ordering.TheVariants.{Less}
use Rattle.std.specs.Ordering.{ordering_then, ordering_reverse, nat_cmp, is_eq}
use Rattle.std.specs.Cmp.{tied_itself}
use Rattle.std.specs.Cmp.Lexicographic.{slice_cmp, nat_list_cmp_total}
use Rattle.pep440_text.specs.Record.{Segment, Text, Number, VersionRecord, without_local}
use Rattle.pep440_version.specs.Order.{segment_key, local_key, key_of, key_cmp, version_cmp, version_eq}
use Rattle.pep440_version.specs.OrderLaws.{same_key}
use Rattle.pep440_version.proofs.Stripped.{then_equal_last}
use Rattle.pep440_key.specs.Key.{bytes_cmp, number_bytes, component_bytes, components_bytes, version_bytes}
use Rattle.pep440_key.proofs.NumberOrder.{then_again, number_ordered, end_below}

-- ---- numbers and their end

numbers_after : (n : ℕ) (ns x : List ℕ)
    → component_bytes (n ∷ ns) ++ x ≡ number_bytes n ++ (component_bytes ns ++ x)
numbers_after n ns x = simp append_assoc

none_below : (m : ℕ) (b x y : List ℕ) → bytes_cmp (0 ∷ x) (component_bytes (m ∷ b) ++ y) ≡ Less
none_below m b x y = ap (bytes_cmp (0 ∷ x)) (numbers_after m b y) ∙ end_below m x (component_bytes b ++ y)

pub component_ordered : (a b x y : List ℕ)
    → bytes_cmp (component_bytes a ++ x) (component_bytes b ++ y)
    ≡ ordering_then (slice_cmp nat_cmp a b) (bytes_cmp x y)
component_ordered [] [] x y = refl
component_ordered [] (m ∷ b) x y = none_below m b x y
component_ordered (n ∷ a) [] x y =
    nat_list_cmp_total.antisymm (component_bytes (n ∷ a) ++ x) (0 ∷ y)
    ∙ ap ordering_reverse (none_below n a y x)
component_ordered (n ∷ a) (m ∷ b) x y =
    ap (λ t. bytes_cmp t (component_bytes (m ∷ b) ++ y)) (numbers_after n a x)
    ∙ ap (bytes_cmp (number_bytes n ++ (component_bytes a ++ x))) (numbers_after m b y)
    ∙ number_ordered n m (component_bytes a ++ x) (component_bytes b ++ y)
    ∙ ap (ordering_then (nat_cmp n m)) (component_ordered a b x y)
    ∙ then_again (nat_cmp n m) (slice_cmp nat_cmp a b) (bytes_cmp x y)

-- ---- components and their end

components_after : (c : List ℕ) (cs : List (List ℕ)) (x : List ℕ)
    → components_bytes (c ∷ cs) ++ x ≡ component_bytes c ++ (components_bytes cs ++ x)
components_after c cs x = simp append_assoc

abbrev InOrder : List (List ℕ) → List (List ℕ) → List ℕ → List ℕ → Type 0
InOrder cs ds x y =
    bytes_cmp (components_bytes cs ++ x) (components_bytes ds ++ y)
    ≡ ordering_then (key_cmp cs ds) (bytes_cmp x y)

in_front : (c d : List ℕ) (cs ds : List (List ℕ)) (x y : List ℕ) → InOrder cs ds x y
    → InOrder (c ∷ cs) (d ∷ ds) x y
in_front c d cs ds x y e =
    ap (λ t. bytes_cmp t (components_bytes (d ∷ ds) ++ y)) (components_after c cs x)
    ∙ ap (bytes_cmp (component_bytes c ++ (components_bytes cs ++ x))) (components_after d ds y)
    ∙ component_ordered c d (components_bytes cs ++ x) (components_bytes ds ++ y)
    ∙ ap (ordering_then (slice_cmp nat_cmp c d)) e
    ∙ then_again (slice_cmp nat_cmp c d) (key_cmp cs ds) (bytes_cmp x y)

all_in_front : (xs ys cs ds : List (List ℕ)) (x y : List ℕ) → length xs ≡ length ys → InOrder cs ds x y
    → InOrder (xs ++ cs) (ys ++ ds) x y
all_in_front [] [] cs ds x y h e = e
all_in_front [] (d ∷ ys) cs ds x y h e = absurd (omega arith)
all_in_front (c ∷ xs) [] cs ds x y h e = absurd (omega arith)
all_in_front (c ∷ xs) (d ∷ ys) cs ds x y h e =
    in_front c d (xs ++ cs) (ys ++ ds) x y (all_in_front xs ys cs ds x y (omega arith) e)

-- ---- local parts

segment_above : (s : Segment) (x y : List ℕ) → bytes_cmp (0 ∷ x) (component_bytes (segment_key s) ++ y) ≡ Less
unfolding number_bytes
segment_above (Text bytes) x y = refl
segment_above (Number number) x y = refl

no_local_below : (s : Segment) (b : List Segment) (x y : List ℕ)
    → bytes_cmp (0 ∷ x) (components_bytes (local_key (s ∷ b)) ++ y) ≡ Less
no_local_below s b x y =
    ap (bytes_cmp (0 ∷ x)) (components_after (segment_key s) (local_key b) y)
    ∙ segment_above s x (components_bytes (local_key b) ++ y)

local_ordered : (a b : List Segment) (x y : List ℕ) → InOrder (local_key a) (local_key b) x y
local_ordered [] [] x y = refl
local_ordered [] (s ∷ b) x y = no_local_below s b x y
local_ordered (r ∷ a) [] x y =
    nat_list_cmp_total.antisymm (components_bytes (local_key (r ∷ a)) ++ x) (0 ∷ y)
    ∙ ap ordering_reverse (no_local_below r a y x)
local_ordered (r ∷ a) (s ∷ b) x y =
    in_front (segment_key r) (segment_key s) (local_key a) (local_key b) x y (local_ordered a b x y)

-- ---- versions

pub before_others : (a b : VersionRecord) (x y : List ℕ)
    → bytes_cmp (version_bytes a ++ x) (version_bytes b ++ y)
    ≡ ordering_then (version_cmp a b) (bytes_cmp x y)
unfolding key_of
before_others a b x y =
    all_in_front (key_of (without_local a)) (key_of (without_local b)) (local_key a.local) (local_key b.local) x y
    refl (local_ordered a.local b.local x y)

pub in_order : (a b : VersionRecord) → bytes_cmp (version_bytes a) (version_bytes b) ≡ version_cmp a b
in_order a b =
    ap (λ t. bytes_cmp t (version_bytes b)) (sym (append-nil (version_bytes a)))
    ∙ ap (bytes_cmp (version_bytes a ++ [])) (sym (append-nil (version_bytes b)))
    ∙ before_others a b [] []
    ∙ then_equal_last (version_cmp a b)

pub same_where_equal : (a b : VersionRecord) → (version_bytes a ≡ version_bytes b) ↔ IsTrue (version_eq a b)
same_where_equal a b = (
  λ e. ap is_eq (sym (in_order a b) ∙ ap (bytes_cmp (version_bytes a)) (sym e)
      ∙ tied_itself nat_list_cmp_total (version_bytes a)),
  λ h. ap components_bytes (same_key a b h),
)
