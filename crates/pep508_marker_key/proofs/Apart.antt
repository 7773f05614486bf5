-- Bytes that tell things apart whatever follows them, put together.
use Rattle.std.proofs.Common.{◌≡◌, ℕ, List, [], ◌∷◌, ◌++◌, refl, ap, ap₂, sym, ◌∙◌, append_assoc, arith}
use Rattle.std.proofs.lemmas.List.{append-nil}
use Rattle.std.proofs.lemmas.Map.Lookups.{exact_bytes}
use Rattle.std.specs.declared.cmp.Ordering.{Ordering}
use Rattle.std.specs.declared.cmp.Ordering.TheVariants.{Less, Equal, Greater}
use Rattle.std.specs.Ordering.{ordering_then, then_cmp, nat_cmp, is_eq}
use Rattle.std.specs.Cmp.{tied_itself, unsigned_tied, unsigned_Decides}
use Rattle.std.specs.Cmp.Lexicographic.{slice_cmp, nat_list_cmp_total}
use Rattle.version_ranges.specs.declared.boundary.Boundary.TheVariants.{At, JustAbove}
use Rattle.version_ranges.specs.Boundaries.{boundary_cmp}
use Rattle.version_ranges.specs.HashingLaws.{then_equal}
use Rattle.pep440_version.specs.Order.{version_cmp}
use Rattle.pep440_key.specs.Key.{bytes_cmp, number_bytes, component_bytes, version_bytes}
use Rattle.pep440_key.proofs.NumberOrder.{number_ordered}
use Rattle.pep440_key.proofs.KeyOrder.{component_ordered, before_others}
use Rattle.pep508_diagram.specs.Text.{text_cmp}
use Rattle.pep508_diagram.specs.Question.{Question, place_of, version_boundaries, text_boundaries, question_cmp}
use Rattle.pep508_marker_key.specs.Told.{TellApart, listed_bytes, boundary_bytes}
use Rattle.pep508_marker_key.specs.Key.{question_bytes}

-- ---- lists that are the same

pub heads : (a b : ℕ) (x y : List ℕ) → a ∷ x ≡ b ∷ y → a ≡ b
heads a b x y e = ap (first a) e
  where
    first : ℕ → List ℕ → ℕ
    first d [] = d
    first d (c ∷ cs) = c

pub tails : (a b : ℕ) (x y : List ℕ) → a ∷ x ≡ b ∷ y → x ≡ y
tails a b x y e = ap rest e
  where
    rest : List ℕ → List ℕ
    rest [] = []
    rest (c ∷ cs) = cs

-- ---- bytes that compare as things do

pub apart_by_order : {X : Type 0} (cmp : X → X → Ordering) (bytes : X → List ℕ) →
    ((x y : X) (u v : List ℕ) → bytes_cmp (bytes x ++ u) (bytes y ++ v)
    ≡ ordering_then (cmp x y) (bytes_cmp u v)) → TellApart cmp bytes
apart_by_order cmp bytes order x y u v = (
  λ e.
      let both =
      then_equal (cmp x y) (bytes_cmp u v)
      (sym (order x y u v) ∙ ap (bytes_cmp (bytes x ++ u)) (sym e)
      ∙ tied_itself nat_list_cmp_total (bytes x ++ u)) in
      (both.0, exact_bytes u v both.1),
  λ h.
      exact_bytes (bytes x ++ u) (bytes y ++ v)
      (order x y u v
      ∙ ap₂ ordering_then h.0 (ap (bytes_cmp u) (sym h.1) ∙ tied_itself nat_list_cmp_total u)),
)

pub numbers_apart : TellApart nat_cmp number_bytes
numbers_apart = apart_by_order nat_cmp number_bytes number_ordered

pub texts_apart : TellApart text_cmp component_bytes
texts_apart = apart_by_order text_cmp component_bytes component_ordered

pub versions_apart : TellApart version_cmp version_bytes
versions_apart = apart_by_order version_cmp version_bytes before_others

pub equal_numbers : (n m : ℕ) → nat_cmp n m ≡ Equal → n ≡ m
equal_numbers n m e = (unsigned_Decides n m).0 (sym (unsigned_tied n m) ∙ ap is_eq e)

-- ---- one thing after another

module _ {X : Type 0} {cmp other : X → X → Ordering} (f g : X → List ℕ) where
  pub then_apart : TellApart cmp f → TellApart other g → TellApart (then_cmp cmp other) (λ x. f x ++ g x)
  then_apart first second x y u v = (
    λ e.
        let one =
        (first x y (g x ++ u) (g y ++ v)).0
        (sym (append_assoc (f x) (g x) u) ∙ e ∙ append_assoc (f y) (g y) v) in
        let two = (second x y u v).0 one.1 in
        (ap₂ ordering_then one.0 two.0, two.1),
    λ h.
        let both = then_equal (cmp x y) (other x y) h.0 in
        append_assoc (f x) (g x) u
        ∙ (first x y (g x ++ u) (g y ++ v)).1 (both.0, (second x y u v).1 (both.1, h.1))
        ∙ sym (append_assoc (f y) (g y) v),
  )

-- ---- lists and boundaries

less_not_equal : Less ≡ Equal → ⊥
less_not_equal e = absurd (cc)

greater_not_equal : Greater ≡ Equal → ⊥
greater_not_equal e = absurd (cc)

module _ {X : Type 0} {cmp : X → X → Ordering} (bytes : X → List ℕ) (apart : TellApart cmp bytes) where
  pub listed_apart : TellApart (slice_cmp cmp) (listed_bytes bytes)
  listed_apart [] [] u v = (λ e. (refl, tails 0 0 u v e), λ h. ap (λ t. 0 ∷ t) h.1)
  listed_apart [] (y ∷ ys) u v = (
    λ e. absurd (omega (arith, heads 0 1 u ((bytes y ++ listed_bytes bytes ys) ++ v) e)),
    λ h. absurd (less_not_equal h.0),
  )
  listed_apart (x ∷ xs) [] u v = (
    λ e. absurd (omega (arith, heads 1 0 ((bytes x ++ listed_bytes bytes xs) ++ u) v e)),
    λ h. absurd (greater_not_equal h.0),
  )
  listed_apart (x ∷ xs) (y ∷ ys) u v =
      let rest = listed_bytes bytes xs in
      let other_rest = listed_bytes bytes ys in (
        λ e.
            let inner = tails 1 1 ((bytes x ++ rest) ++ u) ((bytes y ++ other_rest) ++ v) e in
            let one =
            (apart x y (rest ++ u) (other_rest ++ v)).0
            (sym (append_assoc (bytes x) rest u) ∙ inner ∙ append_assoc (bytes y) other_rest v) in
            let two = (listed_apart xs ys u v).0 one.1 in
            (ap₂ ordering_then one.0 two.0, two.1),
        λ h.
            let both = then_equal (cmp x y) (slice_cmp cmp xs ys) h.0 in
            ap (λ t. 1 ∷ t)
            (append_assoc (bytes x) rest u
            ∙ (apart x y (rest ++ u) (other_rest ++ v)).1 (both.0, (listed_apart xs ys u v).1 (both.1, h.1))
            ∙ sym (append_assoc (bytes y) other_rest v)),
      )

  pub boundaries_apart : TellApart (boundary_cmp cmp) (boundary_bytes bytes)
  boundaries_apart (At x) (At y) u v = (
    λ e. (apart x y u v).0 (tails 0 0 (bytes x ++ u) (bytes y ++ v) e),
    λ h. ap (λ t. 0 ∷ t) ((apart x y u v).1 h),
  )
  boundaries_apart (At x) (JustAbove y) u v = (
    λ e. absurd (omega (arith, heads 0 1 (bytes x ++ u) (bytes y ++ v) e)),
    λ h. absurd (less_not_equal (then_equal (cmp x y) Less h.0).1),
  )
  boundaries_apart (JustAbove x) (At y) u v = (
    λ e. absurd (omega (arith, heads 1 0 (bytes x ++ u) (bytes y ++ v) e)),
    λ h. absurd (greater_not_equal (then_equal (cmp x y) Greater h.0).1),
  )
  boundaries_apart (JustAbove x) (JustAbove y) u v = (
    λ e. (apart x y u v).0 (tails 1 1 (bytes x ++ u) (bytes y ++ v) e),
    λ h. ap (λ t. 1 ∷ t) ((apart x y u v).1 h),
  )

-- ---- questions

abbrev version_part : Question → List ℕ
version_part q = listed_bytes (boundary_bytes version_bytes) (version_boundaries q)

abbrev text_part : Question → List ℕ
text_part q = listed_bytes (boundary_bytes component_bytes) (text_boundaries q)

pub questions_apart : TellApart question_cmp question_bytes
unfolding question_cmp question_bytes
questions_apart =
    then_apart (λ q. component_bytes (place_of q)) (λ q. version_part q ++ text_part q)
    (λ q r. texts_apart (place_of q) (place_of r))
    (then_apart version_part text_part
    (λ q r. listed_apart (boundary_bytes version_bytes) (boundaries_apart version_bytes versions_apart)
    (version_boundaries q) (version_boundaries r))
    (λ q r. listed_apart (boundary_bytes component_bytes) (boundaries_apart component_bytes texts_apart)
    (text_boundaries q) (text_boundaries r)))

-- equal things have the same bytes
pub same_bytes : {X : Type 0} {cmp : X → X → Ordering} (bytes : X → List ℕ) → TellApart cmp bytes →
    (x y : X) → cmp x y ≡ Equal → bytes x ≡ bytes y
same_bytes bytes apart x y e =
    sym (append-nil (bytes x)) ∙ (apart x y [] []).1 (e, refl) ∙ append-nil (bytes y)
