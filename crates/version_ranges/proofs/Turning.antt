-- The turns that a sign and a list of boundaries stand for.
use Rattle.std.proofs.Common.{◌≡◌, length, arith, Bool, true, false, not, List, [], ◌∷◌, ◌++◌, map, refl, ap}
use Rattle.std.proofs.Common.{sym, subst, ◌∙◌}
use mathlib.Core.Bool.{beq}
use Rattle.std.proofs.lemmas.List.{map-append}
use Rattle.std.specs.List.{AllByRecursion}
use Rattle.std.specs.declared.cmp.Ordering.{Ordering}
use Rattle.std.specs.declared.cmp.Ordering.TheVariants.{Less, Equal}
use Rattle.std.specs.Ordering.{on, ordering_then}
use Rattle.std.specs.Cmp.{IsTotalOrder}
use Rattle.std.specs.Cmp.Lexicographic.{slice_cmp}
use Rattle.version_ranges.specs.declared.boundary.Boundary.{Boundary}
use Rattle.version_ranges.specs.declared.boundary.Boundary.TheVariants as boundary
use Rattle.version_ranges.specs.Point.{Point, BelowAll, At, JustAbove, point_cmp}
use Rattle.version_ranges.specs.Turns.{flips, reaches, is_held, Rising}
use Rattle.version_ranges.specs.Held.{holds_at, HoldSamePoints, IsNormal}
use Rattle.version_ranges.specs.Boundaries.{point_of, boundary_cmp, turns_of}
use Rattle.version_ranges.specs.OrderLaws.{points_total, boundaries_total}
use Rattle.version_ranges.specs.Merging.{Takes, Adds, IsFirst}
use Rattle.version_ranges.specs.HashingLaws.{then_equal}
use Rattle.version_ranges.proofs.Membership.{is_held_beyond, Below, not_not, flips_false, same_points}
use Rattle.version_ranges.proofs.Membership.{tied_rises}
use Rattle.version_ranges.proofs.Pass.{Joined}

-- through a function
module _ {J K : Type 0} (f : J → K) where
  all_map : (P : K → Type 0) (xs : List J) → AllByRecursion (λ x. P (f x)) xs → AllByRecursion P (map f xs)
  all_map P [] a = tt
  all_map P (x ∷ xs) a = (a.0, all_map P xs a.1)

  all_unmap : (P : K → Type 0) (xs : List J) → AllByRecursion P (map f xs) → AllByRecursion (λ x. P (f x)) xs
  all_unmap P [] a = tt
  all_unmap P (x ∷ xs) a = (a.0, all_unmap P xs a.1)

  module _ (R : K → K → Ordering) where
    rising_map : (xs : List J) → Rising (on f R) xs → Rising R (map f xs)
    rising_map [] r = tt
    rising_map (x ∷ xs) r = (all_map (λ y. R (f x) y ≡ Less) xs r.0, rising_map xs r.1)

    rising_unmap : (xs : List J) → Rising R (map f xs) → Rising (on f R) xs
    rising_unmap [] r = tt
    rising_unmap (x ∷ xs) r = (all_unmap (λ y. R (f x) y ≡ Less) xs r.0, rising_unmap xs r.1)

    slice_cmp-map : (xs ys : List J) → slice_cmp R (map f xs) (map f ys) ≡ slice_cmp (on f R) xs ys
    slice_cmp-map [] [] = refl
    slice_cmp-map [] (y ∷ ys) = refl
    slice_cmp-map (x ∷ xs) [] = refl
    slice_cmp-map (x ∷ xs) (y ∷ ys) = ap (ordering_then (R (f x) (f y))) (slice_cmp-map xs ys)

    takes_map : (t : J) (there : Bool) (list left : List J) → Takes (on f R) t there list left →
        Takes R (f t) there (map f list) (map f left)
    takes_map t true list left h = (f h.0, ap (map f) h.1, h.2)
    takes_map t false list left h = ap (map f) h

    pub first_map : {a b left_a left_b : List J} {t : J} {in_a in_b : Bool} →
        IsFirst (on f R) a b t in_a in_b left_a left_b →
        IsFirst R (map f a) (map f b) (f t) in_a in_b (map f left_a) (map f left_b)
    first_map {a} {b} {left_a} {left_b} {t} {in_a} {in_b} n = record {
      taken_a = takes_map t in_a a left_a n.taken_a;
      taken_b = takes_map t in_b b left_b n.taken_b;
      taken = n.taken;
      before_a = λ p q. all_map (λ y. R (f t) y ≡ Less) left_a
          (n.before_a (rising_unmap a p) (rising_unmap b q));
      before_b = λ p q. all_map (λ y. R (f t) y ≡ Less) left_b
          (n.before_b (rising_unmap a p) (rising_unmap b q));
    }

-- a list that has nothing
pub no_more : {K : Type 0} (xs : List K) → length xs ≡ 0 → xs ≡ []
no_more [] e = refl
no_more (x ∷ xs) e = absurd (omega arith)

pub same_sign : (s t : Bool) → beq s t ≡ true → t ≡ s
same_sign true true e = refl
same_sign true false e = absurd (cc)
same_sign false true e = absurd (cc)
same_sign false false e = refl

pub other_sign : (s t : Bool) → beq s t ≡ false → t ≡ not s
other_sign true true e = absurd (cc)
other_sign true false e = refl
other_sign false true e = refl
other_sign false false e = absurd (cc)

-- the same set by a sign that is known
pub turns_at : {T : Type 0} (s t : Bool) (boundaries : List (Boundary T)) (set : List (Point T)) → s ≡ t →
    turns_of s boundaries ≡ set → turns_of t boundaries ≡ set
turns_at s t boundaries set e h = sym (ap (λ sign. turns_of sign boundaries) e) ∙ h

module _ {T : Type 0} (cmp : T → T → Ordering) where
  -- the point below all comes before each boundary
  below_all : (boundaries : List (Boundary T)) →
      AllByRecursion (λ p. point_cmp cmp BelowAll p ≡ Less) (map point_of boundaries)
  below_all [] = tt
  below_all (boundary.At v ∷ later) = (refl, below_all later)
  below_all (boundary.JustAbove v ∷ later) = (refl, below_all later)

  pub normal_turns : (starts : Bool) (boundaries : List (Boundary T)) →
      Rising (boundary_cmp cmp) boundaries →
      IsNormal cmp (turns_of starts boundaries)
  normal_turns true boundaries r = (below_all boundaries, rising_map point_of (point_cmp cmp) boundaries r)
  normal_turns false boundaries r = rising_map point_of (point_cmp cmp) boundaries r

  pub rising_boundaries : (starts : Bool) (boundaries : List (Boundary T)) →
      IsNormal cmp (turns_of starts boundaries) →
      Rising (boundary_cmp cmp) boundaries
  rising_boundaries true boundaries n = rising_unmap point_of (point_cmp cmp) boundaries n.1
  rising_boundaries false boundaries n = rising_unmap point_of (point_cmp cmp) boundaries n

  reached_by_all : (p : Point T) → reaches (point_cmp cmp) BelowAll p ≡ true
  reached_by_all BelowAll = refl
  reached_by_all (At v) = refl
  reached_by_all (JustAbove v) = refl

  pub held_turns : (starts : Bool) (boundaries : List (Boundary T)) (p : Point T) →
      holds_at cmp (turns_of starts boundaries) p ≡ flips starts
      (is_held (point_cmp cmp) (map point_of boundaries) p)
  held_turns true boundaries p =
      ap (λ b. flips b (is_held (point_cmp cmp) (map point_of boundaries) p)) (reached_by_all p)
  held_turns false boundaries p = refl

  -- the other sign holds the other points
  pub held_turned : (starts : Bool) (boundaries : List (Boundary T)) (p : Point T) →
      holds_at cmp (turns_of (not starts) boundaries) p ≡ not (holds_at cmp (turns_of starts boundaries) p)
  held_turned true boundaries p =
      sym (ap not (held_turns true boundaries p)
      ∙ not_not (is_held (point_cmp cmp) (map point_of boundaries) p))
  held_turned false boundaries p = held_turns true boundaries p

  -- a boundary is added
  pub adds_turns : (starts : Bool) (t : Boundary T) (there : Bool) (old new : List (Boundary T)) →
      Adds (boundary_cmp cmp) t there old new →
      Adds (point_cmp cmp) (point_of t) there (turns_of starts old) (turns_of starts new)
  adds_turns true t true old new h = (
    point_of h.0,
    ap (turns_of true) h.1
        ∙ ap (λ ps. BelowAll ∷ ps) (map-append point_of old (h.0 ∷ [])),
    h.2,
  )
  adds_turns false t true old new h =
      (point_of h.0, ap (map point_of) h.1 ∙ map-append point_of old (h.0 ∷ []), h.2)
  adds_turns starts t false old new h = ap (turns_of starts) h

  -- a pass begins with the signs
  signs_below : (starts : Bool) (boundaries : List (Boundary T)) →
      Below (point_cmp cmp) (turns_of starts []) (map point_of boundaries)
  signs_below starts [] = tt
  signs_below true (boundary.At v ∷ later) = ((refl, tt), signs_below true later)
  signs_below true (boundary.JustAbove v ∷ later) = ((refl, tt), signs_below true later)
  signs_below false (boundary ∷ later) = (tt, signs_below false later)

  sign_first : (starts : Bool) (boundaries : List (Boundary T)) →
      turns_of starts [] ++ map point_of boundaries ≡ turns_of starts boundaries
  sign_first true boundaries = refl
  sign_first false boundaries = refl

  sign_beyond : (starts : Bool) → is_held_beyond (turns_of {T = T} starts []) ≡ starts
  sign_beyond true = refl
  sign_beyond false = refl

  sign_held : (starts : Bool) (p : Point T) → holds_at cmp (turns_of starts []) p ≡ starts
  sign_held starts p = held_turns starts [] p ∙ flips_false starts

  signs : (f : Bool → Bool → Bool) (in_a in_b starts : Bool) (a b : List (Boundary T)) →
      starts ≡ f in_a in_b →
      IsNormal cmp (turns_of in_a a) → IsNormal cmp (turns_of in_b b) →
      Joined (point_cmp cmp) f (turns_of in_a a) (turns_of in_b b) (turns_of starts []) (map point_of a)
      (map point_of b)
      in_a in_b
  signs f in_a in_b starts a b e n m = record {
    read_a = turns_of in_a [];
    read_b = turns_of in_b [];
    a_is = sign_first in_a a;
    b_is = sign_first in_b b;
    end_a = sym (sign_beyond in_a);
    end_b = sym (sign_beyond in_b);
    end_out = sign_beyond starts ∙ e;
    points = λ p. sign_held starts p ∙ e ∙ (λ i. f (sym (sign_held in_a p) i) (sym (sign_held in_b p) i));
    rising_out = normal_turns starts [] tt;
    rising_a = rising_map point_of (point_cmp cmp) a (rising_boundaries in_a a n);
    rising_b = rising_map point_of (point_cmp cmp) b (rising_boundaries in_b b m);
    a_a = signs_below in_a a;
    a_b = signs_below in_a b;
    b_a = signs_below in_b a;
    b_b = signs_below in_b b;
    out_a = signs_below starts a;
    out_b = signs_below starts b;
  }

  pub joined_signs : (f : Bool → Bool → Bool) (x y : List (Point T)) (in_a in_b starts : Bool)
      (a b out : List (Boundary T)) →
      turns_of in_a a ≡ x → turns_of in_b b ≡ y → out ≡ [] → starts ≡ f in_a in_b → IsNormal cmp x →
      IsNormal cmp y →
      Joined (point_cmp cmp) f x y (turns_of starts out) (map point_of a) (map point_of b) in_a in_b
  joined_signs f x y in_a in_b starts a b out d h k e n m =
      subst (λ u. Joined (point_cmp cmp) f u y (turns_of starts out) (map point_of a) (map point_of b) in_a
      in_b) d
      (subst (λ v. Joined (point_cmp cmp) f (turns_of in_a a) v (turns_of starts out) (map point_of a)
      (map point_of b) in_a in_b) h
      (subst
      (λ o. Joined (point_cmp cmp) f (turns_of in_a a) (turns_of in_b b) (turns_of starts o) (map point_of a)
      (map point_of b)
      in_a in_b)
      (sym k) (signs f in_a in_b starts a b e (subst (IsNormal cmp) (sym d) n)
      (subst (IsNormal cmp) (sym h) m))))

  -- boundaries that are equal one by one stand for the same turns
  pub turns_cmp : (starts : Bool) (a b : List (Boundary T)) →
      slice_cmp (point_cmp cmp) (turns_of starts a) (turns_of starts b) ≡ slice_cmp (boundary_cmp cmp) a b
  turns_cmp true a b = slice_cmp-map point_of (point_cmp cmp) a b
  turns_cmp false a b = slice_cmp-map point_of (point_cmp cmp) a b

  module _ (o : IsTotalOrder cmp) where
    pub normal_copies : (starts : Bool) (copies boundaries : List (Boundary T)) →
        slice_cmp (boundary_cmp cmp) copies boundaries ≡ Equal → Rising (boundary_cmp cmp) boundaries →
        IsNormal cmp (turns_of starts copies)
    normal_copies starts copies boundaries e r =
        normal_turns starts copies (tied_rises (boundaries_total cmp o) copies boundaries e r)

    pub copies_hold : (starts : Bool) (copies boundaries : List (Boundary T)) →
        slice_cmp (boundary_cmp cmp) copies boundaries ≡ Equal →
        HoldSamePoints cmp (turns_of starts copies) (turns_of starts boundaries)
    copies_hold starts copies boundaries e =
        same_points (points_total cmp o) (turns_of starts copies) (turns_of starts boundaries)
        (turns_cmp starts copies boundaries ∙ e)

-- one more of each list
pub tied_more : {K : Type 0} (R : K → K → Ordering) (xs ys : List K) (x y : K) → slice_cmp R xs ys ≡ Equal →
    R x y ≡ Equal → slice_cmp R (xs ++ x ∷ []) (ys ++ y ∷ []) ≡ Equal
tied_more R [] [] x y e h = ap (λ r. ordering_then r Equal) h
tied_more R [] (w ∷ ys) x y e h = absurd (cc)
tied_more R (v ∷ xs) [] x y e h = absurd (cc)
tied_more R (v ∷ xs) (w ∷ ys) x y e h =
    let both = then_equal (R v w) (slice_cmp R xs ys) e in
    ap (λ r. ordering_then r (slice_cmp R (xs ++ x ∷ []) (ys ++ y ∷ []))) both.0
    ∙ tied_more R xs ys x y both.1 h
