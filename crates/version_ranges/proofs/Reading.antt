-- A set read as its intervals.
use Rattle.std.proofs.Common.{◌≡◌, ℕ, suc, zero, ◌+◌, ◌<◌, ◌/◌, ◌%◌, length, arith, Bool, true, false, not}
use Rattle.std.proofs.Common.{◌&&◌, ◌||◌, cond, List, [], ◌∷◌, ◌++◌, map, refl, ap, sym, subst, ◌∙◌}
use Rattle.std.proofs.Math.Nat.{suc-mod}
use Rattle.std.proofs.lemmas.List.{map-append, length-map}
use mathlib.Core.Bool.{beq}
use Rattle.std.specs.Prelude.{◌==◌, Option, Some, None, MatchOption, IsTrue}
use Rattle.std.specs.Borrow.{Bor}
use Rattle.std.specs.Option.{option_map}
use Rattle.std.specs.List.{list_any}
use Rattle.std.specs.declared.cmp.Ordering.{Ordering}
use Rattle.std.specs.declared.cmp.Ordering.TheVariants.{Less, Equal, Greater}
use Rattle.std.specs.Ordering.{is_gt, is_eq, is_lt, ordering_reverse, ordering_then}
use Rattle.std.specs.Cmp.{IsTotalOrder, tied_itself, tied_back, alike_right, upto, Equal-is}
use borrow.Author.Tests.{eqb-true}
use Rattle.std.specs.Cmp.Lexicographic.{slice_cmp}
use Rattle.std.specs.declared.ops.Bound.{Bound}
use Rattle.std.specs.declared.ops.Bound.TheVariants.{Included, Excluded, Unbounded}
use Rattle.version_ranges.specs.Point.{Point, BelowAll, At, JustAbove, point_cmp}
use Rattle.version_ranges.specs.Turns.{flips, reaches, is_held, Rising}
use Rattle.version_ranges.specs.Held.{holds_at, HoldsOnly, IsNormal}
use Rattle.version_ranges.specs.Bounds.{starts_by, goes_on_to, is_within, single_value, lower_bound_at}
use Rattle.version_ranges.specs.Bounds.{upper_bound_at, intervals, last_upper}
use Rattle.version_ranges.specs.Order.{start_point, end_points}
use Rattle.version_ranges.specs.OrderLaws.{points_total}
use Rattle.version_ranges.specs.Boundaries.{point_of, turns_of}
use Rattle.version_ranges.specs.declared.boundary.Boundary.{Boundary}
use Rattle.version_ranges.specs.HashingLaws.{then_equal}
use Rattle.version_ranges.proofs.Membership.{is_held_beyond, not_not, differs, flips_comm, flips_false}
use Rattle.version_ranges.proofs.Membership.{all_weaker, held_before, past_less, before_less, canonical}
use Rattle.version_ranges.proofs.Membership.{held_at_head}

-- the point lies at a value or just above one, so that an interval can end there
abbrev pub LiesAtValue : {T : Type 0} → Point T → Type 0
LiesAtValue BelowAll = ⊥
LiesAtValue (At v) = Unit {0}
LiesAtValue (JustAbove v) = Unit {0}

odd_at : (k : ℕ) → k < 2 → (suc k % 2 == 1) ≡ not (k == 1)
odd_at zero h = refl
odd_at (suc zero) h = refl
odd_at (suc (suc k)) h = absurd (omega arith)

-- one more is odd where it was even
pub odd_suc : (n : ℕ) → (suc n % 2 == 1) ≡ not (n % 2 == 1)
odd_suc n = ap (λ k. k == 1) (suc-mod n 2) ∙ odd_at (n % 2) (omega arith)

-- the last interval
module _ {T : Type 0} where
  -- after an even number of turns the last one ends an interval
  pub last_upper_even : (u : Bound T) (set front : List (Point T)) (last : Point T) →
      set ≡ front ++ last ∷ [] →
      is_held_beyond set ≡ false → last_upper u (intervals set) ≡ upper_bound_at last
  last_upper_even u [] [] last e h = absurd (cc)
  last_upper_even u [] (x ∷ front) last e h = absurd (cc)
  last_upper_even u (x ∷ []) front last e h = absurd (cc)
  last_upper_even u (x ∷ y ∷ set) [] last e h = absurd (cc)
  last_upper_even u (x ∷ y ∷ set) (v ∷ []) last e h =
      let s : set ≡ [] = cc in
      let l : y ≡ last = cc in
      ap (λ later. last_upper (upper_bound_at y) (intervals later)) s ∙ ap upper_bound_at l
  last_upper_even u (x ∷ y ∷ set) (v ∷ w ∷ front) last e h =
      last_upper_even (upper_bound_at y) set front last (cc) (sym (not_not (is_held_beyond set)) ∙ h)

  -- after an odd number it begins one without end
  pub last_upper_odd : (u : Bound T) (set : List (Point T)) → is_held_beyond set ≡ true →
      last_upper u (intervals set) ≡ Unbounded
  last_upper_odd u [] h = absurd (cc)
  last_upper_odd u (x ∷ []) h = refl
  last_upper_odd u (x ∷ y ∷ set) h =
      last_upper_odd (upper_bound_at y) set (sym (not_not (is_held_beyond set)) ∙ h)

  -- the number of turns tells membership beyond all of them
  pub beyond_odd : (set : List (Point T)) → is_held_beyond set ≡ (length set % 2 == 1)
  beyond_odd [] = refl
  beyond_odd (x ∷ set) = ap not (beyond_odd set) ∙ sym (odd_suc (length set))

  -- how many intervals there are
  pub length-intervals : (set : List (Point T)) → length (intervals set) ≡ length set / 2 + length set % 2
  length-intervals [] = refl
  length-intervals (x ∷ []) = refl
  length-intervals (x ∷ y ∷ set) = omega (arith, length-intervals set)

  beyond_map : (boundaries : List (Boundary T)) →
      is_held_beyond (map point_of boundaries) ≡ (length boundaries % 2 == 1)
  beyond_map boundaries =
      beyond_odd (map point_of boundaries) ∙ ap (λ n. n % 2 == 1) (length-map boundaries point_of)

  beyond_flips : (starts : Bool) (boundaries : List (Boundary T)) →
      is_held_beyond (turns_of starts boundaries) ≡ flips starts (length boundaries % 2 == 1)
  beyond_flips true boundaries = ap not (beyond_map boundaries)
  beyond_flips false boundaries = beyond_map boundaries

  beyond_turns : (starts : Bool) (boundaries : List (Boundary T)) →
      is_held_beyond (turns_of starts boundaries) ≡ not (beq starts (length boundaries % 2 == 1))
  beyond_turns starts boundaries =
      beyond_flips starts boundaries ∙ flips_comm starts (length boundaries % 2 == 1)
      ∙ sym (differs starts (length boundaries % 2 == 1))

  pub last_open : (starts : Bool) (boundaries : List (Boundary T)) →
      not (beq starts (length boundaries % 2 == 1)) ≡ true →
      Unbounded ≡ last_upper Unbounded (intervals (turns_of starts boundaries))
  last_open starts boundaries h =
      sym (last_upper_odd Unbounded (turns_of starts boundaries) (beyond_turns starts boundaries ∙ h))

  last_turn : (starts : Bool) (boundaries front : List (Boundary T)) (last : Boundary T) →
      boundaries ≡ front ++ last ∷ [] →
      turns_of starts boundaries ≡ turns_of starts front ++ point_of last ∷ []
  last_turn true boundaries front last e =
      ap (turns_of true) e ∙ ap (λ ps. BelowAll ∷ ps) (map-append point_of front (last ∷ []))
  last_turn false boundaries front last e = ap (map point_of) e ∙ map-append point_of front (last ∷ [])

  pub last_closed : (starts : Bool) (boundaries front : List (Boundary T)) (last : Boundary T) →
      boundaries ≡ front ++ last ∷ [] → not (beq starts (length boundaries % 2 == 1)) ≡ false →
      upper_bound_at (point_of last) ≡ last_upper Unbounded (intervals (turns_of starts boundaries))
  last_closed starts boundaries front last e h =
      sym (last_upper_even Unbounded (turns_of starts boundaries) (turns_of starts front) (point_of last)
      (last_turn starts boundaries front last e) (beyond_turns starts boundaries ∙ h))

  count_turns : (starts : Bool) (boundaries : List (Boundary T)) →
      length (intervals (turns_of starts boundaries)) ≡ length boundaries / 2 + cond starts 1
      (length boundaries % 2)
  count_turns true boundaries =
      omega (arith, length-intervals (turns_of true boundaries), length-map boundaries point_of)
  count_turns false boundaries =
      length-intervals (map point_of boundaries) ∙ ap (λ n. n / 2 + n % 2) (length-map boundaries point_of)

  pub count_is : (starts : Bool) (boundaries : List (Boundary T)) (left : List (Bound T × Bound T)) (n : ℕ) →
      intervals (turns_of starts boundaries) ≡ left →
      n ≡ length boundaries / 2 + cond starts 1 (length boundaries % 2) →
      n ≡ length left
  count_is starts boundaries left n e h = h ∙ sym (count_turns starts boundaries) ∙ ap length e

module _ {T : Type 0} (cmp : T → T → Ordering) (o : IsTotalOrder cmp) where
  points : IsTotalOrder (point_cmp cmp)
  points = points_total cmp o

  -- a point is held exactly where an interval holds it
  pub starts_at : (lower p : Point T) →
      starts_by cmp (lower_bound_at lower) p ≡ reaches (point_cmp cmp) lower p
  starts_at BelowAll BelowAll = refl
  starts_at BelowAll (At v) = refl
  starts_at BelowAll (JustAbove v) = refl
  starts_at (At v) p = refl
  starts_at (JustAbove v) p = refl

  turned : (r : Ordering) → is_lt (ordering_reverse r) ≡ not (not (is_gt r))
  turned Less = refl
  turned Equal = refl
  turned Greater = refl

  turned_then : (r : Ordering) →
      not (is_gt (ordering_reverse r)) ≡ not (not (is_gt (ordering_then r Greater)))
  turned_then Less = refl
  turned_then Equal = refl
  turned_then Greater = refl

  then_turned : (r : Ordering) →
      not (is_gt (ordering_then (ordering_reverse r) Greater)) ≡ not (not (is_gt r))
  then_turned Less = refl
  then_turned Equal = refl
  then_turned Greater = refl

  goes_up_to : (w : T) (p : Point T) →
      goes_on_to cmp (Included w) p ≡ not (reaches (point_cmp cmp) (JustAbove w) p)
  goes_up_to w BelowAll = refl
  goes_up_to w (At v) = ap (λ r. not (is_gt r)) (o.antisymm v w) ∙ turned_then (cmp w v)
  goes_up_to w (JustAbove v) =
      ap (λ r. not (is_gt (ordering_then r Greater))) (o.antisymm v w) ∙ then_turned (cmp w v)

  pub goes_to : (upper p : Point T) → LiesAtValue upper →
      goes_on_to cmp (upper_bound_at upper) p ≡ not (reaches (point_cmp cmp) upper p)
  goes_to BelowAll p h = absurd h
  goes_to (At w) p h = ap is_lt (points.antisymm p (At w)) ∙ turned (point_cmp cmp (At w) p)
  goes_to (JustAbove w) p h = goes_up_to w p

  pub above_another : (p q : Point T) → point_cmp cmp p q ≡ Less → LiesAtValue q
  above_another BelowAll BelowAll h = absurd (cc)
  above_another (At v) BelowAll h = absurd (cc)
  above_another (JustAbove v) BelowAll h = absurd (cc)
  above_another p (At w) h = tt
  above_another p (JustAbove w) h = tt

  two_turns : (a b h : Bool) → (b ≡ true → a ≡ true) → (b ≡ false → h ≡ false) →
      flips a (flips b h) ≡ ((a && not b) || h)
  two_turns true true true f g = refl
  two_turns true true false f g = refl
  two_turns true false true f g = sym (g refl)
  two_turns true false false f g = refl
  two_turns false true h f g = let l : false ≡ true = f refl in absurd (cc)
  two_turns false false h f g = refl

  pub not_true : (b : Bool) → not b ≡ true → b ≡ false
  not_true true h = sym h
  not_true false h = refl

  pub is_greater : (r : Ordering) → not (is_gt r) ≡ false → r ≡ Greater
  is_greater Less h = absurd (cc)
  is_greater Equal h = absurd (cc)
  is_greater Greater h = refl

  with_true : (b : Bool) → (b && true) || false ≡ b
  with_true true = refl
  with_true false = refl

  pub held_in_intervals : (set : List (Point T)) (p : Point T) → Rising (point_cmp cmp) set →
      list_any (λ i. is_within cmp i p) (intervals set) ≡ is_held (point_cmp cmp) set p
  held_in_intervals [] p r = refl
  held_in_intervals (lower ∷ []) p r =
      with_true (starts_by cmp (lower_bound_at lower) p) ∙ starts_at lower p
      ∙ sym (flips_false (reaches (point_cmp cmp) lower p))
  held_in_intervals (lower ∷ upper ∷ later) p r =
      (λ i. (starts_at lower p i && goes_to upper p (above_another lower upper r.0.0) i) || held_in_intervals
      later p r.1.1 i)
      ∙ sym (two_turns (reaches (point_cmp cmp) lower p) (reaches (point_cmp cmp) upper p)
      (is_held (point_cmp cmp) later p)
      (λ b. past_less (point_cmp cmp) points lower upper p (point_cmp cmp upper p) refl r.0.0
      (not_true (is_gt (point_cmp cmp upper p)) b))
      (λ b. held_before (point_cmp cmp) p later
      (all_weaker (λ y. point_cmp cmp upper y ≡ Less) (λ y. reaches (point_cmp cmp) y p ≡ false)
      (λ y h. before_less (point_cmp cmp) points y upper p (is_greater (point_cmp cmp upper p) b) h) later
      r.1.0)))

  -- the empty set
  pub nothing_held : (set : List (Point T)) → Rising (point_cmp cmp) set →
      ((p : Point T) → holds_at cmp set p ≡ false) → set ≡ []
  nothing_held [] r h = refl
  nothing_held (x ∷ xs) r h = let l : true ≡ false = sym (held_at_head points x xs r) ∙ h x in absurd (cc)

  pub empty_turns : (starts : Bool) (boundaries : List (Boundary T)) (set : List (Point T)) (b : Bool) →
      turns_of starts boundaries ≡ set → IsNormal cmp set → b ≡ (not starts && (length boundaries == 0)) →
      (IsTrue b → (p : Point T) →
      holds_at cmp set p ≡ false) × (((p : Point T) → holds_at cmp set p ≡ false) → IsTrue b)
  empty_turns true boundaries set b e n f = (
    λ h p. let l : true ≡ false = sym h ∙ f in absurd (cc),
    λ h. let l : turns_of true boundaries ≡ [] = e ∙ nothing_held set n h in absurd (cc),
  )
  empty_turns false [] set b e n f = (λ h p. ap (λ turns. holds_at cmp turns p) (sym e), λ h. f)
  empty_turns false (x ∷ later) set b e n f = (
    λ h p. let l : length (x ∷ later) ≡ 0 =
        eqb-true (length (x ∷ later)) 0 (sym f ∙ h) in absurd (omega arith),
    λ h. let l : turns_of false (x ∷ later) ≡ [] = e ∙ nothing_held set n h in absurd (cc),
  )

  -- the set of one point
  between : (r : Ordering) → (not (is_gt (ordering_reverse r)) && not (is_gt r)) ≡ is_eq r
  between Less = refl
  between Equal = refl
  between Greater = refl

  within_one : (v w : T) → cmp w v ≡ Equal → (p : Point T) →
      is_within cmp (Included v, Included w) p ≡ is_eq (point_cmp cmp p (At v))
  within_one v w e p =
      (λ i. not (is_gt (points.antisymm (At v) p i)) && not (is_gt (alike_right points (At w) (At v) p e i)))
      ∙ between (point_cmp cmp p (At v))

  rising_one : (v w : T) → cmp v w ≡ Equal → Rising (point_cmp cmp) (At v ∷ JustAbove w ∷ [])
  rising_one v w e = ((ap (λ r. ordering_then r Less) e, tt), (tt, tt))

  or_nothing : (b : Bool) → b || false ≡ b
  or_nothing true = refl
  or_nothing false = refl

  holds_one : (v w : T) → cmp v w ≡ Equal → HoldsOnly cmp v (At v ∷ JustAbove w ∷ [])
  holds_one v w e p =
      sym (held_in_intervals (At v ∷ JustAbove w ∷ []) p (rising_one v w e))
      ∙ or_nothing (is_within cmp (Included v, Included w) p)
      ∙ within_one v w (tied_back o v w e) p

  at_value : (x : Point T) (v : T) → point_cmp cmp x (At v) ≡ Equal →
      (a : T) × (x ≡ At a) × (cmp a v ≡ Equal)
  at_value BelowAll v h = absurd (cc)
  at_value (At a) v h = (a, refl, h)
  at_value (JustAbove a) v h = let l : Greater ≡ Equal = (then_equal (cmp a v) Greater h).1 in absurd (cc)

  above_value : (x : Point T) (v : T) → point_cmp cmp x (JustAbove v) ≡ Equal →
      (a : T) × (x ≡ JustAbove a) × (cmp a v ≡ Equal)
  above_value BelowAll v h = absurd (cc)
  above_value (At a) v h = let l : Less ≡ Equal = (then_equal (cmp a v) Less h).1 in absurd (cc)
  above_value (JustAbove a) v h = (a, refl, h)

  two_held : (v : T) (set : List (Point T)) →
      slice_cmp (point_cmp cmp) set (At v ∷ JustAbove v ∷ []) ≡ Equal →
      (a : T) × (single_value cmp set ≡ Some a)
  two_held v [] h = absurd (cc)
  two_held v (x ∷ []) h = let l : Less ≡ Equal =
      (then_equal (point_cmp cmp x (At v)) Less h).1 in absurd (cc)
  two_held v (x ∷ y ∷ z ∷ more) h =
      let l : ordering_then (point_cmp cmp y (JustAbove v)) Greater ≡ Equal =
      (then_equal (point_cmp cmp x (At v)) (ordering_then (point_cmp cmp y (JustAbove v)) Greater) h).1
      in
      let k : Greater ≡ Equal = (then_equal (point_cmp cmp y (JustAbove v)) Greater l).1 in absurd (cc)
  two_held v (x ∷ y ∷ []) h =
      let both = then_equal (point_cmp cmp x (At v)) (ordering_then (point_cmp cmp y (JustAbove v)) Equal) h
      in
      let lower = at_value x v both.0 in
      let upper = above_value y v (then_equal (point_cmp cmp y (JustAbove v)) Equal both.1).0 in
      let e : cmp lower.0 upper.0 ≡ Equal = alike_right o upper.0 v lower.0 upper.2 ∙ lower.2 in (
        lower.0,
        (λ i. single_value cmp (lower.1 i ∷ upper.1 i ∷ []))
            ∙ ap (λ r. cond (is_eq r) (Some lower.0) None) e,
      )

  single_held : (v : T) (set : List (Point T)) → Rising (point_cmp cmp) set → HoldsOnly cmp v set →
      (a : T) × (single_value cmp set ≡ Some a)
  single_held v set r h =
      two_held v set
      (canonical points set (At v ∷ JustAbove v ∷ []) r (rising_one v v (tied_itself o v))
      (λ p. h p ∙ sym (holds_one v v (tied_itself o v) p)))

  one_by_test : (v a w : T) (b : Bool) → is_eq (cmp a w) ≡ b → Some v ≡ cond b (Some a) None →
      HoldsOnly cmp v (At a ∷ JustAbove w ∷ [])
  one_by_test v a w true t e =
      let same : a ≡ v = cc in
      subst (λ u. HoldsOnly cmp u (At a ∷ JustAbove w ∷ [])) same (holds_one a w ((Equal-is (cmp a w)).0 t))
  one_by_test v a w false t e = absurd (cc)

  single_holds : (v : T) (set : List (Point T)) → Some v ≡ single_value cmp set → HoldsOnly cmp v set
  single_holds v [] e = absurd (cc)
  single_holds v (BelowAll ∷ more) e = absurd (cc)
  single_holds v (JustAbove a ∷ more) e = absurd (cc)
  single_holds v (At a ∷ []) e = absurd (cc)
  single_holds v (At a ∷ BelowAll ∷ more) e = absurd (cc)
  single_holds v (At a ∷ At w ∷ more) e = absurd (cc)
  single_holds v (At a ∷ JustAbove w ∷ z ∷ more) e = absurd (cc)
  single_holds v (At a ∷ JustAbove w ∷ []) e = one_by_test v a w (is_eq (cmp a w)) refl e

  pub single_answer : (set : List (Point T)) → Rising (point_cmp cmp) set → (result : Option (Bor T)) →
      option_map (λ v. v.now) result ≡ single_value cmp set →
      MatchOption result ((v : T) → ¬ (HoldsOnly cmp v set)) (λ v. HoldsOnly cmp v.now set)
  single_answer set r None e = λ v h. let found = single_held v set r h in let l : None ≡ Some found.0 =
      e ∙ found.1 in absurd (cc)
  single_answer set r (Some v) e = single_holds v.now set e

  -- what lies between two bounds
  pub starts_by_reaches : (b : Bound T) (p : Point T) →
      starts_by cmp b p ≡ reaches (point_cmp cmp) (start_point b) p
  starts_by_reaches (Included v) p = refl
  starts_by_reaches (Excluded v) p = refl
  starts_by_reaches Unbounded BelowAll = refl
  starts_by_reaches Unbounded (At v) = refl
  starts_by_reaches Unbounded (JustAbove v) = refl

  goes_on_until : (b : Bound T) (end p : Point T) → end_points b ≡ end ∷ [] →
      goes_on_to cmp b p ≡ not (reaches (point_cmp cmp) end p)
  goes_on_until (Included v) end p e =
      let l : JustAbove v ≡ end = cc in
      goes_to (JustAbove v) p tt ∙ ap (λ q. not (reaches (point_cmp cmp) q p)) l
  goes_on_until (Excluded v) end p e =
      let l : At v ≡ end = cc in
      goes_to (At v) p tt ∙ ap (λ q. not (reaches (point_cmp cmp) q p)) l
  goes_on_until Unbounded end p e = absurd (cc)

  goes_on_always : (b : Bound T) (p : Point T) → end_points b ≡ [] → goes_on_to cmp b p ≡ true
  goes_on_always (Included v) p e = absurd (cc)
  goes_on_always (Excluded v) p e = absurd (cc)
  goes_on_always Unbounded p e = refl

  reached_by_all : (p : Point T) → reaches (point_cmp cmp) BelowAll p ≡ true
  reached_by_all BelowAll = refl
  reached_by_all (At v) = refl
  reached_by_all (JustAbove v) = refl

  pub within_all : (i : Bound T × Bound T) → start_point i.0 ≡ BelowAll → end_points i.1 ≡ [] →
      (p : Point T) → true ≡ is_within cmp i p
  within_all i e f p =
      sym (λ k. (starts_by_reaches i.0 p ∙ ap (λ s. reaches (point_cmp cmp) s p) e ∙ reached_by_all p)
      k && goes_on_always i.1 p f k)

  within_turns : (i : Bound T × Bound T) (start end p : Point T) → start_point i.0 ≡ start →
      end_points i.1 ≡ end ∷ [] →
      is_within cmp i p ≡ (reaches (point_cmp cmp) start p && not (reaches (point_cmp cmp) end p))
  within_turns i start end p e f =
      λ k. (starts_by_reaches i.0 p ∙ ap (λ s. reaches (point_cmp cmp) s p) e) k && goes_on_until i.1 end p f
      k

  is_less : (r : Ordering) → is_lt r ≡ true → r ≡ Less
  is_less Less h = refl
  is_less Equal h = absurd (cc)
  is_less Greater h = absurd (cc)

  pub within_between : (i : Bound T × Bound T) (start end : Point T) → start_point i.0 ≡ start →
      end_points i.1 ≡ end ∷ [] →
      is_lt (point_cmp cmp start end) ≡ true → (p : Point T) →
      holds_at cmp (start ∷ end ∷ []) p ≡ is_within cmp i p
  within_between i start end e f h p =
      two_turns (reaches (point_cmp cmp) start p) (reaches (point_cmp cmp) end p) false
      (λ b. past_less (point_cmp cmp) points start end p (point_cmp cmp end p) refl
      (is_less (point_cmp cmp start end) h)
      (not_true (is_gt (point_cmp cmp end p)) b))
      (λ b. refl)
      ∙ or_nothing (reaches (point_cmp cmp) start p && not (reaches (point_cmp cmp) end p))
      ∙ sym (within_turns i start end p e f)

  not_both : (a b : Bool) → (a ≡ true → b ≡ true) → false ≡ (a && not b)
  not_both false b f = refl
  not_both true true f = refl
  not_both true false f = f refl

  not_after : (r s : Ordering) → s ≡ ordering_reverse r → is_lt r ≡ false → is_gt s ≡ false
  not_after Less s e h = absurd (cc)
  not_after Equal s e h = ap is_gt e
  not_after Greater s e h = ap is_gt e

  pub within_none : (i : Bound T × Bound T) (start end : Point T) → start_point i.0 ≡ start →
      end_points i.1 ≡ end ∷ [] →
      is_lt (point_cmp cmp start end) ≡ false → (p : Point T) → false ≡ is_within cmp i p
  within_none i start end e f h p =
      not_both (reaches (point_cmp cmp) start p) (reaches (point_cmp cmp) end p)
      (λ b. ap not (upto points end start p
      (not_after (point_cmp cmp start end) (point_cmp cmp end start) (points.antisymm end start) h)
      (not_true (is_gt (point_cmp cmp start p)) b)))
      ∙ sym (within_turns i start end p e f)
