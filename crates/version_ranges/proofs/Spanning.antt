-- From the first interval's lower bound to the last one's upper bound.
use Rattle.std.proofs.Common.{◌≡◌, Bool, true, false, not, ◌&&◌, List, [], ◌∷◌, refl, ap, sym, subst, ◌∙◌}
use Rattle.std.proofs.Common.{◌⊎◌, inl, inr}
use Rattle.std.specs.Prelude.{Some, MatchOption, IsTrue}
use Rattle.std.specs.List.{AllByRecursion}
use Rattle.std.specs.declared.cmp.Ordering.{Ordering}
use Rattle.std.specs.declared.cmp.Ordering.TheVariants.{Less, Equal, Greater}
use Rattle.std.specs.Ordering.{is_gt, ordering_reverse}
use Rattle.std.specs.Cmp.{IsTotalOrder, upto}
use Rattle.std.specs.declared.ops.Bound.{Bound}
use Rattle.version_ranges.specs.Point.{Point, point_cmp}
use Rattle.version_ranges.specs.OrderLaws.{points_total}
use Rattle.version_ranges.specs.Turns.{flips, reaches, is_held}
use Rattle.version_ranges.specs.Held.{IsNormal, IsBetweenHeld}
use Rattle.version_ranges.specs.Bounds.{starts_by, goes_on_to, is_within, lower_bound_at, upper_bound_at}
use Rattle.version_ranges.specs.Bounds.{intervals, last_upper, hull}
use Rattle.version_ranges.proofs.Membership.{held_before, all_weaker, before_less, past_less, held_at_head}
use Rattle.version_ranges.proofs.Reading.{starts_at, goes_to, above_another, not_true, is_greater}

module _ {T : Type 0} (cmp : T → T → Ordering) (o : IsTotalOrder cmp) where
  points : IsTotalOrder (point_cmp cmp)
  points = points_total cmp o

  -- a held point comes at p or behind it
  abbrev pub HeldFrom : List (Point T) → Point T → Type 0
  HeldFrom set p =
      (q : Point T) × (is_held (point_cmp cmp) set q ≡ true) × (reaches (point_cmp cmp) p q ≡ true)

  is_or_not : (b : Bool) → (b ≡ true) ⊎ (b ≡ false)
  is_or_not true = inl refl
  is_or_not false = inr refl

  both_and : (a b : Bool) → (a && b) ≡ true → (a ≡ true) × (b ≡ true)
  both_and true b h = (refl, h)
  both_and false b h = absurd (cc)

  not_greater : (r : Ordering) → not (is_gt r) ≡ true → is_gt r ≡ false
  not_greater r h = not_true cmp o (is_gt r) h

  chain : (p q r : Point T) → reaches (point_cmp cmp) p q ≡ true → reaches (point_cmp cmp) q r ≡ true →
      reaches (point_cmp cmp) p r ≡ true
  chain p q r h k =
      ap not (upto points p q r (not_greater (point_cmp cmp p q) h) (not_greater (point_cmp cmp q r) k))

  itself : (p : Point T) → reaches (point_cmp cmp) p p ≡ true
  itself p = by (point_cmp cmp p p) (points.antisymm p p)
    where
      by : (r : Ordering) → r ≡ ordering_reverse r → not (is_gt r) ≡ true
      by Less e = refl
      by Equal e = refl
      by Greater e = absurd (cc)

  behind : (x p : Point T) → reaches (point_cmp cmp) x p ≡ false → reaches (point_cmp cmp) p x ≡ true
  behind x p h =
      ap (λ r. not (is_gt r))
      (points.antisymm p x ∙ ap ordering_reverse (is_greater cmp o (point_cmp cmp x p) h))

  before : (x y : Point T) → point_cmp cmp x y ≡ Less → reaches (point_cmp cmp) x y ≡ true
  before x y h = ap (λ r. not (is_gt r)) h

  none_later : (y p : Point T) (later : List (Point T)) →
      AllByRecursion (λ z. point_cmp cmp y z ≡ Less) later → reaches (point_cmp cmp) y p ≡ false →
      is_held (point_cmp cmp) later p ≡ false
  none_later y p later a h =
      held_before (point_cmp cmp) p later
      (all_weaker (λ z. point_cmp cmp y z ≡ Less) (λ z. reaches (point_cmp cmp) z p ≡ false)
      (λ z k. before_less (point_cmp cmp) points z y p (is_greater cmp o (point_cmp cmp y p) h) k) later a)

  reached_first : (x y p : Point T) → point_cmp cmp x y ≡ Less → reaches (point_cmp cmp) y p ≡ true →
      reaches (point_cmp cmp) x p ≡ true
  reached_first x y p h k =
      past_less (point_cmp cmp) points x y p (point_cmp cmp y p) refl h (not_greater (point_cmp cmp y p) k)

  turned_twice : (a b h : Bool) → a ≡ true → b ≡ true → h ≡ true → flips a (flips b h) ≡ true
  turned_twice a b h d e f = λ i. flips (d i) (flips (e i) (f i))

  turned_once : (a b h : Bool) → a ≡ true → b ≡ false → h ≡ false → flips a (flips b h) ≡ true
  turned_once a b h d e f = λ i. flips (d i) (flips (e i) (f i))

  one_turn : (a : Bool) → a ≡ true → flips a false ≡ true
  one_turn a d = ap (λ b. flips b false) d

  -- from where the last interval still holds, a held point follows
  after_end : (set : List (Point T)) (u : Bound T) (p : Point T) → IsNormal cmp set →
      goes_on_to cmp (last_upper u (intervals set)) p ≡ true →
      (set ≡ []) × (goes_on_to cmp u p ≡ true) ⊎ HeldFrom set p
  after_end [] u p n h = inl (refl, h)
  after_end (x ∷ []) u p n h = elim (is_or_not (reaches (point_cmp cmp) x p)) [
    | inl t ↦ inr (p, one_turn (reaches (point_cmp cmp) x p) t, itself p)
    | inr f ↦ inr (x, held_at_head points x [] n, behind x p f)
  ]
  after_end (x ∷ y ∷ later) u p n h = elim (after_end later (upper_bound_at y) p n.1.1 h) [
    | inr found ↦ inr (found.0, within_later found.0 found.1, found.2)
    | inl last ↦ inr
        (here (not_true cmp o (reaches (point_cmp cmp) y p)
        (sym (goes_to cmp o y p (above_another cmp o x y n.0.0)) ∙ last.1)))
  ]
    where
      within_later : (q : Point T) → is_held (point_cmp cmp) later q ≡ true →
          is_held (point_cmp cmp) (x ∷ y ∷ later) q ≡ true
      within_later q k = elim (is_or_not (reaches (point_cmp cmp) y q)) [
        | inl t ↦ turned_twice (reaches (point_cmp cmp) x q) (reaches (point_cmp cmp) y q)
            (is_held (point_cmp cmp) later q) (reached_first x y q n.0.0 t) t k
        | inr f ↦ let l : true ≡ false = sym k ∙ none_later y q later n.1.0 f in absurd (cc)
      ]

      here : reaches (point_cmp cmp) y p ≡ false → HeldFrom (x ∷ y ∷ later) p
      here f = elim (is_or_not (reaches (point_cmp cmp) x p)) [
        | inl t ↦ (
          p,
          turned_once (reaches (point_cmp cmp) x p) (reaches (point_cmp cmp) y p)
              (is_held (point_cmp cmp) later p) t f (none_later y p later n.1.0 f),
          itself p,
        )
        | inr g ↦ (x, held_at_head points x (y ∷ later) n, behind x p g)
      ]

  -- the first turn of a list, which it holds
  first_turn : (y : Point T) (set : List (Point T)) → AllByRecursion (λ z. point_cmp cmp y z ≡ Less) set →
      IsNormal cmp set →
      (set ≡ []) ⊎ ((z : Point T) × (is_held (point_cmp cmp) set z ≡ true) × (point_cmp cmp y z ≡ Less))
  first_turn y [] a n = inl refl
  first_turn y (z ∷ more) a n = inr (z, held_at_head points z more n, a.0)

  unturned : (a b : Bool) → (b ≡ true → a ≡ true) → flips a (flips b false) ≡ true → b ≡ false
  unturned a false f h = refl
  unturned true true f h = absurd (cc)
  unturned false true f h = let l : false ≡ true = f refl in absurd (cc)

  -- up to a held point the last interval's upper bound goes on
  before_end : (set : List (Point T)) (u : Bound T) (p q : Point T) → IsNormal cmp set →
      is_held (point_cmp cmp) set q ≡ true → reaches (point_cmp cmp) p q ≡ true →
      goes_on_to cmp (last_upper u (intervals set)) p ≡ true
  before_end [] u p q n h r = absurd (cc)
  before_end (x ∷ []) u p q n h r = refl
  before_end (x ∷ y ∷ later) u p q n h r = elim (is_or_not (is_held (point_cmp cmp) later q)) [
    | inl t ↦ before_end later (upper_bound_at y) p q n.1.1 t r
    | inr f ↦
        let open_end : reaches (point_cmp cmp) y q ≡ false =
        unturned (reaches (point_cmp cmp) x q) (reaches (point_cmp cmp) y q) (reached_first x y q n.0.0)
        (sym (ap (λ b. flips (reaches (point_cmp cmp) x q) (flips (reaches (point_cmp cmp) y q) b)) f)
        ∙ h) in
        elim (first_turn y later n.1.0 n.1.1) [
          | inr z ↦ before_end later (upper_bound_at y) p z.0 n.1.1 z.1
              (chain p q z.0 r (chain q y z.0 (behind y q open_end) (before y z.0 z.2)))
          | inl e ↦ ap (λ l. goes_on_to cmp (last_upper (upper_bound_at y) (intervals l)) p) e
              ∙ goes_to cmp o y p (above_another cmp o x y n.0.0) ∙ ap not (not_reached open_end)
        ]
  ]
    where
      not_reached : reaches (point_cmp cmp) y q ≡ false → reaches (point_cmp cmp) y p ≡ false
      not_reached k = elim (is_or_not (reaches (point_cmp cmp) y p)) [
        | inr f ↦ f
        | inl t ↦ let l : true ≡ false = sym (chain y p q t r) ∙ k in absurd (cc)
      ]

  -- nothing is held before the first turn
  from_first : (x q : Point T) (later : List (Point T)) → IsNormal cmp (x ∷ later) →
      is_held (point_cmp cmp) (x ∷ later) q ≡ true → reaches (point_cmp cmp) x q ≡ true
  from_first x q later n h = elim (is_or_not (reaches (point_cmp cmp) x q)) [
    | inl t ↦ t
    | inr f ↦ let l : true ≡ false =
        sym h ∙ ap (λ b. flips b (is_held (point_cmp cmp) later q)) f ∙ none_later x q later n.0 f in
        absurd (cc)
  ]

  hull_of : (x : Point T) (later : List (Point T)) →
      hull (intervals (x ∷ later)) ≡ Some
      (lower_bound_at x, last_upper (lower_bound_at x) (intervals (x ∷ later)))
  hull_of x [] = refl
  hull_of x (y ∷ later) = refl

  spans : (x : Point T) (later : List (Point T)) (p : Point T) → IsNormal cmp (x ∷ later) →
      let b : Bound T × Bound T =
      (lower_bound_at x, last_upper (lower_bound_at x) (intervals (x ∷ later))) in
      (IsTrue (is_within cmp b p) → IsBetweenHeld cmp (x ∷ later) p) × (IsBetweenHeld cmp (x ∷ later) p →
      IsTrue (is_within cmp b p))
  spans x later p n =
      let u : Bound T = lower_bound_at x in (
        λ h.
            let both = both_and (starts_by cmp (lower_bound_at x) p)
            (goes_on_to cmp (last_upper u (intervals (x ∷ later))) p) h in (
              (x, held_at_head points x later n, sym (starts_at cmp o x p) ∙ both.0),
              from_end
                  (after_end (x ∷ later) u p n both.1),
            ),
        λ k. λ i. (starts_at cmp o x p ∙ chain x k.0.0 p (from_first x k.0.0 later n k.0.1) k.0.2)
            i && before_end (x ∷ later) u p k.1.0 n k.1.1 k.1.2 i,
      )
    where
      from_end : ((x ∷ later) ≡ []) × (goes_on_to cmp (lower_bound_at x) p ≡ true) ⊎ HeldFrom (x ∷ later) p →
          (q : Point T) × IsTrue (is_held (point_cmp cmp) (x ∷ later) q) × IsTrue
          (reaches (point_cmp cmp) p q)
      from_end (inl e) = let l : x ∷ later ≡ [] = e.0 in absurd (cc)
      from_end (inr found) = found

  pub hull_spans : (set : List (Point T)) → IsNormal cmp set →
      MatchOption (hull (intervals set)) (set ≡ [])
      (λ b. (p : Point T) →
      (IsTrue (is_within cmp b p) → IsBetweenHeld cmp set p) × (IsBetweenHeld cmp set p →
      IsTrue (is_within cmp b p)))
  hull_spans [] n = refl
  hull_spans (x ∷ later) n =
      subst (λ h. MatchOption h (x ∷ later ≡ [])
      (λ b. (p : Point T) →
      (IsTrue (is_within cmp b p) → IsBetweenHeld cmp (x ∷ later) p) × (IsBetweenHeld cmp (x ∷ later) p →
      IsTrue (is_within cmp b p)))) (sym (hull_of x later)) (λ p. spans x later p n)
