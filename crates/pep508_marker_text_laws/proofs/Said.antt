-- The clauses of a set of points hold where the set holds the point of the key's value.
use Rattle.std.proofs.Common.{◌≡◌, Bool, true, false, not, ◌&&◌, ◌||◌, if◌then◌else◌, List, [], ◌∷◌, map}
use Rattle.std.proofs.Common.{Option, Some, None, refl, sym, ap, subst, ◌∙◌}
use Rattle.std.specs.List.{list_all, list_any, AllByRecursion}
use Rattle.std.specs.Option.{option_or, option_map}
use Rattle.std.specs.Ordering.{eq_by_cmp, is_eq, is_gt, ordering_reverse}
use Rattle.std.specs.Cmp.{IsTotalOrder, tied_back, alike_right}
use Rattle.std.specs.declared.cmp.Ordering.{Ordering}
use Rattle.std.specs.declared.cmp.Ordering.TheVariants.{Less, Equal, Greater}
use Rattle.std.specs.declared.ops.Bound.{Bound}
use Rattle.std.specs.declared.ops.Bound.TheVariants.{Included, Excluded, Unbounded}
use Rattle.std.proofs.lemmas.List.Folds.{list_all-append}
use Rattle.version_ranges.specs.Bounds.{starts_by, goes_on_to, is_within, lower_bound_at, upper_bound_at}
use Rattle.version_ranges.specs.Bounds.{intervals}
use Rattle.version_ranges.specs.OrderLaws.{points_total}
use Rattle.version_ranges.specs.Point.{Point, BelowAll, At, JustAbove, point_cmp}
use Rattle.version_ranges.specs.Turns.{is_held, Rising}
use Rattle.version_ranges.proofs.Reading.{held_in_intervals}
use Rattle.pep508_marker.specs.Expression.{ExpressionRecord}
use Rattle.pep508_diagram.proofs.Places.{equal_from}
use Rattle.pep508_marker_text_laws.specs.Saying.{Clause, Saying, left_out, star_out, exclusion, lower_terms}
use Rattle.pep508_marker_text_laws.specs.Saying.{upper_terms, single_or_bounds, interval_clause, one_or_intervals}
use Rattle.pep508_marker_text_laws.specs.Saying.{set_clauses}
use Rattle.pep508_marker_text_laws.specs.Truth.{one_holds}

-- each comparison with a value that is good holds as its operator says of a point
pub record Says {T : Type 0} (good : T → Type 0) (truth : ExpressionRecord → Bool) (p : Point T)
    (say : Saying T) : Type 0 where
  pub total : IsTotalOrder say.cmp
  pub equal_is : (v : T) → good v → truth (say.equal v) ≡ is_eq (point_cmp say.cmp p (At v))
  pub differs_is : (v : T) → good v → truth (say.differs v) ≡ not (is_eq (point_cmp say.cmp p (At v)))
  pub at_least_is : (v : T) → good v → truth (say.at_least v) ≡ starts_by say.cmp (Included v) p
  pub above_is : (v : T) → good v → truth (say.above v) ≡ starts_by say.cmp (Excluded v) p
  pub at_most_is : (v : T) → good v → truth (say.at_most v) ≡ goes_on_to say.cmp (Included v) p
  pub below_is : (v : T) → good v → truth (say.below v) ≡ goes_on_to say.cmp (Excluded v) p
  pub star_is : (v w : T) → good v → good w → (term : ExpressionRecord) → say.star v w ≡ Some term →
      truth term ≡ is_within say.cmp (Included v, Excluded w) p
  pub no_star_is : (v w : T) → good v → good w → (term : ExpressionRecord) → say.no_star v w ≡ Some term →
      truth term ≡ not (is_within say.cmp (Included v, Excluded w) p)

abbrev pub GoodPoint : {T : Type 0} → (T → Type 0) → Point T → Type 0
GoodPoint good BelowAll = Unit {0}
GoodPoint good (At v) = good v
GoodPoint good (JustAbove v) = good v

abbrev pub GoodBound : {T : Type 0} → (T → Type 0) → Bound T → Type 0
GoodBound good (Included v) = good v
GoodBound good (Excluded v) = good v
GoodBound good Unbounded = Unit {0}

abbrev pub GoodInterval : {T : Type 0} → (T → Type 0) → Bound T × Bound T → Type 0
GoodInterval good bounds = GoodBound good bounds.0 × GoodBound good bounds.1

-- ---- truths

pub and_true : (b : Bool) → (b && true) ≡ b
and_true true = refl
and_true false = refl

pub or_false : (b : Bool) → (b || false) ≡ b
or_false true = refl
or_false false = refl

not_either : (a b : Bool) → (not a && not b) ≡ not (a || b)
not_either true b = refl
not_either false b = refl

between : (r : Ordering) → (not (is_gt (ordering_reverse r)) && not (is_gt r)) ≡ is_eq r
between Less = refl
between Equal = refl
between Greater = refl

module _ {T : Type 0} {cmp : T → T → Ordering} (o : IsTotalOrder cmp) (p : Point T) where
  -- from a value up to an equal one lies that value alone
  pub within_one : (v w : T) → eq_by_cmp cmp v w ≡ true →
      is_within cmp (Included v, Included w) p ≡ is_eq (point_cmp cmp p (At v))
  within_one v w e =
      let points : IsTotalOrder (point_cmp cmp) = points_total cmp o in
      let same : point_cmp cmp (At w) (At v) ≡ Equal = tied_back o v w (equal_from (cmp v w) e) in
      (λ i. not (is_gt (points.antisymm (At v) p i)) && not (is_gt (alike_right points (At w) (At v) p same i)))
      ∙ between (point_cmp cmp p (At v))

  from_below : (turns : List (Point T)) →
      is_held (point_cmp cmp) (BelowAll ∷ turns) p ≡ not (is_held (point_cmp cmp) turns p)
  from_below turns = elim p as (λ q. is_held (point_cmp cmp) (BelowAll ∷ turns) q
      ≡ not (is_held (point_cmp cmp) turns q)) [
        | BelowAll ↦ refl
        | At v ↦ refl
        | JustAbove v ↦ refl
      ]

  -- two turns hold what lies between them
  two_held : (lower upper : Point T) (later : List (Point T)) →
      Rising (point_cmp cmp) (lower ∷ upper ∷ later) →
      is_held (point_cmp cmp) (lower ∷ upper ∷ later) p
      ≡ (is_within cmp (lower_bound_at lower, upper_bound_at upper) p || is_held (point_cmp cmp) later p)
  two_held lower upper later rising =
      sym (held_in_intervals cmp o (lower ∷ upper ∷ later) p rising)
      ∙ ap (λ b. is_within cmp (lower_bound_at lower, upper_bound_at upper) p || b)
      (held_in_intervals cmp o later p rising.1.1)

  -- ---- values that are left out

  -- the point is at one of the values
  abbrev IsOneOf : List T → Bool
  IsOneOf = list_any (λ v. is_eq (point_cmp cmp p (At v)))

  left_pair : (v w : T) (later : List (Point T)) (vs : List T) (b : Bool) (rest : Option (List T)) →
      Rising (point_cmp cmp) (At v ∷ JustAbove w ∷ later) → eq_by_cmp cmp v w ≡ b →
      (if b then option_map (λ us. v ∷ us) rest else None) ≡ Some vs →
      ((us : List T) → rest ≡ Some us → is_held (point_cmp cmp) later p ≡ IsOneOf us) →
      is_held (point_cmp cmp) (At v ∷ JustAbove w ∷ later) p ≡ IsOneOf vs
  left_pair v w later vs false rest rising same e so = absurd (cc)
  left_pair v w later vs true None rising same e so = absurd (cc)
  left_pair v w later vs true (Some us) rising same e so =
      let is : v ∷ us ≡ vs = cc in
      two_held (At v) (JustAbove w) later rising
      ∙ (λ i. within_one v w same i || so us refl i) ∙ ap IsOneOf is

  pub left_held : (turns : List (Point T)) (vs : List T) → Rising (point_cmp cmp) turns →
      left_out cmp turns ≡ Some vs → is_held (point_cmp cmp) turns p ≡ IsOneOf vs
  left_held [] vs rising e = let is : [] ≡ vs = cc in ap IsOneOf is
  left_held (At v ∷ JustAbove w ∷ later) vs rising e =
      left_pair v w later vs (eq_by_cmp cmp v w) (left_out cmp later) rising refl e
      (λ us same. left_held later us rising.1.1 same)
  left_held (BelowAll ∷ later) vs rising e = absurd (cc)
  left_held (JustAbove v ∷ later) vs rising e = absurd (cc)
  left_held (At v ∷ []) vs rising e = absurd (cc)
  left_held (At v ∷ BelowAll ∷ later) vs rising e = absurd (cc)
  left_held (At v ∷ At w ∷ later) vs rising e = absurd (cc)

-- ---- what is left out is good

left_pair_good : {T : Type 0} (good : T → Type 0) (v : T) (vs : List T) (b : Bool) (rest : Option (List T)) →
    good v → (if b then option_map (λ us. v ∷ us) rest else None) ≡ Some vs →
    ((us : List T) → rest ≡ Some us → AllByRecursion good us) → AllByRecursion good vs
left_pair_good good v vs false rest h e so = absurd (cc)
left_pair_good good v vs true None h e so = absurd (cc)
left_pair_good good v vs true (Some us) h e so =
    let is : v ∷ us ≡ vs = cc in subst (AllByRecursion good) is (h, so us refl)

pub left_good : {T : Type 0} (cmp : T → T → Ordering) (good : T → Type 0) (turns : List (Point T))
    (vs : List T) → AllByRecursion (GoodPoint good) turns → left_out cmp turns ≡ Some vs → AllByRecursion good vs
left_good cmp good [] vs h e = let is : [] ≡ vs = cc in subst (AllByRecursion good) is tt
left_good cmp good (At v ∷ JustAbove w ∷ later) vs h e =
    left_pair_good good v vs (eq_by_cmp cmp v w) (left_out cmp later) h.0 e
    (λ us same. left_good cmp good later us h.1.1 same)
left_good cmp good (BelowAll ∷ later) vs h e = absurd (cc)
left_good cmp good (JustAbove v ∷ later) vs h e = absurd (cc)
left_good cmp good (At v ∷ []) vs h e = absurd (cc)
left_good cmp good (At v ∷ BelowAll ∷ later) vs h e = absurd (cc)
left_good cmp good (At v ∷ At w ∷ later) vs h e = absurd (cc)

lower_good : {T : Type 0} (good : T → Type 0) (turn : Point T) → GoodPoint good turn →
    GoodBound good (lower_bound_at turn)
lower_good good BelowAll h = tt
lower_good good (At v) h = h
lower_good good (JustAbove v) h = h

upper_good : {T : Type 0} (good : T → Type 0) (turn : Point T) → GoodPoint good turn →
    GoodBound good (upper_bound_at turn)
upper_good good BelowAll h = tt
upper_good good (At v) h = h
upper_good good (JustAbove v) h = h

pub intervals_good : {T : Type 0} (good : T → Type 0) (turns : List (Point T)) →
    AllByRecursion (GoodPoint good) turns → AllByRecursion (GoodInterval good) (intervals turns)
intervals_good good [] h = tt
intervals_good good (lower ∷ []) h = ((lower_good good lower h.0, tt), tt)
intervals_good good (lower ∷ upper ∷ later) h =
    ((lower_good good lower h.0, upper_good good upper h.1.0), intervals_good good later h.1.1)

-- ---- clauses

module _ {T : Type 0} {good : T → Type 0} {truth : ExpressionRecord → Bool} {p : Point T} {say : Saying T}
    (s : Says good truth p say) where
  lower_means : (bound : Bound T) → GoodBound good bound →
      list_all truth (lower_terms say bound) ≡ starts_by say.cmp bound p
  lower_means (Included v) h = and_true (truth (say.at_least v)) ∙ s.at_least_is v h
  lower_means (Excluded v) h = and_true (truth (say.above v)) ∙ s.above_is v h
  lower_means Unbounded h = refl

  upper_means : (bound : Bound T) → GoodBound good bound →
      list_all truth (upper_terms say bound) ≡ goes_on_to say.cmp bound p
  upper_means (Included v) h = and_true (truth (say.at_most v)) ∙ s.at_most_is v h
  upper_means (Excluded v) h = and_true (truth (say.below v)) ∙ s.below_is v h
  upper_means Unbounded h = refl

  bounds_mean : (bounds : Bound T × Bound T) → GoodInterval good bounds →
      list_all truth (single_or_bounds say None bounds.0 bounds.1) ≡ is_within say.cmp bounds p
  bounds_mean bounds h =
      list_all-append truth (lower_terms say bounds.0) (upper_terms say bounds.1)
      ∙ (λ i. lower_means bounds.0 h.0 i && upper_means bounds.1 h.1 i)

  value_means : (v w : T) (b : Bool) → good v → good w → eq_by_cmp say.cmp v w ≡ b →
      list_all truth (single_or_bounds say (if b then Some (say.equal v) else None) (Included v) (Included w))
      ≡ is_within say.cmp (Included v, Included w) p
  value_means v w true h k same =
      and_true (truth (say.equal v)) ∙ s.equal_is v h ∙ sym (within_one s.total p v w same)
  value_means v w false h k same = bounds_mean (Included v, Included w) (h, k)

  star_means : (v w : T) (term : Option ExpressionRecord) → good v → good w → say.star v w ≡ term →
      list_all truth (single_or_bounds say term (Included v) (Excluded w))
      ≡ is_within say.cmp (Included v, Excluded w) p
  star_means v w (Some term) h k same = and_true (truth term) ∙ s.star_is v w h k term same
  star_means v w None h k same = bounds_mean (Included v, Excluded w) (h, k)

  interval_means : (lower upper : Bound T) → GoodBound good lower → GoodBound good upper →
      list_all truth (interval_clause say (lower, upper)) ≡ is_within say.cmp (lower, upper) p
  interval_means (Included v) (Included w) h k = value_means v w (eq_by_cmp say.cmp v w) h k refl
  interval_means (Included v) (Excluded w) h k = star_means v w (say.star v w) h k refl
  interval_means (Included v) Unbounded h k = bounds_mean (Included v, Unbounded) (h, k)
  interval_means (Excluded v) upper h k = bounds_mean (Excluded v, upper) (h, k)
  interval_means Unbounded upper h k = bounds_mean (Unbounded, upper) (h, k)

  intervals_mean : (bounds : List (Bound T × Bound T)) → AllByRecursion (GoodInterval good) bounds →
      one_holds truth (map (interval_clause say) bounds) ≡ list_any (λ i. is_within say.cmp i p) bounds
  intervals_mean [] h = refl
  intervals_mean (bound ∷ bounds) h =
      (λ i. interval_means bound.0 bound.1 h.0.0 h.0.1 i || intervals_mean bounds h.1 i)

  differ_mean : (vs : List T) → AllByRecursion good vs →
      list_all truth (map say.differs vs) ≡ not (list_any (λ v. is_eq (point_cmp say.cmp p (At v))) vs)
  differ_mean [] h = refl
  differ_mean (v ∷ vs) h =
      (λ i. s.differs_is v h.0 i && differ_mean vs h.1 i)
      ∙ not_either (is_eq (point_cmp say.cmp p (At v)))
      (list_any (λ u. is_eq (point_cmp say.cmp p (At u))) vs)

  star_out_means : (v w : T) (clause : Clause) (term : Option ExpressionRecord) → good v → good w →
      Rising (point_cmp say.cmp) (At v ∷ At w ∷ []) → say.no_star v w ≡ term →
      option_map (λ t. t ∷ []) term ≡ Some clause →
      list_all truth clause ≡ not (is_held (point_cmp say.cmp) (At v ∷ At w ∷ []) p)
  star_out_means v w clause None h k rising same e = absurd (cc)
  star_out_means v w clause (Some term) h k rising same e =
      let is : term ∷ [] ≡ clause = cc in
      ap (list_all truth) (sym is) ∙ and_true (truth term) ∙ s.no_star_is v w h k term same
      ∙ ap not (sym (two_held s.total p (At v) (At w) [] rising
      ∙ or_false (is_within say.cmp (Included v, Excluded w) p)))

  two_out_mean : (turns : List (Point T)) (clause : Clause) → Rising (point_cmp say.cmp) turns →
      AllByRecursion (GoodPoint good) turns → star_out say turns ≡ Some clause →
      list_all truth clause ≡ not (is_held (point_cmp say.cmp) turns p)
  two_out_mean (At v ∷ At w ∷ []) clause rising h e =
      star_out_means v w clause (say.no_star v w) h.0 h.1.0 rising refl e
  two_out_mean [] clause rising h e = absurd (cc)
  two_out_mean (BelowAll ∷ later) clause rising h e = absurd (cc)
  two_out_mean (JustAbove v ∷ later) clause rising h e = absurd (cc)
  two_out_mean (At v ∷ []) clause rising h e = absurd (cc)
  two_out_mean (At v ∷ BelowAll ∷ later) clause rising h e = absurd (cc)
  two_out_mean (At v ∷ JustAbove w ∷ later) clause rising h e = absurd (cc)
  two_out_mean (At v ∷ At w ∷ u ∷ later) clause rising h e = absurd (cc)

  out_mean : (turns : List (Point T)) (clause : Clause) (out : Option (List T)) →
      Rising (point_cmp say.cmp) turns → AllByRecursion (GoodPoint good) turns → left_out say.cmp turns ≡ out →
      option_or (option_map (map say.differs) out) (star_out say turns) ≡ Some clause →
      list_all truth clause ≡ not (is_held (point_cmp say.cmp) turns p)
  out_mean turns clause None rising h same e = two_out_mean turns clause rising h e
  out_mean turns clause (Some vs) rising h same e =
      let is : map say.differs vs ≡ clause = cc in
      ap (list_all truth) (sym is) ∙ differ_mean vs (left_good say.cmp good turns vs h same)
      ∙ ap not (sym (left_held s.total p turns vs rising same))

  exclusion_means : (turns : List (Point T)) (clause : Clause) → Rising (point_cmp say.cmp) turns →
      AllByRecursion (GoodPoint good) turns → exclusion say turns ≡ Some clause →
      list_all truth clause ≡ is_held (point_cmp say.cmp) turns p
  exclusion_means [] clause rising h e = absurd (cc)
  exclusion_means (BelowAll ∷ turns) clause rising h e =
      out_mean turns clause (left_out say.cmp turns) rising.1 h.1 refl e ∙ sym (from_below s.total p turns)
  exclusion_means (At v ∷ turns) clause rising h e = absurd (cc)
  exclusion_means (JustAbove v ∷ turns) clause rising h e = absurd (cc)

  one_or_mean : (turns : List (Point T)) (out : Option Clause) → Rising (point_cmp say.cmp) turns →
      AllByRecursion (GoodPoint good) turns → exclusion say turns ≡ out →
      one_holds truth (one_or_intervals say turns out) ≡ is_held (point_cmp say.cmp) turns p
  one_or_mean turns (Some clause) rising h same =
      or_false (list_all truth clause) ∙ exclusion_means turns clause rising h same
  one_or_mean turns None rising h same =
      intervals_mean (intervals turns) (intervals_good good turns h)
      ∙ held_in_intervals say.cmp s.total turns p rising

  -- some clause of a set holds where the set holds the point
  pub set_means : (turns : List (Point T)) → Rising (point_cmp say.cmp) turns →
      AllByRecursion (GoodPoint good) turns →
      one_holds truth (set_clauses say turns) ≡ is_held (point_cmp say.cmp) turns p
  set_means turns rising h = one_or_mean turns (exclusion say turns) rising h refl
