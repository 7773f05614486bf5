-- A condition that all terms of a diagram's clauses meet: that their numbers can be raised.
use Rattle.std.proofs.Common.{◌≡◌, ◌&&◌, ◌||◌, ℕ, ◌==◌, Bool, true, false, if◌then◌else◌, cond, List, [], ◌∷◌}
use Rattle.std.proofs.Common.{◌++◌, map, Option, Some, None, refl, sym, ap, subst, ◌∙◌}
use Rattle.std.specs.List.{AllByRecursion, flat_map, list_all, list_any}
use Rattle.std.specs.Option.{option_or, option_map, is_some}
use Rattle.std.specs.Cmp.{unsigned_Decides}
use Rattle.std.specs.Ordering.{eq_by_cmp}
use Rattle.std.specs.declared.ops.Bound.{Bound}
use Rattle.std.specs.declared.ops.Bound.TheVariants.{Included, Excluded, Unbounded}
use Rattle.version_ranges.specs.declared.boundary.Boundary.{Boundary}
use Rattle.version_ranges.specs.declared.boundary.Boundary.TheVariants as boundary
use Rattle.version_ranges.specs.Bounds.{intervals}
use Rattle.version_ranges.specs.Point.{Point, BelowAll, At, JustAbove}
use Rattle.version_ranges.proofs.Membership.{all_append}
use Rattle.pep440_text.specs.Record.{VersionRecord, release_record}
use Rattle.pep440_range.specs.Ranges.{release_range_by, all_but}
use Rattle.pep440_operator.specs.declared.operator.Operator.{Operator}
use Rattle.pep440_operator.specs.declared.operator.Operator.TheVariants as versions
use Rattle.pep508_marker.specs.declared.keys.MarkerValueString.{MarkerValueString}
use Rattle.pep508_marker.specs.Expression.{ExpressionRecord}
use Rattle.pep508_marker.specs.Keys.{text_key_rank}
use Rattle.pep508_diagram.specs.declared.branch.Branch.{Branch}
use Rattle.pep508_diagram.specs.declared.variable.VersionVariable.{VersionVariable}
use Rattle.pep508_diagram.specs.declared.variable.VersionVariable.TheVariants.{ImplementationVersion}
use Rattle.pep508_diagram.specs.declared.variable.VersionVariable.TheVariants.{PythonFullVersion}
use Rattle.pep508_diagram.specs.declared.variable.Flag.{Flag}
use Rattle.pep508_diagram.specs.declared.variable.Flag.TheVariants as flag
use Rattle.pep508_diagram.specs.Branches.{AllBranches}
use Rattle.pep508_diagram.specs.Diagram.{Diagram, Leaf, Test}
use Rattle.pep508_diagram.specs.Question.{Question, VersionBelow, TextBelow, IsSet, version_rank}
use Rattle.pep508_diagram.specs.Questions.{AllQuestions}
use Rattle.pep508_diagram.proofs.Places.{text_keys_same}
use Rattle.pep508_expression.specs.Expressions.{has_points}
use Rattle.pep508_marker_text_laws.specs.Clauses.{Part, Edges, NoEdges, Versions, Texts, Flagged, Walk}
use Rattle.pep508_marker_text_laws.specs.Clauses.{versions_from, texts_from, followed_by, same_part, group_clauses}
use Rattle.pep508_marker_text_laws.specs.Clauses.{grouped_clauses, walk_of, clauses_of}
use Rattle.pep508_marker_text_laws.specs.Groups.{firsts, standing, points_where}
use Rattle.pep508_marker_text_laws.specs.ReleaseBounds.{IsPlainRelease, AsksOfReleases, HasReleasesAlone}
use Rattle.pep508_marker_text_laws.specs.Saying.{Clause, Saying, left_out, star_out, exclusion, lower_terms}
use Rattle.pep508_marker_text_laws.specs.Saying.{upper_terms, single_or_bounds, interval_clause, one_or_intervals}
use Rattle.pep508_marker_text_laws.specs.Saying.{set_clauses}
use Rattle.pep508_marker_text_laws.specs.Simplified.{sifted, is_needless, shortened_behind, is_covered, simplified}
use Rattle.pep508_marker_text_laws.specs.Terms.{minor_between, version_term, version_saying, text_saying, set_term}
use Rattle.pep508_marker_text_laws.specs.Terms.{unset_term}
use Rattle.pep508_marker_text_laws.proofs.Said.{GoodPoint, GoodBound, GoodInterval, left_good, intervals_good}
use Rattle.pep508_marker_text_laws.proofs.Speaking.{star_found}
use Rattle.pep508_marker_text_laws.proofs.Where.{GoodBoundary, GoodBranches, where_good, standing_all, firsts_all}

-- each comparison with a value that is good meets a condition
pub record Fits {T : Type 0} (good : T → Type 0) (P : ExpressionRecord → Type 0) (say : Saying T) : Type 0 where
  pub equal_fits : (v : T) → good v → P (say.equal v)
  pub differs_fits : (v : T) → good v → P (say.differs v)
  pub at_least_fits : (v : T) → good v → P (say.at_least v)
  pub above_fits : (v : T) → good v → P (say.above v)
  pub at_most_fits : (v : T) → good v → P (say.at_most v)
  pub below_fits : (v : T) → good v → P (say.below v)
  pub star_fits : (v w : T) → good v → good w → (term : ExpressionRecord) → say.star v w ≡ Some term → P term
  pub no_star_fits : (v w : T) → good v → good w → (term : ExpressionRecord) → say.no_star v w ≡ Some term →
      P term

abbrev pub AllFit : (ExpressionRecord → Type 0) → List Clause → Type 0
AllFit P = AllByRecursion (AllByRecursion P)

-- ---- sets

module _ {T : Type 0} {good : T → Type 0} {P : ExpressionRecord → Type 0} {say : Saying T}
    (f : Fits good P say) where
  lower_fits : (bound : Bound T) → GoodBound good bound → AllByRecursion P (lower_terms say bound)
  lower_fits (Included v) h = (f.at_least_fits v h, tt)
  lower_fits (Excluded v) h = (f.above_fits v h, tt)
  lower_fits Unbounded h = tt

  upper_fits : (bound : Bound T) → GoodBound good bound → AllByRecursion P (upper_terms say bound)
  upper_fits (Included v) h = (f.at_most_fits v h, tt)
  upper_fits (Excluded v) h = (f.below_fits v h, tt)
  upper_fits Unbounded h = tt

  bounds_fit : (bounds : Bound T × Bound T) → GoodInterval good bounds →
      AllByRecursion P (single_or_bounds say None bounds.0 bounds.1)
  bounds_fit bounds h =
      all_append P (lower_terms say bounds.0) (upper_terms say bounds.1) (lower_fits bounds.0 h.0)
      (upper_fits bounds.1 h.1)

  value_fits : (v w : T) (b : Bool) → good v → good w →
      AllByRecursion P
      (single_or_bounds say (if b then Some (say.equal v) else None) (Included v) (Included w))
  value_fits v w true h k = (f.equal_fits v h, tt)
  value_fits v w false h k = bounds_fit (Included v, Included w) (h, k)

  one_fits : (v w : T) (term : Option ExpressionRecord) → good v → good w → say.star v w ≡ term →
      AllByRecursion P (single_or_bounds say term (Included v) (Excluded w))
  one_fits v w (Some term) h k same = (f.star_fits v w h k term same, tt)
  one_fits v w None h k same = bounds_fit (Included v, Excluded w) (h, k)

  interval_fits : (lower upper : Bound T) → GoodBound good lower → GoodBound good upper →
      AllByRecursion P (interval_clause say (lower, upper))
  interval_fits (Included v) (Included w) h k = value_fits v w (eq_by_cmp say.cmp v w) h k
  interval_fits (Included v) (Excluded w) h k = one_fits v w (say.star v w) h k refl
  interval_fits (Included v) Unbounded h k = bounds_fit (Included v, Unbounded) (h, k)
  interval_fits (Excluded v) upper h k = bounds_fit (Excluded v, upper) (h, k)
  interval_fits Unbounded upper h k = bounds_fit (Unbounded, upper) (h, k)

  intervals_fit : (bounds : List (Bound T × Bound T)) → AllByRecursion (GoodInterval good) bounds →
      AllFit P (map (interval_clause say) bounds)
  intervals_fit [] h = tt
  intervals_fit (bound ∷ bounds) h =
      (interval_fits bound.0 bound.1 h.0.0 h.0.1, intervals_fit bounds h.1)

  differ_fit : (vs : List T) → AllByRecursion good vs → AllByRecursion P (map say.differs vs)
  differ_fit [] h = tt
  differ_fit (v ∷ vs) h = (f.differs_fits v h.0, differ_fit vs h.1)

  star_out_fits : (v w : T) (clause : Clause) (term : Option ExpressionRecord) → good v → good w →
      say.no_star v w ≡ term → option_map (λ t. t ∷ []) term ≡ Some clause → AllByRecursion P clause
  star_out_fits v w clause None h k same e = absurd (cc)
  star_out_fits v w clause (Some term) h k same e =
      let is : term ∷ [] ≡ clause = cc in
      subst (AllByRecursion P) is (f.no_star_fits v w h k term same, tt)

  two_out_fit : (turns : List (Point T)) (clause : Clause) → AllByRecursion (GoodPoint good) turns →
      star_out say turns ≡ Some clause → AllByRecursion P clause
  two_out_fit (At v ∷ At w ∷ []) clause h e = star_out_fits v w clause (say.no_star v w) h.0 h.1.0 refl e
  two_out_fit [] clause h e = absurd (cc)
  two_out_fit (BelowAll ∷ later) clause h e = absurd (cc)
  two_out_fit (JustAbove v ∷ later) clause h e = absurd (cc)
  two_out_fit (At v ∷ []) clause h e = absurd (cc)
  two_out_fit (At v ∷ BelowAll ∷ later) clause h e = absurd (cc)
  two_out_fit (At v ∷ JustAbove w ∷ later) clause h e = absurd (cc)
  two_out_fit (At v ∷ At w ∷ u ∷ later) clause h e = absurd (cc)

  out_fit : (turns : List (Point T)) (clause : Clause) (out : Option (List T)) →
      AllByRecursion (GoodPoint good) turns → left_out say.cmp turns ≡ out →
      option_or (option_map (map say.differs) out) (star_out say turns) ≡ Some clause → AllByRecursion P clause
  out_fit turns clause None h same e = two_out_fit turns clause h e
  out_fit turns clause (Some vs) h same e =
      let is : map say.differs vs ≡ clause = cc in
      subst (AllByRecursion P) is (differ_fit vs (left_good say.cmp good turns vs h same))

  exclusion_fits : (turns : List (Point T)) (clause : Clause) → AllByRecursion (GoodPoint good) turns →
      exclusion say turns ≡ Some clause → AllByRecursion P clause
  exclusion_fits [] clause h e = absurd (cc)
  exclusion_fits (BelowAll ∷ turns) clause h e = out_fit turns clause (left_out say.cmp turns) h.1 refl e
  exclusion_fits (At v ∷ turns) clause h e = absurd (cc)
  exclusion_fits (JustAbove v ∷ turns) clause h e = absurd (cc)

  one_or_fit : (turns : List (Point T)) (out : Option Clause) → AllByRecursion (GoodPoint good) turns →
      exclusion say turns ≡ out → AllFit P (one_or_intervals say turns out)
  one_or_fit turns (Some clause) h same = (exclusion_fits turns clause h same, tt)
  one_or_fit turns None h same = intervals_fit (intervals turns) (intervals_good good turns h)

  set_fits : (turns : List (Point T)) → AllByRecursion (GoodPoint good) turns → AllFit P (set_clauses say turns)
  set_fits turns h = one_or_fit turns (exclusion say turns) h refl

-- ---- groups

module _ (P : ExpressionRecord → Type 0) where
  abbrev PartFits : Part → Type 0
  PartFits part = AllFit P part.clauses

  behind_fits : (one : Clause) (others : List Clause) → AllByRecursion P one → AllFit P others →
      AllFit P (map (λ other. one ++ other) others)
  behind_fits one [] h k = tt
  behind_fits one (other ∷ others) h k = (all_append P one other h k.0, behind_fits one others h k.1)

  followed_fits : (others ones : List Clause) → AllFit P others → AllFit P ones →
      AllFit P (followed_by others ones)
  followed_fits others [] h k = tt
  followed_fits others (one ∷ ones) h k =
      all_append (AllByRecursion P) (map (λ other. one ++ other) others) (followed_by others ones)
      (behind_fits one others k.0 h) (followed_fits others ones h k.1)

  headed_fits : (term : ExpressionRecord) (clauses : List Clause) → P term → AllFit P clauses →
      AllFit P (map (λ clause. term ∷ clause) clauses)
  headed_fits term [] h k = tt
  headed_fits term (clause ∷ clauses) h k = ((h, k.0), headed_fits term clauses h k.1)

  module _ {T : Type 0} {good : T → Type 0} {say : Saying T} (f : Fits good P say) (first : Part)
      (later : List (Branch T Part)) (are_good : GoodBranches good later) where
    groups_fit : (parts : List Part) → AllByRecursion PartFits parts →
        AllFit P (flat_map (group_clauses say first later) parts)
    groups_fit [] h = tt
    groups_fit (part ∷ parts) h =
        all_append (AllByRecursion P) (group_clauses say first later part)
        (flat_map (group_clauses say first later) parts)
        (followed_fits part.clauses (set_clauses say (points_where (same_part part) first later)) h.0
        (set_fits f (points_where (same_part part) first later)
        (where_good good (same_part part) first later are_good)))
        (groups_fit parts h.1)

    grouped_fit : AllBranches PartFits first later → AllFit P (grouped_clauses say first later)
    grouped_fit h =
        groups_fit (firsts same_part (standing first later))
        (firsts_all PartFits same_part (standing first later) (standing_all PartFits first later h))

-- ---- simplified clauses

module _ {A : Type 0} (P : A → Type 0) (drops : A → List A → Bool) where
  sifted_all : (kept xs : List A) → AllByRecursion P kept → AllByRecursion P xs →
      AllByRecursion P (sifted drops kept xs)
  sifted_all kept [] h k = h
  sifted_all kept (x ∷ later) h k =
      sifted_one (drops x (kept ++ later)) (sifted_all kept later h k.1)
      (sifted_all (kept ++ (x ∷ [])) later (all_append P kept (x ∷ []) h (k.0, tt)) k.1)
    where
      sifted_one : (b : Bool) → AllByRecursion P (sifted drops kept later) →
          AllByRecursion P (sifted drops (kept ++ (x ∷ [])) later) →
          AllByRecursion P (cond b (sifted drops kept later) (sifted drops (kept ++ (x ∷ [])) later))
      sifted_one true without with = without
      sifted_one false without with = with

module _ (P : ExpressionRecord → Type 0) (same opposite : ExpressionRecord → ExpressionRecord → Bool) where
  shortened_fit : (done clauses : List Clause) → AllFit P done → AllFit P clauses →
      AllFit P (shortened_behind same opposite done clauses)
  shortened_fit done [] h k = h
  shortened_fit done (clause ∷ later) h k =
      let drops = is_needless same opposite (done ++ later) in
      shortened_fit (done ++ (sifted drops [] clause ∷ [])) later
      (all_append (AllByRecursion P) done (sifted drops [] clause ∷ []) h
      (sifted_all P drops [] clause tt k.0, tt)) k.1

  -- no term comes up that did not stand in a clause before
  pub simplified_fit : (clauses : List Clause) → AllFit P clauses → AllFit P (simplified same opposite clauses)
  simplified_fit clauses h =
      sifted_all (AllByRecursion P) (is_covered same opposite) [] (shortened_behind same opposite [] clauses) tt
      (shortened_fit [] clauses tt h)

module _ (holds other : ExpressionRecord → Bool) where
  clause_alike : (clause : Clause) → AllByRecursion (λ term. holds term ≡ other term) clause →
      list_all holds clause ≡ list_all other clause
  clause_alike [] h = refl
  clause_alike (term ∷ clause) h = (λ i. h.0 i && clause_alike clause h.1 i)

  -- truths that agree on all terms
  pub clauses_alike : (clauses : List Clause) → AllFit (λ term. holds term ≡ other term) clauses →
      list_any (list_all holds) clauses ≡ list_any (list_all other) clauses
  clauses_alike [] h = refl
  clauses_alike (clause ∷ clauses) h = (λ i. clause_alike clause h.0 i || clauses_alike clauses h.1 i)

-- ---- diagrams

-- the values in a question are good
abbrev pub GoodQuestion : (VersionRecord → Type 0) → (MarkerValueString → List ℕ → Type 0) → (Flag → Type 0)
    → Question → Type 0
GoodQuestion versions texts flags (VersionBelow key b) = GoodBoundary versions b
GoodQuestion versions texts flags (TextBelow key b) = GoodBoundary (texts key) b
GoodQuestion versions texts flags (IsSet flag) = flags flag

-- the terms that are made of good values meet a condition
pub record AllSayingsFit (versions : VersionRecord → Type 0) (texts : MarkerValueString → List ℕ → Type 0)
    (flags : Flag → Type 0) (P : ExpressionRecord → Type 0) : Type 0 where
  pub versions_fit : (key : VersionVariable) → Fits versions P (version_saying key)
  pub texts_fit : (key : MarkerValueString) → Fits (texts key) P (text_saying key)
  pub set_fits : (flag : Flag) → flags flag → P (set_term flag)
  pub unset_fits : (flag : Flag) → flags flag → P (unset_term flag)

module _ {versions : VersionRecord → Type 0} {texts : MarkerValueString → List ℕ → Type 0}
    {flags : Flag → Type 0} {P : ExpressionRecord → Type 0} (f : AllSayingsFit versions texts flags P) where
  abbrev Fit : Part → Type 0
  Fit = PartFits P

  abbrev EdgesFit : {T : Type 0} → (T → Type 0) → Part → List (Branch T Part) → Type 0
  EdgesFit good first later = GoodBranches good later × AllBranches Fit first later

  abbrev AllEdgesFit : Edges → Type 0
  AllEdgesFit NoEdges = Unit {0}
  AllEdgesFit (Versions key first later) = EdgesFit versions first later
  AllEdgesFit (Texts key first later) = EdgesFit (texts key) first later
  AllEdgesFit (Flagged flag set unset) = Unit {0}

  either_fits : {T : Type 0} (good : T → Type 0) (low : Part) (b : Boundary T) (from part : Part)
      (later : List (Branch T Part)) (same : Bool) → GoodBoundary good b → Fit low → Fit part →
      (same ≡ true → EdgesFit good from later) →
      EdgesFit good low (cond same (record { boundary = b; child = from } ∷ later)
      (record { boundary = b; child = part } ∷ []))
  either_fits good low b from part later true fits h k edges =
      ((fits, (edges refl).0), (h, (edges refl).1))
  either_fits good low b from part later false fits h k edges = ((fits, tt), (h, k))

  versions_edges : (key : VersionVariable) (b : Boundary VersionRecord) (low : Part) (walk : Walk)
      (edges : Edges) → GoodBoundary versions b → Fit low → Fit walk.part → AllEdgesFit edges →
      EdgesFit versions low (versions_from key b walk edges)
  versions_edges key b low walk (Versions other first later) fits h k e =
      either_fits versions low b first walk.part later (version_rank key == version_rank other) fits h k
      (λ same. e)
  versions_edges key b low walk NoEdges fits h k e = ((fits, tt), (h, k))
  versions_edges key b low walk (Texts other first later) fits h k e = ((fits, tt), (h, k))
  versions_edges key b low walk (Flagged flag set unset) fits h k e = ((fits, tt), (h, k))

  texts_edges : (key : MarkerValueString) (b : Boundary (List ℕ)) (low : Part) (walk : Walk)
      (edges : Edges) → GoodBoundary (texts key) b → Fit low → Fit walk.part → AllEdgesFit edges →
      EdgesFit (texts key) low (texts_from key b walk edges)
  texts_edges key b low walk (Texts other first later) fits h k e =
      either_fits (texts key) low b first walk.part later (text_key_rank key == text_key_rank other) fits h k
      (λ same. subst (λ found. EdgesFit (texts found) first later)
      (sym (text_keys_same key other ((unsigned_Decides (text_key_rank key) (text_key_rank other)).0 same))) e)
  texts_edges key b low walk NoEdges fits h k e = ((fits, tt), (h, k))
  texts_edges key b low walk (Versions other first later) fits h k e = ((fits, tt), (h, k))
  texts_edges key b low walk (Flagged flag set unset) fits h k e = ((fits, tt), (h, k))

  -- all terms in a walk meet the condition
  pub walk_meets : (d : Diagram Question) → AllQuestions (GoodQuestion versions texts flags) d →
      Fit (walk_of d).part × AllEdgesFit (walk_of d).edges
  walk_meets (Leaf true) r = ((tt, tt), tt)
  walk_meets (Leaf false) r = (tt, tt)
  walk_meets (Test (VersionBelow key b) low high) r =
      let l = walk_meets low r.1 in
      let h = walk_meets high r.2 in
      let e = versions_edges key b (walk_of low).part (walk_of high) (walk_of high).edges r.0 l.0 h.0 h.1 in (
        grouped_fit P (f.versions_fit key) (walk_of low).part
            (versions_from key b (walk_of high) (walk_of high).edges) e.0 e.1,
        e,
      )
  walk_meets (Test (TextBelow key b) low high) r =
      let l = walk_meets low r.1 in
      let h = walk_meets high r.2 in
      let e = texts_edges key b (walk_of low).part (walk_of high) (walk_of high).edges r.0 l.0 h.0 h.1 in (
        grouped_fit P (f.texts_fit key) (walk_of low).part
            (texts_from key b (walk_of high) (walk_of high).edges) e.0 e.1,
        e,
      )
  walk_meets (Test (IsSet flag) low high) r =
      let l = walk_meets low r.1 in
      let h = walk_meets high r.2 in (
        all_append (AllByRecursion P)
            (map (λ clause. set_term flag ∷ clause) (walk_of low).part.clauses)
            (map (λ clause. unset_term flag ∷ clause) (walk_of high).part.clauses)
            (headed_fits P (set_term flag) (walk_of low).part.clauses (f.set_fits flag r.0) l.0)
            (headed_fits P (unset_term flag) (walk_of high).part.clauses (f.unset_fits flag r.0) h.0),
        tt,
      )

-- ---- numbers that can be raised

-- the numbers of a comparison can be raised
abbrev pub HasPoints : ExpressionRecord → Type 0
HasPoints term = has_points term ≡ true

said_points : (key : VersionVariable) (operator : Operator) (version : VersionRecord) →
    has_points (version_term key operator version) ≡ is_some (release_range_by operator version.release)
unfolding has_points
said_points ImplementationVersion operator version = refl
said_points PythonFullVersion operator version = refl

star_points : (key : VersionVariable) (lower upper : VersionRecord) (term : ExpressionRecord)
    (numbers : Option (List ℕ)) → IsPlainRelease upper → minor_between lower upper ≡ numbers →
    option_map (λ ns. version_term key versions.EqualStar (release_record ns)) numbers ≡ Some term →
    HasPoints term
star_points key lower upper term None fits same e = absurd (cc)
star_points key lower upper term (Some numbers) fits same e =
    let star = star_found lower upper numbers fits same in
    let is : version_term key versions.EqualStar (release_record numbers) ≡ term = cc in
    ap has_points (sym is) ∙ said_points key versions.EqualStar (release_record numbers)
    ∙ ap is_some star.range_is

no_star_points : (key : VersionVariable) (lower upper : VersionRecord) (term : ExpressionRecord)
    (numbers : Option (List ℕ)) → IsPlainRelease upper → minor_between lower upper ≡ numbers →
    option_map (λ ns. version_term key versions.NotEqualStar (release_record ns)) numbers ≡ Some term →
    HasPoints term
no_star_points key lower upper term None fits same e = absurd (cc)
no_star_points key lower upper term (Some numbers) fits same e =
    let star = star_found lower upper numbers fits same in
    let is : version_term key versions.NotEqualStar (release_record numbers) ≡ term = cc in
    ap has_points (sym is) ∙ said_points key versions.NotEqualStar (release_record numbers)
    ∙ ap (λ o. is_some (option_map all_but o)) star.range_is

versions_fit : (key : VersionVariable) → Fits IsPlainRelease HasPoints (version_saying key)
versions_fit key = record {
  equal_fits = λ w fits. said_points key versions.Equal w;
  differs_fits = λ w fits. said_points key versions.NotEqual w;
  at_least_fits = λ w fits. said_points key versions.GreaterThanEqual w;
  above_fits = λ w fits. said_points key versions.GreaterThan w;
  at_most_fits = λ w fits. said_points key versions.LessThanEqual w;
  below_fits = λ w fits. said_points key versions.LessThan w;
  star_fits = λ lower upper low fits term e. star_points key lower upper term (minor_between lower upper) fits refl
      e;
  no_star_fits = λ lower upper low fits term e. no_star_points key lower upper term (minor_between lower upper) fits
      refl e;
}

texts_fit : (key : MarkerValueString) → Fits (λ text. Unit {0}) HasPoints (text_saying key)
unfolding has_points
texts_fit key = record {
  equal_fits = λ text fits. refl;
  differs_fits = λ text fits. refl;
  at_least_fits = λ text fits. refl;
  above_fits = λ text fits. refl;
  at_most_fits = λ text fits. refl;
  below_fits = λ text fits. refl;
  star_fits = λ lower upper low fits term e. absurd (cc);
  no_star_fits = λ lower upper low fits term e. absurd (cc);
}

set_fits_too : (flag : Flag) → HasPoints (set_term flag)
unfolding has_points
set_fits_too (flag.In key text) = refl
set_fits_too (flag.Contains key text) = refl
set_fits_too (flag.Extra name) = refl
set_fits_too (flag.Arbitrary text) = refl

unset_fits : (flag : Flag) → HasPoints (unset_term flag)
unfolding has_points
unset_fits (flag.In key text) = refl
unset_fits (flag.Contains key text) = refl
unset_fits (flag.Extra name) = refl
unset_fits (flag.Arbitrary text) = refl

pub points_fit : AllSayingsFit IsPlainRelease (λ key text. Unit {0}) (λ flag. Unit {0}) HasPoints
points_fit = record {
  versions_fit = versions_fit;
  texts_fit = texts_fit;
  set_fits = λ flag good. set_fits_too flag;
  unset_fits = λ flag good. unset_fits flag;
}

abbrev AsksWell : Question → Type 0
AsksWell = GoodQuestion IsPlainRelease (λ key text. Unit {0}) (λ flag. Unit {0})

asks_well : (q : Question) → AsksOfReleases q → AsksWell q
asks_well (VersionBelow key (boundary.At version)) h = h
asks_well (VersionBelow key (boundary.JustAbove version)) h = h
asks_well (TextBelow key (boundary.At text)) h = tt
asks_well (TextBelow key (boundary.JustAbove text)) h = tt
asks_well (IsSet flag) h = tt

all_well : (d : Diagram Question) → HasReleasesAlone d → AllQuestions AsksWell d
all_well (Leaf b) r = tt
all_well (Test q low high) r = (asks_well q r.0, all_well low r.1, all_well high r.2)

-- the numbers of all comparisons in a walk can be raised
pub walk_fits : (d : Diagram Question) → HasReleasesAlone d → AllFit HasPoints (clauses_of d)
walk_fits d r = (walk_meets points_fit d (all_well d r)).0
