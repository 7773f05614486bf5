-- The clauses of a diagram mean the diagram, where its versions are releases.
use Rattle.std.proofs.Common.{◌≡◌, ℕ, ◌==◌, Bool, true, false, not, ◌&&◌, ◌||◌, cond, List, [], ◌∷◌, map, inl}
use Rattle.std.proofs.Common.{inr, refl, sym, ap, subst, ◌∙◌}
use Rattle.std.proofs.lemmas.Bool.{cases_Bool}
use Rattle.std.proofs.lemmas.List.Folds.{list_any-append}
use Rattle.std.specs.List.{list_all}
use Rattle.std.specs.Cmp.{IsTotalOrder, unsigned_Decides}
use Rattle.std.specs.Cmp.Lexicographic.{nat_list_cmp_total}
use Rattle.std.specs.declared.cmp.Ordering.{Ordering}
use Rattle.std.specs.declared.cmp.Ordering.TheVariants.{Less}
use Rattle.version_ranges.specs.declared.boundary.Boundary.{Boundary}
use Rattle.version_ranges.specs.declared.boundary.Boundary.TheVariants as boundary
use Rattle.version_ranges.specs.Boundaries.{point_of, boundary_cmp}
use Rattle.version_ranges.specs.Point.{Point, point_cmp}
use Rattle.version_ranges.specs.Turns.{reaches}
use Rattle.pep440_text.specs.Record.{VersionRecord}
use Rattle.pep440_version.specs.Order.{version_cmp}
use Rattle.pep440_version.specs.OrderLaws.{version_cmp_total}
use Rattle.pep508_marker.specs.declared.keys.MarkerValueString.{MarkerValueString}
use Rattle.pep508_marker.specs.Expression.{ExpressionRecord}
use Rattle.pep508_marker.specs.Keys.{text_key_rank}
use Rattle.pep508_diagram.specs.declared.branch.Branch.{Branch}
use Rattle.pep508_diagram.specs.declared.variable.VersionVariable.{VersionVariable}
use Rattle.pep508_diagram.specs.declared.variable.Flag.{Flag}
use Rattle.pep508_diagram.specs.Branches.{RisingBranches, branch_at, AllBranches}
use Rattle.pep508_diagram.specs.Diagram.{Diagram, Leaf, Test, RootAfter}
use Rattle.pep508_diagram.specs.Question.{Question, VersionBelow, TextBelow, IsSet, Valuation, version_rank}
use Rattle.pep508_diagram.specs.Question.{answer, marker, truth, IsCanonical}
use Rattle.pep508_diagram.specs.Text.{text_cmp}
use Rattle.pep508_diagram.proofs.Branching.{Before, before_earlier}
use Rattle.pep508_diagram.proofs.Chains.{versions_key, texts_key}
use Rattle.pep508_diagram.proofs.Keyed.{IsKey}
use Rattle.pep508_diagram.proofs.Places.{versions_same, text_keys_same}
use Rattle.pep508_marker_text_laws.specs.Clauses.{Part, Edges, NoEdges, Versions, Texts, Flagged, Walk}
use Rattle.pep508_marker_text_laws.specs.Clauses.{versions_from, texts_from, walk_of, clauses_of}
use Rattle.pep508_marker_text_laws.specs.ReleaseBounds.{IsPlainRelease, StandsAtRelease, HasReleasesAlone}
use Rattle.pep508_marker_text_laws.specs.Saying.{Clause}
use Rattle.pep508_marker_text_laws.specs.Terms.{version_saying, text_saying, set_term, unset_term}
use Rattle.pep508_marker_text_laws.specs.Truth.{one_holds}
use Rattle.pep508_marker_text_laws.proofs.Grouped.{IsSound, grouped_means}
use Rattle.pep508_marker_text_laws.proofs.Said.{Says}
use Rattle.pep508_marker_text_laws.proofs.Where.{GoodBoundary, GoodBranches}

-- a truth of terms that says of each key where its value lies, and of each flag whether it is set
pub record Speaks (v : Valuation) (holds : ExpressionRecord → Bool) : Type 0 where
  pub versions : (key : VersionVariable) → Says IsPlainRelease holds (v.version key) (version_saying key)
  pub texts : (key : MarkerValueString) → Says (λ text. Unit {0}) holds (v.text key) (text_saying key)
  pub set_is : (flag : Flag) → holds (set_term flag) ≡ v.flag flag
  pub unset_is : (flag : Flag) → holds (unset_term flag) ≡ not (v.flag flag)

pub walk_diagram : (d : Diagram Question) → (walk_of d).part.diagram ≡ d
walk_diagram (Leaf b) = refl
walk_diagram (Test q low high) = refl

-- ---- edges

-- the edges of a diagram's first variable, whose value lies at a point
pub record EdgesMean {T : Type 0} (cmp : T → T → Ordering) (ask : Boundary T → Question) (good : T → Type 0)
    (holds : ExpressionRecord → Bool) (v : Valuation) (p : Point T) (d : Diagram Question) (first : Part)
    (later : List (Branch T Part)) : Type 0 where
  pub rising : RisingBranches cmp later
  pub are_good : GoodBranches good later
  pub sound : AllBranches (IsSound holds v) first later
  pub stands : truth d v ≡ truth (branch_at cmp first later p).diagram v
  pub behind : (b : Boundary T) → RootAfter marker (ask b) d → Before cmp b later

module _ (holds : ExpressionRecord → Bool) (v : Valuation) where
  module _ {T : Type 0} {cmp : T → T → Ordering} (o : IsTotalOrder cmp) {ask : Boundary T → Question}
      {point : Valuation → Point T} (key : IsKey marker cmp ask point) (good : T → Type 0) where
    -- a question in front of edges from its boundary on
    test_means : (b : Boundary T) (low high : Diagram Question) (first from : Part)
        (later : List (Branch T Part)) →
        GoodBoundary good b → IsSound holds v first → first.diagram ≡ low →
        RisingBranches cmp later → Before cmp b later → GoodBranches good later →
        AllBranches (IsSound holds v) from later →
        truth high v ≡ truth (branch_at cmp from later (point v)).diagram v →
        EdgesMean cmp ask good holds v (point v) (Test (ask b) low high) first
        (record { boundary = b; child = from } ∷ later)
    test_means b low high first from later fits sound is rising before are_good rest stands = record {
      rising = (before, rising);
      are_good = (fits, are_good);
      sound = (sound, rest);
      stands = elim (cases_Bool (reaches (point_cmp cmp) (point_of b) (point v))) [
        | inl up ↦
            let over : answer v (ask b) ≡ false = key.answers v b ∙ ap not up in rw (over, up) stands
        | inr over ↦
            let below : answer v (ask b) ≡ true = key.answers v b ∙ ap not over in
            rw (below, over) (ap (λ d. truth d v) (sym is))
      ];
      behind = λ c after.
          let less : boundary_cmp cmp c b ≡ Less = sym (key.order c b) ∙ after in
          (less, before_earlier o c b later less before);
    }

    -- a question in front of what stands from its boundary on
    last_means : (b : Boundary T) (low high : Diagram Question) (first from : Part) → GoodBoundary good b →
        IsSound holds v first → first.diagram ≡ low → IsSound holds v from → from.diagram ≡ high →
        EdgesMean cmp ask good holds v (point v) (Test (ask b) low high) first
        (record { boundary = b; child = from } ∷ [])
    last_means b low high first from fits sound is other other_is =
        test_means b low high first from [] fits sound is tt tt tt other (ap (λ d. truth d v) (sym other_is))

    -- a question in front of the edges of its variable
    next_means : (b : Boundary T) (low high : Diagram Question) (first from : Part)
        (later : List (Branch T Part)) → GoodBoundary good b → IsSound holds v first → first.diagram ≡ low →
        EdgesMean cmp ask good holds v (point v) high from later → RootAfter marker (ask b) high →
        EdgesMean cmp ask good holds v (point v) (Test (ask b) low high) first
        (record { boundary = b; child = from } ∷ later)
    next_means b low high first from later fits sound is means after =
        test_means b low high first from later fits sound is means.rising (means.behind b after) means.are_good
        means.sound means.stands

  abbrev VersionsMean : VersionVariable → Diagram Question → Part → List (Branch VersionRecord Part) → Type 0
  VersionsMean key = EdgesMean version_cmp (VersionBelow key) IsPlainRelease holds v (v.version key)

  abbrev TextsMean : MarkerValueString → Diagram Question → Part → List (Branch (List ℕ) Part) → Type 0
  TextsMean key = EdgesMean text_cmp (TextBelow key) (λ text. Unit {0}) holds v (v.text key)

  abbrev AllMean : Diagram Question → Edges → Type 0
  AllMean d NoEdges = Unit {0}
  AllMean d (Versions key first later) = VersionsMean key d first later
  AllMean d (Texts key first later) = TextsMean key d first later
  AllMean d (Flagged flag set unset) = Unit {0}

  module _ (low high : Diagram Question) (first : Part) (sound : IsSound holds v first)
      (is : first.diagram ≡ low) (walk : Walk) (other : IsSound holds v walk.part)
      (other_is : walk.part.diagram ≡ high) where
    versions_next : (key found : VersionVariable) (b : Boundary VersionRecord) (from : Part)
        (later : List (Branch VersionRecord Part)) (same : Bool) →
        (version_rank key == version_rank found) ≡ same → GoodBoundary IsPlainRelease b →
        RootAfter marker (VersionBelow key b) high → VersionsMean found high from later →
        VersionsMean key (Test (VersionBelow key b) low high) first
        (cond same (record { boundary = b; child = from } ∷ later)
        (record { boundary = b; child = walk.part } ∷ []))
    versions_next key found b from later true e fits after means =
        let one : key ≡ found =
        versions_same key found ((unsigned_Decides (version_rank key) (version_rank found)).0 e) in
        next_means version_cmp_total (versions_key key) IsPlainRelease b low high first from later fits sound is
        (subst (λ k. VersionsMean k high from later) (sym one) means) after
    versions_next key found b from later false e fits after means =
        last_means version_cmp_total (versions_key key) IsPlainRelease b low high first walk.part fits sound is
        other other_is

    versions_mean : (key : VersionVariable) (b : Boundary VersionRecord) (edges : Edges) →
        GoodBoundary IsPlainRelease b → RootAfter marker (VersionBelow key b) high → AllMean high edges →
        VersionsMean key (Test (VersionBelow key b) low high) first (versions_from key b walk edges)
    versions_mean key b (Versions found from later) fits after means =
        versions_next key found b from later (version_rank key == version_rank found) refl fits after means
    versions_mean key b NoEdges fits after means =
        last_means version_cmp_total (versions_key key) IsPlainRelease b low high first walk.part fits sound is
        other other_is
    versions_mean key b (Texts found from later) fits after means =
        last_means version_cmp_total (versions_key key) IsPlainRelease b low high first walk.part fits sound is
        other other_is
    versions_mean key b (Flagged flag set unset) fits after means =
        last_means version_cmp_total (versions_key key) IsPlainRelease b low high first walk.part fits sound is
        other other_is

    texts_next : (key found : MarkerValueString) (b : Boundary (List ℕ)) (from : Part)
        (later : List (Branch (List ℕ) Part)) (same : Bool) →
        (text_key_rank key == text_key_rank found) ≡ same → GoodBoundary (λ text. Unit {0}) b →
        RootAfter marker (TextBelow key b) high → TextsMean found high from later →
        TextsMean key (Test (TextBelow key b) low high) first
        (cond same (record { boundary = b; child = from } ∷ later)
        (record { boundary = b; child = walk.part } ∷ []))
    texts_next key found b from later true e fits after means =
        let one : key ≡ found =
        text_keys_same key found ((unsigned_Decides (text_key_rank key) (text_key_rank found)).0 e) in
        next_means nat_list_cmp_total (texts_key key) (λ text. Unit {0}) b low high first from later fits sound
        is (subst (λ k. TextsMean k high from later) (sym one) means) after
    texts_next key found b from later false e fits after means =
        last_means nat_list_cmp_total (texts_key key) (λ text. Unit {0}) b low high first walk.part fits sound
        is other other_is

    texts_mean : (key : MarkerValueString) (b : Boundary (List ℕ)) (edges : Edges) →
        GoodBoundary (λ text. Unit {0}) b → RootAfter marker (TextBelow key b) high → AllMean high edges →
        TextsMean key (Test (TextBelow key b) low high) first (texts_from key b walk edges)
    texts_mean key b (Texts found from later) fits after means =
        texts_next key found b from later (text_key_rank key == text_key_rank found) refl fits after means
    texts_mean key b NoEdges fits after means =
        last_means nat_list_cmp_total (texts_key key) (λ text. Unit {0}) b low high first walk.part fits sound
        is other other_is
    texts_mean key b (Versions found from later) fits after means =
        last_means nat_list_cmp_total (texts_key key) (λ text. Unit {0}) b low high first walk.part fits sound
        is other other_is
    texts_mean key b (Flagged flag set unset) fits after means =
        last_means nat_list_cmp_total (texts_key key) (λ text. Unit {0}) b low high first walk.part fits sound
        is other other_is

  -- ---- diagrams

  headed_means : (term : ExpressionRecord) (clauses : List Clause) →
      one_holds holds (map (λ clause. term ∷ clause) clauses) ≡ (holds term && one_holds holds clauses)
  headed_means term [] = no_clause (holds term)
    where
      no_clause : (b : Bool) → false ≡ (b && false)
      no_clause true = refl
      no_clause false = refl
  headed_means term (clause ∷ clauses) =
      ap (λ b. (holds term && list_all holds clause) || b) (headed_means term clauses)
      ∙ one_of (holds term) (list_all holds clause) (one_holds holds clauses)
    where
      one_of : (a b c : Bool) → ((a && b) || (a && c)) ≡ (a && (b || c))
      one_of true b c = refl
      one_of false b c = refl

  flag_answer : (flag : Flag) → answer v (IsSet flag) ≡ v.flag flag
  unfolding answer
  flag_answer flag = refl

  chosen : (set a b : Bool) → ((set && a) || (not set && b)) ≡ cond set a b
  chosen true true b = refl
  chosen true false b = refl
  chosen false a b = refl

  good_release : (b : Boundary VersionRecord) → StandsAtRelease b → GoodBoundary IsPlainRelease b
  good_release (boundary.At version) h = h
  good_release (boundary.JustAbove version) h = h

  good_text : (b : Boundary (List ℕ)) → GoodBoundary (λ text. Unit {0}) b
  good_text (boundary.At text) = tt
  good_text (boundary.JustAbove text) = tt

  module _ (k : Speaks v holds) where
    flags_mean : (flag : Flag) (low high : Diagram Question) → IsSound holds v (walk_of low).part →
        IsSound holds v (walk_of high).part →
        one_holds holds (clauses_of (Test (IsSet flag) low high)) ≡ truth (Test (IsSet flag) low high) v
    flags_mean flag low high sound other =
        list_any-append (list_all holds) (map (λ clause. set_term flag ∷ clause) (clauses_of low))
        (map (λ clause. unset_term flag ∷ clause) (clauses_of high))
        ∙ (λ i. headed_means (set_term flag) (clauses_of low) i
        || headed_means (unset_term flag) (clauses_of high) i)
        ∙ (λ i. (k.set_is flag i && (sound ∙ ap (λ d. truth d v) (walk_diagram low)) i)
        || (k.unset_is flag i && (other ∙ ap (λ d. truth d v) (walk_diagram high)) i))
        ∙ chosen (v.flag flag) (truth low v) (truth high v)
        ∙ ap (λ b. cond b (truth low v) (truth high v)) (sym (flag_answer flag))

    -- a walk whose clauses and edges mean its diagram
    pub record WalkMeans (d : Diagram Question) : Type 0 where
      pub sound : IsSound holds v (walk_of d).part
      pub edges : AllMean d (walk_of d).edges

    pub walk_means : (d : Diagram Question) → IsCanonical d → HasReleasesAlone d → WalkMeans d
    walk_means (Leaf true) c r = record { sound = refl; edges = tt }
    walk_means (Leaf false) c r = record { sound = refl; edges = tt }
    walk_means (Test (VersionBelow key b) low high) c r =
        let l = walk_means low c.0 r.1 in
        let h = walk_means high c.1 r.2 in
        let e = versions_mean low high (walk_of low).part l.sound (walk_diagram low) (walk_of high) h.sound
        (walk_diagram high) key b (walk_of high).edges (good_release b r.0) c.3 h.edges in
        let later = versions_from key b (walk_of high) (walk_of high).edges in record {
          sound =
              grouped_means holds v (k.versions key) (walk_of low).part later e.rising e.are_good e.sound
              ∙ sym e.stands;
          edges = e;
        }
    walk_means (Test (TextBelow key b) low high) c r =
        let l = walk_means low c.0 r.1 in
        let h = walk_means high c.1 r.2 in
        let e = texts_mean low high (walk_of low).part l.sound (walk_diagram low) (walk_of high) h.sound
        (walk_diagram high) key b (walk_of high).edges (good_text b) c.3 h.edges in
        let later = texts_from key b (walk_of high) (walk_of high).edges in record {
          sound =
              grouped_means holds v (k.texts key) (walk_of low).part later e.rising e.are_good e.sound
              ∙ sym e.stands;
          edges = e;
        }
    walk_means (Test (IsSet flag) low high) c r =
        let l = walk_means low c.0 r.1 in
        let h = walk_means high c.1 r.2 in
        record { sound = flags_mean flag low high l.sound h.sound; edges = tt }

    -- the clauses of a diagram mean it
    pub clauses_mean : (d : Diagram Question) → IsCanonical d → HasReleasesAlone d →
        one_holds holds (clauses_of d) ≡ truth d v
    clauses_mean d c r = (walk_means d c r).sound ∙ ap (λ e. truth e v) (walk_diagram d)
