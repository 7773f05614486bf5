-- What a tree says that is simplified to a range of versions of Python.
use Rattle.std.proofs.Common.{◌≡◌, ◌∙◌, ℕ, true, false, List, [], ◌∷◌, refl, ap, sym, subst, true≢false, Less}
use Rattle.std.proofs.Common.{not, is_gt}
use Rattle.std.specs.List.{AllByRecursion}
use Rattle.std.specs.Cmp.Lexicographic.{nat_list_cmp_total}
use Rattle.std.specs.declared.ops.Bound.{Bound}
use Rattle.version_ranges.specs.Point.{Point, BelowAll, point_cmp}
use Rattle.version_ranges.specs.Boundaries.{point_of}
use Rattle.version_ranges.specs.Bounds.{goes_on_to}
use Rattle.version_ranges.specs.Order.{start_point}
use Rattle.version_ranges.specs.Turns.{reaches}
use Rattle.version_ranges.specs.declared.boundary.Boundary.{Boundary}
use Rattle.version_ranges.specs.declared.boundary.Boundary.TheVariants as boundary
use Rattle.pep440_version.specs.OrderLaws.{version_cmp_total}
use Rattle.pep440_text.specs.Record.{VersionRecord, release_record}
use Rattle.pep440_version.specs.Order.{version_cmp}
use Rattle.pep440_range.specs.Ranges.{PointTest}
use Rattle.pep508_diagram.specs.declared.branch.Branch.{Branch}
use Rattle.pep508_diagram.specs.declared.variable.VersionVariable.TheVariants.{ImplementationVersion}
use Rattle.pep508_diagram.specs.declared.variable.VersionVariable.TheVariants.{PythonFullVersion}
use Rattle.pep508_diagram.specs.Branches.{RisingBranches, branch_at, last_child, AllBranches}
use Rattle.pep508_diagram.specs.Branches.{NeighboursDiffer}
use Rattle.pep508_diagram.specs.Question.{Valuation, VersionBelow, with_version}
use Rattle.pep508_diagram.specs.Text.{text_cmp}
use Rattle.pep508_diagram.proofs.Branching.{reached, NoneReached, none_reached, all_children, branch_at_child}
use Rattle.pep508_diagram.proofs.Branching.{branch_at_below, branch_at_own}
use Rattle.pep508_diagram.proofs.Pairing.{first_child, weaker_branches}
use Rattle.pep508_tree.specs.Tree.{Tree, never}
use Rattle.pep508_tree.specs.Meaning.{NodeRecord, Versions, holds, IsTree}
use Rattle.pep508_tree.specs.Nodes.{AreSound, Above, Made}
use Rattle.pep508_tree.specs.Roots.{IsRoot}
use Rattle.pep508_tree.proofs.Meanings.{unmoved}
use Rattle.pep508_tree.proofs.Moving.{version_differs}
use Rattle.pep508_tree.proofs.NodeChildren.{both_branches}
use Rattle.pep508_tree.proofs.OneTree.{same_tree}
use Rattle.pep508_tree.proofs.Roots.{constant_is}
use Rattle.pep508_simplification.specs.Simplified.{between, with_python, IsNarrowed, IsFree, IsSimplified}
use Rattle.pep508_simplification.specs.Within.{behind, up_to}
use Rattle.pep508_simplification.specs.Narrowed.{python_place, implementation_place}
use Rattle.pep508_simplification.proofs.Cutting.{last_of, within_of, from_within, start_within, start_goes}
use Rattle.pep508_simplification.proofs.Cutting.{behind_rises, behind_differs, behind_children, behind_none}
use Rattle.pep508_simplification.proofs.Cutting.{behind_at, up_to_rises, up_to_differs, up_to_children}
use Rattle.pep508_simplification.proofs.Cutting.{up_to_none, up_to_goes, up_to_at, none_earlier, all_reached}
use Rattle.pep508_simplification.proofs.Cutting.{after_all, towards}

pub above_earlier : (nodes : List NodeRecord) (place other : List ℕ) (t : Tree) → text_cmp other place ≡ Less →
    Above nodes place t → Above nodes other t
unfolding Above
above_earlier nodes place other t less above k e =
    nat_list_cmp_total.trans other place _ less (above k e)

module _ (nodes : List NodeRecord) (sound : AreSound nodes) where
  somewhere : Boundary VersionRecord
  somewhere = boundary.At (release_record [])

  -- a tree behind `python_full_version` doesn't know it, and so with `implementation_version`
  still : (t : Tree) → IsTree nodes t → Above nodes python_place t → (v : Valuation) (p : Point VersionRecord) →
      holds nodes t (with_python v p) ≡ holds nodes t v
  still t made above v p =
      unmoved nodes sound (VersionBelow PythonFullVersion somewhere) t made above v (with_python v p)
      (version_differs v PythonFullVersion p somewhere)

  still_elsewhere : (t : Tree) → IsTree nodes t → Above nodes implementation_place t → (v : Valuation)
      (p : Point VersionRecord) → holds nodes t (with_version v ImplementationVersion p) ≡ holds nodes t v
  still_elsewhere t made above v p =
      unmoved nodes sound (VersionBelow ImplementationVersion somewhere) t made above v
      (with_version v ImplementationVersion p) (version_differs v ImplementationVersion p somewhere)

  moved : (t : Tree) → IsTree nodes t → Above nodes python_place t → (v : Valuation) (p q : Point VersionRecord) →
      holds nodes t (with_python v p) ≡ holds nodes t (with_python v q)
  moved t made above v p q = still t made above v p ∙ sym (still t made above v q)

  module _ (lower upper : Bound VersionRecord) where
    abbrev start : Point VersionRecord
    start = start_point lower

    abbrev range : PointTest
    range = between lower upper

    start_in : (q : Point VersionRecord) → range q ≡ true → range start ≡ true
    start_in q here = start_within version_cmp_total lower upper (start_goes version_cmp_total lower upper q here)

    from_start : (q : Point VersionRecord) → range q ≡ true → reaches (point_cmp version_cmp) start q ≡ true
    from_start q here = (from_within version_cmp_total lower upper q here).0

    -- ---- trees that don't ask of versions of Python

    pub unchanged : (t : Tree) → IsTree nodes t → Above nodes python_place t →
        IsSimplified range (holds nodes t) (holds nodes t)
    unchanged t made above = record {
      somewhere = λ q here v. record {
        inside = λ p in_it. refl;
        below = λ p before. record {
          least = start;
          inside = start_in q here;
          before = from_start;
          truth_is = moved t made above v p start;
        };
        above = λ p after. record {
          from = start;
          inside = start_in q here;
          truth_is = λ r in_it up. moved t made above v p r;
        };
      };
      nowhere = λ none v. record {
        free = λ free. refl;
        bound = λ bound. absurd (bound (λ w e p. still t made above w p));
      };
    }

    -- ---- nodes of `python_full_version`

    module _ (t f : Tree) (l : List (Branch VersionRecord Tree)) (root : IsRoot nodes t (Versions PythonFullVersion f l))
      where
        abbrev IsBehind : Tree → Type 0
        IsBehind c = IsTree nodes c × Above nodes python_place c

        behind_all : AllBranches IsBehind f l
        behind_all = both_branches (IsTree nodes) (Above nodes python_place) f l root.made root.above

        before_is : (v : Valuation) (p : Point VersionRecord) →
            holds nodes t (with_python v p) ≡ holds nodes (branch_at version_cmp f l p) (with_python v p)
        before_is v p = root.holds_is (with_python v p)

        abbrev c : Tree
        c = branch_at version_cmp f l start

        abbrev k : List (Branch VersionRecord Tree)
        k = up_to version_cmp upper (behind version_cmp start l)

        cut_all : AllBranches IsBehind c k
        cut_all =
            up_to_children version_cmp_total IsBehind c (behind version_cmp start l) upper
            (behind_children version_cmp_total IsBehind f l start behind_all)

        pub cut_made : AllBranches (IsTree nodes) c k
        cut_made = weaker_branches IsBehind (IsTree nodes) (λ x h. h.0) c k cut_all

        pub cut_above : AllBranches (Above nodes python_place) c k
        cut_above = weaker_branches IsBehind (Above nodes python_place) (λ x h. h.1) c k cut_all

        pub cut_rises : RisingBranches version_cmp k
        cut_rises =
            up_to_rises version_cmp_total (behind version_cmp start l) upper
            (behind_rises version_cmp_total f l start root.rises)

        pub cut_differs : NeighboursDiffer c k
        cut_differs =
            up_to_differs version_cmp_total c (behind version_cmp start l) upper
            (behind_differs version_cmp_total f l start root.differ)

        none_start : NoneReached version_cmp start k
        none_start =
            up_to_none version_cmp_total (behind version_cmp start l) upper start
            (behind_none version_cmp_total l start root.rises)

        same_inside : (p : Point VersionRecord) → range p ≡ true →
            branch_at version_cmp c k p ≡ branch_at version_cmp f l p
        same_inside p in_it =
            let both = from_within version_cmp_total lower upper p in_it in
            up_to_at version_cmp_total c (behind version_cmp start l) upper p both.1
            ∙ behind_at version_cmp_total f l start p both.0

        all_in : (later : List (Branch VersionRecord Tree)) →
            AllByRecursion (λ branch. reaches (point_cmp version_cmp) start (point_of branch.boundary) ≡ true) later →
            AllByRecursion (λ branch. goes_on_to version_cmp upper (point_of branch.boundary) ≡ true) later →
            AllByRecursion (λ branch. range (point_of branch.boundary) ≡ true) later
        all_in [] after goes = tt
        all_in (b ∷ later) after goes = (
          within_of version_cmp_total lower upper (point_of b.boundary) after.0 goes.0,
          all_in later after.1 goes.1,
        )

        kept_in : AllByRecursion (λ branch. range (point_of branch.boundary) ≡ true) k
        kept_in =
            all_in k (after_all version_cmp_total k start none_start)
            (up_to_goes version_cmp_total (behind version_cmp start l) upper)

        reached_above : (p : Point VersionRecord) →
            ((q : Point VersionRecord) → range q ≡ true → point_cmp version_cmp q p ≡ Less) →
            (later : List (Branch VersionRecord Tree)) →
            AllByRecursion (λ branch. range (point_of branch.boundary) ≡ true) later →
            AllByRecursion (λ branch. reached version_cmp p branch ≡ true) later
        reached_above p after [] all = tt
        reached_above p after (b ∷ later) all = (
          ap (λ r. not (is_gt r)) (after (point_of b.boundary) all.0),
          reached_above p after later all.1,
        )

        module _ (new : List NodeRecord) (s : Tree) (is : Made nodes new (Versions PythonFullVersion c k) s) where
          after_is : (v : Valuation) (p : Point VersionRecord) →
              holds new s (with_python v p) ≡ holds nodes (branch_at version_cmp c k p) (with_python v p)
          after_is v p = is.truth_is (with_python v p)

          narrowed : (q : Point VersionRecord) → range q ≡ true → (v : Valuation) →
              IsNarrowed range (λ p. holds nodes t (with_python v p)) (λ p. holds new s (with_python v p))
          narrowed q here v = record {
            inside = λ p in_it.
                after_is v p ∙ ap (λ x. holds nodes x (with_python v p)) (same_inside p in_it) ∙ sym (before_is v p);
            below = λ p before.
                let first : IsBehind c = all_children IsBehind f l c behind_all (branch_at_child version_cmp f l start) in
                let up : reaches (point_cmp version_cmp) p start ≡ true =
                ap (λ r. not (is_gt r)) (before start (start_in q here)) in
                let stands : branch_at version_cmp c k p ≡ c =
                none_reached version_cmp c k p (none_earlier version_cmp_total k p start up none_start) in
                record {
                  least = start;
                  inside = start_in q here;
                  before = from_start;
                  truth_is =
                      after_is v p ∙ ap (λ x. holds nodes x (with_python v p)) stands
                      ∙ moved c first.0 first.1 v p start
                      ∙ sym (before_is v start);
                };
            above = λ p after.
                let last : IsBehind (last_child c k) = last_of IsBehind c k cut_all in
                let stands : branch_at version_cmp c k p ≡ last_child c k =
                all_reached version_cmp_total c k p (reached_above p after k kept_in) in
                let end = towards version_cmp_total (λ r. range r ≡ true) start c k cut_rises
                (after_all version_cmp_total k start none_start) (start_in q here) kept_in in
                record {
                  from = end.from;
                  inside = end.inside;
                  truth_is = λ r in_it up.
                      after_is v p ∙ ap (λ x. holds nodes x (with_python v p)) stands
                      ∙ moved (last_child c k) last.0 last.1 v p r
                      ∙ ap (λ x. holds nodes x (with_python v r)) (sym (end.last_is r up) ∙ same_inside r in_it)
                      ∙ sym (before_is v r);
                };
          }

          -- where the range holds some point
          pub simplified_some : goes_on_to version_cmp upper start ≡ true →
              IsSimplified range (holds nodes t) (holds new s)
          simplified_some goes = record {
            somewhere = narrowed;
            nowhere = λ none v.
                absurd (true≢false (sym (start_within version_cmp_total lower upper goes) ∙ none start));
          }

        -- with `implementation_version` fixed the tree still depends on the version of Python
        depends : (i : Point VersionRecord) → IsFree (holds nodes t) i → (b : Branch VersionRecord Tree)
            (later : List (Branch VersionRecord Tree)) → l ≡ b ∷ later → ⊥
        depends i free b later e =
            let all : AllBranches IsBehind f (b ∷ later) = subst (AllBranches IsBehind f) e behind_all in
            let differ : NeighboursDiffer f (b ∷ later) = subst (NeighboursDiffer f) e root.differ in
            let low : IsBehind f = all.0 in
            let high : IsBehind b.child = all_children IsBehind b.child later b.child all.1
            (first_child b.child later) in
            let at_low : branch_at version_cmp f l BelowAll ≡ f = branch_at_below version_cmp f l in
            let at_high : branch_at version_cmp f l (point_of b.boundary) ≡ b.child =
            ap (λ x. branch_at version_cmp f x (point_of b.boundary)) e
            ∙ branch_at_own version_cmp_total f [] b later
            (subst (RisingBranches version_cmp) e root.rises) in
            let side : (x : Tree) → IsBehind x → (p : Point VersionRecord) → branch_at version_cmp f l p ≡ x →
            (w : Valuation) → holds nodes x w ≡ holds nodes t (with_version w ImplementationVersion i) =
            λ x is p stands w.
            let u = with_version w ImplementationVersion i in
            sym (still_elsewhere x is.0 (above_earlier nodes python_place implementation_place x refl is.1) w i)
            ∙ sym (still x is.0 is.1 u p)
            ∙ ap (λ y. holds nodes y (with_python u p)) (sym stands)
            ∙ sym (before_is u p)
            ∙ free u refl p in
            differ.0
            ((same_tree nodes sound f b.child low.0 high.0).1
            (λ w. side f low BelowAll at_low w ∙ sym (side b.child high (point_of b.boundary) at_high w)))

        never_free : (i : Point VersionRecord) → IsFree (holds nodes t) i → ⊥
        never_free i free = by l refl
          where
            by : (later : List (Branch VersionRecord Tree)) → l ≡ later → ⊥
            by [] e = root.wide e
            by (b ∷ later) e = depends i free b later e

        -- where the range holds none
        pub simplified_none : goes_on_to version_cmp upper start ≡ false →
            IsSimplified range (holds nodes t) (holds nodes never)
        simplified_none off = record {
          somewhere = λ q here v.
              absurd (true≢false (sym (start_goes version_cmp_total lower upper q here) ∙ off));
          nowhere = λ none v. record {
            free = λ free. absurd (never_free (v.version ImplementationVersion) free);
            bound = λ bound. (constant_is nodes never refl).holds_is v;
          };
        }
