-- One pass over two rising lists of branches: what it has still to write.
use Rattle.std.proofs.Common.{◌≡◌, inl, inr, ◌+◌, ◌<◌, true, false, List, [], ◌∷◌, ◌++◌, length, map, refl}
use Rattle.std.proofs.Common.{sym, ap, subst, ◌∙◌, arith, append_assoc, append-nil}
use Rattle.std.proofs.lemmas.Bool.{cases_Bool}
use Rattle.std.proofs.lemmas.List.{map-append}
use Rattle.std.specs.Cmp.{IsTotalOrder, tied_itself, tied_back, alike_right}
use Rattle.std.specs.Ordering.{ordering_reverse}
use Rattle.std.specs.declared.cmp.Ordering.{Ordering}
use Rattle.std.specs.declared.cmp.Ordering.TheVariants.{Less, Equal, Greater}
use Rattle.version_ranges.specs.declared.boundary.Boundary.{Boundary}
use Rattle.version_ranges.specs.Point.{Point, point_cmp}
use Rattle.version_ranges.specs.Boundaries.{point_of, boundary_cmp}
use Rattle.version_ranges.specs.OrderLaws.{points_total, boundaries_total}
use Rattle.version_ranges.specs.Turns.{reaches}
use Rattle.version_ranges.proofs.Membership.{like}
use Rattle.pep508_diagram.specs.declared.branch.Branch.{Branch}
use Rattle.pep508_diagram.specs.Branches.{RisingBranches, branch_at, AllBranches}
use Rattle.pep508_diagram.specs.Chains.{IsChild}
use Rattle.pep508_diagram.specs.Pairing.{GoesOn, IsNext, AreChildPairs}
use Rattle.pep508_diagram.proofs.Branching.{Before, before_unreached, before_earlier, before_equal}

-- all children are the first's or the others'
pub first_child : {T C : Type 0} (first : C) (later : List (Branch T C)) → IsChild first first later
first_child first [] = refl
first_child first (branch ∷ later) = inl refl

pub weaker_branches : {T C : Type 0} (P Q : C → Type 0) → ((c : C) → P c → Q c) → (first : C)
    (later : List (Branch T C)) → AllBranches P first later → AllBranches Q first later
weaker_branches P Q f first [] all = f first all
weaker_branches P Q f first (branch ∷ later) all =
    (f first all.0, weaker_branches P Q f branch.child later all.1)

module _ {T C : Type 0} (cmp : T → T → Ordering) (first : C) (later : List (Branch T C)) (other_first : C)
    (other_later : List (Branch T C)) where
  -- the children of a pair are children of the two lists
  abbrev pub BothChildren : C × C → Type 0
  BothChildren pair = IsChild pair.0 first later × IsChild pair.1 other_first other_later

  -- the pairs stand for both lists
  pub record Pairs (pairs : List (Branch T (C × C))) : Type 0 where
    pub points : (p : Point T) → branch_at cmp (first, other_first) pairs p
        ≡ (branch_at cmp first later p, branch_at cmp other_first other_later p)
    pub rises : RisingBranches cmp pairs
    pub children : AllBranches BothChildren (first, other_first) pairs
    pub before : (t : Boundary T) → Before cmp t later → Before cmp t other_later → Before cmp t pairs

module _ {T C : Type 0} {cmp : T → T → Ordering} (o : IsTotalOrder cmp) (t : Boundary T) where
  -- one of the lists, where the boundary t is read
  module _ (first : C) (later : List (Branch T C)) (child : C) (left : List (Branch T C)) where
    same_reach : (branch : Branch T C) (p : Point T) → boundary_cmp cmp branch.boundary t ≡ Equal →
        reaches (point_cmp cmp) (point_of branch.boundary) p ≡ reaches (point_cmp cmp) (point_of t) p
    same_reach branch p same =
        like (point_cmp cmp) (points_total cmp o) (point_of branch.boundary) (point_of t) p same

    side_front : GoesOn cmp t first later child left → Before cmp t left → (p : Point T) →
        reaches (point_cmp cmp) (point_of t) p ≡ false → branch_at cmp first later p ≡ first
    side_front (inl g) before p over =
        let too : reaches (point_cmp cmp) (point_of g.0.boundary) p ≡ false = same_reach g.0 p g.3 ∙ over in
        rw (g.1, too) refl
    side_front (inr g) before p over = rw g.0 (before_unreached o t first left p over before)

    side_behind : GoesOn cmp t first later child left → (p : Point T) →
        reaches (point_cmp cmp) (point_of t) p ≡ true →
        branch_at cmp first later p ≡ branch_at cmp child left p
    side_behind (inl g) p up =
        let too : reaches (point_cmp cmp) (point_of g.0.boundary) p ≡ true = same_reach g.0 p g.3 ∙ up in
        rw (g.1, too, g.2) refl
    side_behind (inr g) p up = rw (g.0, g.1) refl

    side_child : GoesOn cmp t first later child left → (c : C) → IsChild c child left → IsChild c first later
    side_child (inl g) c is = rw g.1 (inr (subst (λ d. IsChild c d left) g.2 is))
    side_child (inr g) c is = rw g.0 (subst (λ d. IsChild c d left) g.1 is)

    pub side_rises : GoesOn cmp t first later child left → RisingBranches cmp later → RisingBranches cmp left
    side_rises (inl g) rises = (subst (RisingBranches cmp) g.1 rises).1
    side_rises (inr g) rises = subst (RisingBranches cmp) g.0 rises

    side_before : GoesOn cmp t first later child left → (s : Boundary T) → Before cmp s later →
        Before cmp s left
    side_before (inl g) s before = (subst (Before cmp s) g.1 before).1
    side_before (inr g) s before = subst (Before cmp s) g.0 before

  module _ (first : C) (later : List (Branch T C)) (child : C) (left : List (Branch T C)) (other_first : C)
      (other_later : List (Branch T C)) (other_child : C) (other_left : List (Branch T C)) where
    -- what comes before all of both lists comes before the first boundary
    before_first : GoesOn cmp t first later child left →
        GoesOn cmp t other_first other_later other_child other_left →
        length left + length other_left < length later + length other_later → (s : Boundary T) →
        Before cmp s later → Before cmp s other_later → boundary_cmp cmp s t ≡ Less
    before_first (inl g) other taken s before other_before =
        sym (alike_right (boundaries_total cmp o) g.0.boundary t s g.3) ∙ (subst (Before cmp s) g.1 before).0
    before_first (inr g) (inl h) taken s before other_before =
        sym (alike_right (boundaries_total cmp o) h.0.boundary t s h.3)
        ∙ (subst (Before cmp s) h.1 other_before).0
    before_first (inr g) (inr h) taken s before other_before =
        absurd (omega (arith, ap length g.0, ap length h.0))

    module _ (n : IsNext cmp t first later child left other_first other_later other_child other_left)
        (rises : RisingBranches cmp later) (other_rises : RisingBranches cmp other_later)
        (rest : List (Branch T (C × C))) (ps : Pairs cmp child left other_child other_left rest) where
      pair : Branch T (C × C)
      pair = record { boundary = t; child = (child, other_child) }

      pair_points : (p : Point T) → branch_at cmp (first, other_first) (pair ∷ rest) p
          ≡ (branch_at cmp first later p, branch_at cmp other_first other_later p)
      unfolding pair
      pair_points p = elim (cases_Bool (reaches (point_cmp cmp) (point_of t) p)) [
        | inl up ↦
            let one : branch_at cmp first later p ≡ branch_at cmp child left p =
            side_behind first later child left n.goes_on p up in
            let two : branch_at cmp other_first other_later p ≡ branch_at cmp other_child other_left p =
            side_behind other_first other_later other_child other_left n.other_goes_on p up in
            rw up (ps.points p ∙ (λ i. (sym one i, sym two i)))
        | inr over ↦
            let one : branch_at cmp first later p ≡ first =
            side_front first later child left n.goes_on (n.before rises other_rises) p over in
            let two : branch_at cmp other_first other_later p ≡ other_first =
            side_front other_first other_later other_child other_left n.other_goes_on
            (n.other_before rises other_rises) p over in
            rw over (λ i. (sym one i, sym two i))
      ]

      pub pairs_more : Pairs cmp first later other_first other_later
          (record { boundary = t; child = (child, other_child) } ∷ rest)
      unfolding pair_points pair
      pairs_more = record {
        points = pair_points;
        rises = (ps.before t (n.before rises other_rises) (n.other_before rises other_rises), ps.rises);
        children = (
          (first_child first later, first_child other_first other_later),
          weaker_branches (BothChildren cmp child left other_child other_left)
              (BothChildren cmp first later other_first other_later)
              (λ c is. (
                side_child first later child left n.goes_on c.0 is.0,
                side_child other_first other_later other_child other_left n.other_goes_on c.1 is.1,
              ))
              (child, other_child) rest ps.children,
        );
        before = λ s below other_below. (
          before_first n.goes_on n.other_goes_on n.taken s below other_below,
          ps.before s (side_before first later child left n.goes_on s below)
              (side_before other_first other_later other_child other_left n.other_goes_on s other_below),
        );
      }

-- a pass: whatever goes on with what is left goes on with all that was written
pub record Passing {T C : Type 0} (cmp : T → T → Ordering) (first : C) (later : List (Branch T C))
    (other_first : C)
    (other_later : List (Branch T C)) (child : C) (left : List (Branch T C)) (other_child : C)
    (other_left : List (Branch T C)) (pairs : List (Branch T (C × C))) : Type 0 where
  pub continues : (rest : List (Branch T (C × C))) → Pairs cmp child left other_child other_left rest →
      Pairs cmp first later other_first other_later (pairs ++ rest)
  pub rises : RisingBranches cmp left
  pub other_rises : RisingBranches cmp other_left

module _ {T C : Type 0} {cmp : T → T → Ordering} (o : IsTotalOrder cmp) {first : C}
    {later : List (Branch T C)}
    {other_first : C} {other_later : List (Branch T C)} where
  pub passing_none : (pairs : List (Branch T (C × C))) → pairs ≡ [] → RisingBranches cmp later →
      RisingBranches cmp other_later →
      Passing cmp first later other_first other_later first later other_first other_later pairs
  passing_none pairs e rises other_rises = record {
    continues = λ rest ps.
        subst (λ ws. Pairs cmp first later other_first other_later (ws ++ rest)) (sym e) ps;
    rises = rises;
    other_rises = other_rises;
  }

  pub passing_more : (t : Boundary T) (child : C) (left : List (Branch T C)) (next : C)
      (behind : List (Branch T C))
      (other_child : C) (other_left : List (Branch T C)) (other_next : C) (other_behind : List (Branch T C))
      (pairs more : List (Branch T (C × C))) (copy : Boundary T) →
      Passing cmp first later other_first other_later child left other_child other_left pairs →
      IsNext cmp t child left next behind other_child other_left other_next other_behind → copy ≡ t →
      more ≡ pairs ++ (record { boundary = copy; child = (next, other_next) } ∷ []) →
      Passing cmp first later other_first other_later next behind other_next other_behind more
  passing_more t child left next behind other_child other_left other_next other_behind pairs more copy w n
      same e =
      let pair : Branch T (C × C) = record { boundary = t; child = (next, other_next) } in
      let written : more ≡ pairs ++ (pair ∷ []) =
      e ∙ ap (λ (b : Boundary T). pairs ++ (record { boundary = b; child = (next, other_next) } ∷ [])) same in
      record {
        continues = λ rest ps.
            let all : Pairs cmp first later other_first other_later (pairs ++ (pair ∷ rest)) =
            w.continues (pair ∷ rest)
            (pairs_more o t child left next behind other_child other_left other_next other_behind n w.rises
            w.other_rises rest ps) in
            subst (λ ws. Pairs cmp first later other_first other_later ws)
            (sym (append_assoc pairs (pair ∷ []) rest) ∙ ap (λ ws. ws ++ rest) (sym written)) all;
        rises = side_rises o t child left next behind n.goes_on w.rises;
        other_rises =
            side_rises o t other_child other_left other_next other_behind n.other_goes_on w.other_rises;
      }

  pub passing_all : (child : C) (left : List (Branch T C)) (other_child : C) (other_left : List (Branch T C))
      (pairs : List (Branch T (C × C))) →
      Passing cmp first later other_first other_later child left other_child other_left pairs →
      left ≡ [] → other_left ≡ [] → Pairs cmp first later other_first other_later pairs
  passing_all child left other_child other_left pairs w e f =
      let none : Pairs cmp child left other_child other_left [] =
      rw (e, f) (record {
        points = λ p. refl;
        rises = tt;
        children = (refl, refl);
        before = λ t a b. tt;
      }) in
      subst (Pairs cmp first later other_first other_later) (append-nil pairs) (w.continues [] none)

-- a pass that writes the children alone
pub record ChildPassing {T C : Type 0} (cmp : T → T → Ordering) (first : C) (later : List (Branch T C))
    (other_first : C)
    (other_later : List (Branch T C)) (child : C) (left : List (Branch T C)) (other_child : C)
    (other_left : List (Branch T C)) (pairs : List (C × C)) : Type 0 where
  pub branches : List (Branch T (C × C))
  pub pairs_are : pairs ≡ (first, other_first) ∷ map (λ branch. branch.child) branches
  pub passing : Passing cmp first later other_first other_later child left other_child other_left branches

module _ {T C : Type 0} {cmp : T → T → Ordering} (o : IsTotalOrder cmp) {first : C}
    {later : List (Branch T C)}
    {other_first : C} {other_later : List (Branch T C)} where
  pub children_none : (pairs : List (C × C)) → pairs ≡ (first, other_first) ∷ [] → RisingBranches cmp later →
      RisingBranches cmp other_later →
      ChildPassing cmp first later other_first other_later first later other_first other_later pairs
  children_none pairs e rises other_rises = record {
    branches = [];
    pairs_are = e;
    passing = passing_none o [] refl rises other_rises;
  }

  pub children_more : (t : Boundary T) (child : C) (left : List (Branch T C)) (next : C)
      (behind : List (Branch T C))
      (other_child : C) (other_left : List (Branch T C)) (other_next : C) (other_behind : List (Branch T C))
      (pairs more : List (C × C)) →
      ChildPassing cmp first later other_first other_later child left other_child other_left pairs →
      IsNext cmp t child left next behind other_child other_left other_next other_behind →
      more ≡ pairs ++ ((next, other_next) ∷ []) →
      ChildPassing cmp first later other_first other_later next behind other_next other_behind more
  children_more t child left next behind other_child other_left other_next other_behind pairs more w n e =
      let pair : Branch T (C × C) = record { boundary = t; child = (next, other_next) } in
      record {
        branches = w.branches ++ (pair ∷ []);
        pairs_are =
            e
            ∙ ap (λ ps. ps ++ ((next, other_next) ∷ [])) w.pairs_are
            ∙ ap (λ ps. (first, other_first) ∷ ps)
            (sym (map-append (λ (b : Branch T (C × C)). b.child) w.branches (pair ∷ [])));
        passing = passing_more o t child left next behind other_child other_left other_next other_behind
            w.branches (w.branches ++ (pair ∷ [])) t w.passing n refl refl;
      }

  pub children_all : (child : C) (left : List (Branch T C)) (other_child : C) (other_left : List (Branch T C))
      (pairs : List (C × C)) →
      ChildPassing cmp first later other_first other_later child left other_child other_left pairs →
      left ≡ [] → other_left ≡ [] → AreChildPairs cmp first later other_first other_later pairs
  children_all child left other_child other_left pairs w e f =
      let all = passing_all o child left other_child other_left w.branches w.passing e f in
      record {
        branches = w.branches;
        pairs_are = w.pairs_are;
        points = all.points;
        rises = all.rises;
        children = all.children;
      }

-- the next boundary of two lists
module _ {T C : Type 0} {cmp : T → T → Ordering} (o : IsTotalOrder cmp) (first other_first : C)
    (later other_later left other_left : List (Branch T C)) (branch other : Branch T C) where
  rises_behind : (whole behind : List (Branch T C)) (b : Branch T C) → whole ≡ b ∷ behind →
      RisingBranches cmp whole → Before cmp b.boundary behind
  rises_behind whole behind b e rises = (subst (RisingBranches cmp) e rises).0

  before_whole : (t : Boundary T) (whole behind : List (Branch T C)) (b : Branch T C) → whole ≡ b ∷ behind →
      boundary_cmp cmp t b.boundary ≡ Less → RisingBranches cmp whole → Before cmp t whole
  before_whole t whole behind b e less rises =
      subst (Before cmp t) (sym e)
      (less, before_earlier o t b.boundary behind less (rises_behind whole behind b e rises))

  before_none : (t : Boundary T) (whole : List (Branch T C)) → whole ≡ [] → Before cmp t whole
  before_none t whole e = subst (Before cmp t) (sym e) tt

  pub next_alone : later ≡ branch ∷ left → other_later ≡ [] →
      IsNext cmp branch.boundary first later branch.child left other_first other_later other_first other_later
  next_alone e f = record {
    goes_on = inl (branch, e, refl, tied_itself (boundaries_total cmp o) branch.boundary);
    other_goes_on = inr (refl, refl);
    before = λ p q. rises_behind later left branch e p;
    other_before = λ p q. before_none branch.boundary other_later f;
    taken = omega (arith, ap length e);
  }

  pub next_other_alone : later ≡ [] → other_later ≡ other ∷ other_left →
      IsNext cmp other.boundary first later first later other_first other_later other.child other_left
  next_other_alone e f = record {
    goes_on = inr (refl, refl);
    other_goes_on = inl (other, f, refl, tied_itself (boundaries_total cmp o) other.boundary);
    before = λ p q. before_none other.boundary later e;
    other_before = λ p q. rises_behind other_later other_left other f q;
    taken = omega (arith, ap length f);
  }

  pub next_less : later ≡ branch ∷ left → other_later ≡ other ∷ other_left →
      Less ≡ boundary_cmp cmp branch.boundary other.boundary →
      IsNext cmp branch.boundary first later branch.child left other_first other_later other_first other_later
  next_less e f less = record {
    goes_on = inl (branch, e, refl, tied_itself (boundaries_total cmp o) branch.boundary);
    other_goes_on = inr (refl, refl);
    before = λ p q. rises_behind later left branch e p;
    other_before = λ p q. before_whole branch.boundary other_later other_left other f (sym less) q;
    taken = omega (arith, ap length e);
  }

  pub next_greater : later ≡ branch ∷ left → other_later ≡ other ∷ other_left →
      Greater ≡ boundary_cmp cmp branch.boundary other.boundary →
      IsNext cmp other.boundary first later first later other_first other_later other.child other_left
  next_greater e f more =
      let less : boundary_cmp cmp other.boundary branch.boundary ≡ Less =
      (boundaries_total cmp o).antisymm other.boundary branch.boundary ∙ ap ordering_reverse (sym more) in
      record {
        goes_on = inr (refl, refl);
        other_goes_on = inl (other, f, refl, tied_itself (boundaries_total cmp o) other.boundary);
        before = λ p q. before_whole other.boundary later left branch e less p;
        other_before = λ p q. rises_behind other_later other_left other f q;
        taken = omega (arith, ap length f);
      }

  pub next_equal : later ≡ branch ∷ left → other_later ≡ other ∷ other_left →
      Equal ≡ boundary_cmp cmp branch.boundary other.boundary →
      IsNext cmp branch.boundary first later branch.child left other_first other_later other.child other_left
  next_equal e f same =
      let back : boundary_cmp cmp other.boundary branch.boundary ≡ Equal =
      tied_back (boundaries_total cmp o) branch.boundary other.boundary (sym same) in
      record {
        goes_on = inl (branch, e, refl, tied_itself (boundaries_total cmp o) branch.boundary);
        other_goes_on = inl (other, f, refl, back);
        before = λ p q. rises_behind later left branch e p;
        other_before = λ p q. before_equal o branch.boundary other.boundary other_left (sym same)
            (rises_behind other_later other_left other f q);
        taken = omega (arith, ap length e, ap length f);
      }
