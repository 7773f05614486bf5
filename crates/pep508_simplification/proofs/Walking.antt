-- A walk over plain trees that wait for those that stand in their nodes.
use Rattle.std.proofs.Common.{◌≡◌, ◌∙◌, ℕ, zero, suc, ◌+◌, ◌-◌, ◌*◌, ◌<◌, ◌≤◌, Bool, List, [], ◌∷◌, ◌++◌}
use Rattle.std.proofs.Common.{length, length-append, get_or, take, refl, ap, sym, subst, arith, Option, Some}
use Rattle.std.proofs.Common.{None}
use Rattle.std.proofs.lemmas.List.{get_or_append_left, take_more, take_all}
use Rattle.std.proofs.Math.Nat.{mul-le-mul_left}
use Rattle.std.specs.declared.cmp.Ordering.TheVariants.{Less}
use Rattle.std.specs.Borrow.{Bor}
use Rattle.std.specs.BTreeMap.{BTreeMap, get, Updates}
use Rattle.std.specs.Cmp.{nat_cmp_is}
use Rattle.std.specs.List.{AllByRecursion}
use Rattle.std.specs.Ordering.{is_eq, nat_cmp}
use Rattle.std.specs.Prelude.{MatchOption}
use Rattle.pep508_simplification.specs.declared.extras_walk.Pending.{Pending}
use Rattle.pep508_tree.specs.Tree.{Tree}
use Rattle.pep508_tree.specs.Meaning.{NodeRecord, IsTree, Extends}
use Rattle.pep508_tree.specs.Nodes.{Above, chosen, no_node, node_at, node_place, first_place}
use Rattle.pep508_tree.specs.Conjunctions.{Meet}
use Rattle.pep508_tree.proofs.Conjoining.{extends_on, tree_kept, meet_push, meet_weaker, meet_with}
use Rattle.pep508_tree.proofs.Diagrams.{holds_kept}
use Rattle.pep508_tree.proofs.Meanings.{chosen_all}
use Rattle.pep508_tree.proofs.NodeChildren.{weaker_children, both_children}
use Rattle.pep508_tree.proofs.Storing.{above_kept}
use Rattle.pep508_simplification.specs.Simplified.{with_named}
use Rattle.pep508_simplification.specs.Parts.{record_of, children_of}
use Rattle.pep508_simplification.specs.Named.{IsNamed, AreKnown, IsAsked}
use Rattle.pep508_simplification.specs.Pending.{IsPending}
use Rattle.pep508_simplification.proofs.Counting.{unknown, unknown_less}
use Rattle.pep508_simplification.proofs.Naming.{named_later, named_earlier, named_now, asked_made, nowhere}

-- ---- lists that grow and shrink at their ends

module _ {C : Type 0} (P : C → Type 0) where
  all_before : (xs : List C) (x : C) → AllByRecursion P (xs ++ x ∷ []) → AllByRecursion P xs × P x
  all_before [] x all = (tt, all.0)
  all_before (y ∷ xs) x all = let later = all_before xs x all.1 in ((all.0, later.0), later.1)

  all_behind : (xs : List C) (x : C) → AllByRecursion P xs → P x → AllByRecursion P (xs ++ x ∷ [])
  all_behind [] x all one = (one, tt)
  all_behind (y ∷ xs) x all one = (all.0, all_behind xs x all.1 one)

  all_taken : (n : ℕ) (xs : List C) → AllByRecursion P xs → AllByRecursion P (take n xs)
  all_taken zero xs all = tt
  all_taken (suc n) [] all = tt
  all_taken (suc n) (x ∷ xs) all = (all.0, all_taken n xs all.1)

all_with : {C : Type 0} (P Q R : C → Type 0) → ((x : C) → P x → Q x → R x) → (xs : List C) →
    AllByRecursion P xs → AllByRecursion Q xs → AllByRecursion R xs
all_with P Q R so [] p q = tt
all_with P Q R so (x ∷ xs) p q = (so x p.0 q.0, all_with P Q R so xs p.1 q.1)

-- ---- the trees that wait, each at a lesser place than those before it

abbrev pub Falling : List Pending → Type 0
Falling [] = Unit {0}
Falling (p ∷ list) = AllByRecursion (λ q. q.tree.place < p.tree.place) list × Falling list

falling_before : (list : List Pending) (p : Pending) → Falling (list ++ p ∷ []) →
    Falling list × AllByRecursion (λ q. p.tree.place < q.tree.place) list
falling_before [] p falls = (tt, tt)
falling_before (q ∷ list) p falls =
    let here = all_before (λ r. r.tree.place < q.tree.place) list p falls.0 in
    let later = falling_before list p falls.1 in ((here.0, later.0), (here.1, later.1))

falling_behind : (list : List Pending) (p : Pending) → Falling list →
    AllByRecursion (λ q. p.tree.place < q.tree.place) list → Falling (list ++ p ∷ [])
falling_behind [] p falls above = (tt, tt)
falling_behind (q ∷ list) p falls above = (
  all_behind (λ r. r.tree.place < q.tree.place) list p falls.0 above.0,
  falling_behind list p falls.1 above.1,
)

less_place : (a b : ℕ) → a < b → nat_cmp a b ≡ Less
less_place a b less = sym (nat_cmp_is a b Less less)

-- the work that is left: the places that aren't known, and then that of the last that waits
last_place : List Pending → ℕ
last_place [] = 0
last_place (p ∷ []) = p.tree.place
last_place (p ∷ q ∷ list) = last_place (q ∷ list)

pub work : ℕ → BTreeMap ℕ Tree → List Pending → ℕ
work most known waiting = (most + 1) * unknown known (most + 1) + last_place waiting

last_is : (list : List Pending) (p : Pending) → last_place (list ++ p ∷ []) ≡ p.tree.place
unfolding last_place
last_is [] p = refl
last_is (q ∷ []) p = refl
last_is (q ∷ r ∷ list) p = last_is (r ∷ list) p

last_most : (most : ℕ) (list : List Pending) → AllByRecursion (λ p. p.tree.place ≤ most) list →
    last_place list ≤ most
unfolding last_place
last_most most [] all = omega arith
last_most most (p ∷ []) all = all.0
last_most most (p ∷ q ∷ list) all = last_most most (q ∷ list) all.1

module _ (returns : Bor (List ℕ) → Bool → Type 0) where
  -- ---- what waits, while nodes are added

  module _ (old new : List NodeRecord) (e : Extends old new) where
    first_kept : (t : Tree) → IsTree old t → 0 < t.place → first_place new t ≡ first_place old t
    first_kept t made some =
        ap (λ ns. node_place (node_at ns (t.place - 1))) e.1
        ∙ ap node_place (get_or_append_left old e.0 no_node (t.place - 1) (omega arith))

    asked_kept : (t : Tree) (o : Option NodeRecord) → IsTree old t →
        MatchOption o (t.place ≡ 0) (IsAsked returns old t) → MatchOption o (t.place ≡ 0) (IsAsked returns new t)
    asked_kept t None made is = is
    asked_kept t (Some n) made is =
        let below : (chosen n nowhere).place < t.place =
        chosen_all (λ (child : Tree). child.place < t.place) n nowhere is.falls in
        record {
          made = weaker_children (IsTree old) (IsTree new) (tree_kept old new e) n is.made;
          falls = is.falls;
          above = weaker_children (λ c. IsTree old c × Above old (node_place n) c) (Above new (node_place n))
              (λ c both. above_kept old new e (node_place n) c both.0 both.1) n
              (both_children (IsTree old) (Above old (node_place n)) n is.made is.above);
          place_is = is.place_is ∙ sym (first_kept t made (omega (arith, below)));
          rises = is.rises;
          holds_is = λ says by v.
              holds_kept old new e t made (with_named says v) ∙ is.holds_is says by v
              ∙ sym (holds_kept old new e (chosen n v) (chosen_all (IsTree old) n v is.made) (with_named says v));
        }

    met_kept : (children trees : List Tree) → AllByRecursion (IsTree old) children →
        Meet (IsNamed returns old old) children trees → Meet (IsNamed returns new new) children trees
    met_kept children trees made met =
        meet_weaker (λ c s. IsTree old c × IsNamed returns old old c s) (IsNamed returns new new)
        (λ c s is. named_now returns old new c s e is.0 (named_later returns old old new c s e is.1))
        children trees (meet_with (IsTree old) (IsNamed returns old old) children trees made met)

    pending_kept : (p : Pending) → IsPending returns old p → IsPending returns new p
    pending_kept p is = record {
      made = tree_kept old new e p.tree is.made;
      plain_is = is.plain_is;
      asked = asked_kept p.tree (record_of p.root) is.made is.asked;
      children_are = is.children_are;
      met = met_kept (take (length p.trees.items) p.children.items) p.trees.items
          (all_taken (IsTree old) (length p.trees.items) p.children.items
          (subst (AllByRecursion (IsTree old)) (sym is.children_are)
          (asked_made returns old p.tree (record_of p.root) is.asked)))
          is.met;
    }

  -- ---- one more that is found

  pub met_more : (nodes : List NodeRecord) (children trees more : List Tree) (i : ℕ) (t s : Tree) →
      i ≡ length trees → Meet (IsNamed returns nodes nodes) (take (length trees) children) trees →
      i < length children → t ≡ get_or children i t → IsNamed returns nodes nodes t s → more ≡ trees ++ s ∷ [] →
      (i + 1 ≡ length more) × Meet (IsNamed returns nodes nodes) (take (length more) children) more
  met_more nodes children trees more i t s e met inside is here pushed =
      let R = IsNamed returns nodes nodes in
      let count : length more ≡ i + 1 = omega (arith, ap length pushed, length-append trees (s ∷ [])) in
      let longer : take (length more) children ≡ take i children ++ t ∷ [] =
      ap (λ n. take n children) count ∙ take_more children i t inside
      ∙ ap (λ c. take i children ++ c ∷ []) (sym is) in (
        sym count,
        subst (λ xs. Meet R xs more) (sym longer)
            (subst (Meet R (take i children ++ t ∷ [])) (sym pushed)
            (meet_push R (take i children) trees t s
            (subst (λ n. Meet R (take n children) trees) (sym e) met) here)),
      )

  pub met_all : (nodes : List NodeRecord) (p : Pending) → IsPending returns nodes p →
      length p.children.items ≤ length p.trees.items →
      Meet (IsNamed returns nodes nodes) (children_of (record_of p.root)) p.trees.items
  met_all nodes p is all =
      subst (λ xs. Meet (IsNamed returns nodes nodes) xs p.trees.items)
      (take_all (length p.trees.items) p.children.items all ∙ is.children_are) is.met

  -- ---- where the walk stands

  -- the first of those that wait is what was asked for, which is found once nothing waits
  abbrev pub BeginsWith : List NodeRecord → Tree → Tree → List Pending → Type 0
  BeginsWith nodes asked last [] = IsNamed returns nodes nodes asked last
  BeginsWith nodes asked last (p ∷ list) = p.tree ≡ asked

  begins_on : (nodes : List NodeRecord) (asked last : Tree) (list : List Pending) (p q r : Pending) →
      q.tree ≡ p.tree → BeginsWith nodes asked last (list ++ p ∷ []) →
      BeginsWith nodes asked last ((list ++ q ∷ []) ++ r ∷ [])
  begins_on nodes asked last [] p q r same begins = same ∙ begins
  begins_on nodes asked last (s ∷ list) p q r same begins = begins

  begins_later : (nodes new : List NodeRecord) (asked last simple : Tree) (list : List Pending) (p : Pending) →
      IsNamed returns new new p.tree simple → BeginsWith nodes asked last (list ++ p ∷ []) →
      BeginsWith new asked simple list
  begins_later nodes new asked last simple [] p found begins =
      subst (λ (t : Tree). IsNamed returns new new t simple) begins found
  begins_later nodes new asked last simple (q ∷ list) p found begins = begins

  -- one that waits: nothing is known of it, and it stands no higher than what was asked for
  pub record IsWaiting (nodes : List NodeRecord) (known : BTreeMap ℕ Tree) (most : ℕ) (p : Pending)
      : Type 0 where
    pub pending : IsPending returns nodes p
    pub absent : get nat_cmp known p.tree.place ≡ None
    pub within : p.tree.place ≤ most

  -- nodes were only added, and what is remembered is so
  pub record IsWalk (old now : List NodeRecord) (known : BTreeMap ℕ Tree) (asked : Tree)
      (waiting : List Pending) (last : Tree) : Type 0 where
    pub keeps : Extends old now
    pub all_known : AreKnown returns now known
    pub each : AllByRecursion (IsWaiting now known asked.place) waiting
    pub falls : Falling waiting
    pub begins : BeginsWith now asked last waiting

  pub walk_ended : (old now : List NodeRecord) (known : BTreeMap ℕ Tree) (asked : Tree) (list : List Pending)
      (last : Tree) → IsWalk old now known asked list last → length list ≡ 0 → IsTree old asked →
      IsNamed returns old now asked last
  walk_ended old now known asked [] last walk none made =
      named_earlier returns old now now asked last walk.keeps made walk.begins
  walk_ended old now known asked (p ∷ list) last walk none made = absurd (omega arith)

  module _ (old now : List NodeRecord) (known : BTreeMap ℕ Tree) (asked : Tree) (whole list : List Pending)
      (last : Tree) (top : Pending) (e : whole ≡ list ++ top ∷ [])
      (walk : IsWalk old now known asked whole last) where
    each_before : AllByRecursion (IsWaiting now known asked.place) list × IsWaiting now known asked.place top
    each_before =
        all_before (IsWaiting now known asked.place) list top
        (subst (AllByRecursion (IsWaiting now known asked.place)) e walk.each)

    falls_before : Falling list × AllByRecursion (λ p. top.tree.place < p.tree.place) list
    falls_before = falling_before list top (subst Falling e walk.falls)

    pub top_pending : IsPending returns now top
    top_pending = each_before.1.pending

    -- a tree that stands in the last is put behind it
    module _ (again below : Pending) (new : List Pending) (pushed : new ≡ (list ++ again ∷ []) ++ below ∷ [])
        (same : again.tree ≡ top.tree) (less : below.tree.place < top.tree.place) where
      pub walk_down : IsPending returns now again → IsPending returns now below →
          get nat_cmp known below.tree.place ≡ None → IsWalk old now known asked new last
      walk_down pending below_pending absent =
          let is = each_before.1 in
          let W = IsWaiting now known asked.place in
          let behind : Pending → Type 0 = λ p. top.tree.place < p.tree.place in
          let higher : again.tree.place ≡ top.tree.place = ap (λ (t : Tree). t.place) same in
          subst (λ xs. IsWalk old now known asked xs last) (sym pushed) (record {
            keeps = walk.keeps;
            all_known = walk.all_known;
            each = all_behind W (list ++ again ∷ []) below
                (all_behind W list again each_before.0 (record {
                  pending = pending;
                  absent = subst (λ (t : Tree). get nat_cmp known t.place ≡ None) (sym same) is.absent;
                  within = omega (arith, is.within, higher);
                }))
                (record {
                  pending = below_pending;
                  absent = absent;
                  within = omega (arith, is.within, less);
                });
            falls = falling_behind (list ++ again ∷ []) below
                (falling_behind list again falls_before.0
                (all_with behind behind (λ p. again.tree.place < p.tree.place)
                (λ p is also. omega (arith, is, higher)) list falls_before.1 falls_before.1))
                (all_behind (λ p. below.tree.place < p.tree.place) list again
                (all_with behind behind (λ p. below.tree.place < p.tree.place)
                (λ p is also. omega (arith, is, less)) list falls_before.1 falls_before.1)
                (omega (arith, higher, less)));
            begins = begins_on now asked last list top again below same
                (subst (BeginsWith now asked last) e walk.begins);
          })

      pub work_down : work asked.place known new < work asked.place known whole
      unfolding work
      work_down =
          let lower = ap last_place pushed ∙ last_is (list ++ again ∷ []) below in
          let upper = ap last_place e ∙ last_is list top in
          omega (arith, lower, upper, less)

    -- what is found for the last is there, and is remembered
    module _ (new : List NodeRecord) (later : BTreeMap ℕ Tree) (simple : Tree)
        (updates : Updates nat_cmp known later top.tree.place (Some simple)) where
      still : (keeps : Extends now new) (p : Pending) → IsWaiting now known asked.place p →
          top.tree.place < p.tree.place → IsWaiting new later asked.place p
      still keeps p is less = record {
        pending = pending_kept now new keeps p is.pending;
        absent = updates.2 p.tree.place (ap is_eq (less_place top.tree.place p.tree.place less)) ∙ is.absent;
        within = is.within;
      }

      pub walk_up : Extends now new → AreKnown returns new later → IsNamed returns new new top.tree simple →
          IsWalk old new later asked list simple
      walk_up keeps all found = record {
        keeps = extends_on old now new walk.keeps keeps;
        all_known = all;
        each = all_with (IsWaiting now known asked.place) (λ p. top.tree.place < p.tree.place)
            (IsWaiting new later asked.place) (still keeps) list each_before.0 falls_before.1;
        falls = falls_before.0;
        begins = begins_later now new asked last simple list top found
            (subst (BeginsWith now asked last) e walk.begins);
      }

      pub work_up : work asked.place later list < work asked.place known whole
      unfolding work
      work_up =
          let most = asked.place in
          let is = each_before.1 in
          let W = IsWaiting now known most in
          let fewer : unknown later (most + 1) < unknown known (most + 1) =
          unknown_less known later top.tree.place simple (most + 1) updates is.absent (omega (arith, is.within)) in
          let more : (most + 1) * (unknown later (most + 1) + 1) ≤ (most + 1) * unknown known (most + 1) =
          mul-le-mul_left (most + 1) (omega (arith, fewer)) in
          let within = last_most most list
          (all_with W W (λ p. p.tree.place ≤ most) (λ p is also. is.within) list each_before.0 each_before.0) in
          omega (arith, more, within)
