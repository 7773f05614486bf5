-- A walk over pairs of trees whose conjunctions wait for those of the pairs that stand in them.
use Rattle.std.proofs.Common.{◌≡◌, ℕ, zero, suc, ◌+◌, ◌*◌, ◌<◌, ◌≤◌, Bool, true, false, cond, List, [], ◌∷◌}
use Rattle.std.proofs.Common.{◌++◌, length, length-append, get_or, take, refl, ap, sym, subst, ◌∙◌, arith}
use Rattle.std.proofs.Common.{Some, None, IfSome}
use Rattle.std.proofs.lemmas.List.{take_more, take_all}
use Rattle.std.proofs.Math.Nat.{mul-le-mul_left}
use Rattle.std.specs.declared.cmp.Ordering.TheVariants.{Less}
use Rattle.std.specs.BTreeMap.{BTreeMap, get, Updates}
use Rattle.std.specs.Cmp.{nat_cmp_is}
use Rattle.std.specs.List.{AllByRecursion}
use Rattle.std.specs.Map.{lookup}
use Rattle.std.specs.Ordering.{is_eq, nat_cmp, ordering_then}
use Rattle.version_ranges.specs.HashingLaws.{then_equal}
use Rattle.pep508_tree.specs.declared.tree_pair.TreePair.{TreePair}
use Rattle.pep508_tree.specs.declared.conjunction_walk.Pending.{Pending}
use Rattle.pep508_tree.specs.Tree.{Tree}
use Rattle.pep508_tree.specs.Meaning.{NodeOf, NodeRecord, IsTree, Extends}
use Rattle.pep508_tree.specs.Forms.{record_of}
use Rattle.pep508_tree.specs.Nodes.{AllChildren, Above, Splits, Made, chosen, node_place, tree_cmp, turned}
use Rattle.pep508_tree.specs.Joining.{children, node_joined}
use Rattle.pep508_tree.specs.PairOrder.{pair_cmp, places}
use Rattle.pep508_tree.specs.Conjunctions.{Conjunction, ArePairs, Meet}
use Rattle.pep508_tree.specs.Known.{IsKnown, AreKnown}
use Rattle.pep508_tree.specs.Pending.{IsPending}
use Rattle.pep508_tree.proofs.Conjoining.{extends_on, tree_kept, above_back, conjunction_earlier}
use Rattle.pep508_tree.proofs.Conjoining.{conjunction_later, conjunction_now, meet_push, meet_weaker}
use Rattle.pep508_tree.proofs.Conjoining.{meet_with, children_list, made_children, above_children}
use Rattle.pep508_tree.proofs.Conjoining.{conjunction_made}
use Rattle.pep508_tree.proofs.Counting.{unknown, unknown_less}
use Rattle.pep508_tree.proofs.Diagrams.{holds_kept}
use Rattle.pep508_tree.proofs.Meanings.{chosen_all}
use Rattle.pep508_tree.proofs.NodeChildren.{weaker_children, both_children}
use Rattle.pep508_tree.proofs.Splitting.{equal_of}
use Rattle.pep508_tree.proofs.Storing.{above_kept, trees_same}

-- ---- what waits, while nodes are added

abbrev AreMade : List NodeRecord → Tree × Tree → Type 0
AreMade nodes pair = IsTree nodes pair.0 × IsTree nodes pair.1

module _ (old new : List NodeRecord) (e : Extends old new) where
  splits_kept : (a b : Tree) (pairs : NodeOf (Tree × Tree)) → IsTree old a → IsTree old b →
      Splits old a b pairs → Splits new a b pairs
  splits_kept a b pairs made other s =
      let place = node_place pairs in
      let behind = λ (p : Tree × Tree). Above old place p.0 × Above old place p.1 in
      record {
        rises = s.rises;
        made = weaker_children (AreMade old) (AreMade new)
            (λ p is. (tree_kept old new e p.0 is.0, tree_kept old new e p.1 is.1)) pairs s.made;
        falls = s.falls;
        above = weaker_children (λ p. AreMade old p × behind p)
            (λ p. Above new place p.0 × Above new place p.1)
            (λ p is. (
              above_kept old new e place p.0 is.0.0 is.1.0,
              above_kept old new e place p.1 is.0.1 is.1.1,
            ))
            pairs
            (both_children (AreMade old) behind pairs s.made s.above);
        first_is = λ v.
            holds_kept old new e a made v ∙ s.first_is v
            ∙ sym (holds_kept old new e (turned a.negated (chosen pairs v).0)
            (chosen_all (AreMade old) pairs v s.made).0 v);
        second_is = λ v.
            holds_kept old new e b other v ∙ s.second_is v
            ∙ sym (holds_kept old new e (turned b.negated (chosen pairs v).1)
            (chosen_all (AreMade old) pairs v s.made).1 v);
        first = λ p above other_above.
            s.first p (above_back old new e p a made above) (above_back old new e p b other other_above);
      }

  met_kept : (a b : Tree) (pairs : List (Tree × Tree)) (trees : List Tree) →
      AllByRecursion (AreMade old) pairs → Meet (ArePairs old old a b) pairs trees →
      Meet (ArePairs new new a b) pairs trees
  met_kept a b pairs trees made met =
      meet_weaker (λ p t. AreMade old p × ArePairs old old a b p t) (ArePairs new new a b)
      (λ p t is.
      conjunction_now old new (turned a.negated p.0) (turned b.negated p.1) t e is.0.0 is.0.1
      (conjunction_later old old new (turned a.negated p.0) (turned b.negated p.1) t e is.1))
      pairs trees (meet_with (AreMade old) (ArePairs old old a b) pairs trees made met)

all_taken : {C : Type 0} (P : C → Type 0) (n : ℕ) (xs : List C) → AllByRecursion P xs →
    AllByRecursion P (take n xs)
all_taken P zero xs all = tt
all_taken P (suc n) [] all = tt
all_taken P (suc n) (x ∷ xs) all = (all.0, all_taken P n xs all.1)

pending_kept : (old new : List NodeRecord) → Extends old new → (p : Pending) → IsPending old p →
    IsPending new p
pending_kept old new e p is = record {
  first = tree_kept old new e p.asked.first is.first;
  second = tree_kept old new e p.asked.second is.second;
  splits = splits_kept old new e p.asked.first p.asked.second (record_of p.pairs) is.first is.second
      is.splits;
  children_are = is.children_are;
  met = met_kept old new e p.asked.first p.asked.second (take (length p.trees.items) p.children.items)
      p.trees.items
      (all_taken (AreMade old) (length p.trees.items) p.children.items
      (subst (AllByRecursion (AreMade old)) (sym is.children_are)
      (children_list (AreMade old) (record_of p.pairs) is.splits.made)))
      is.met;
}

-- what holds of all pairs that stand in the two trees
pub pending_all : (P : Tree × Tree → Type 0) (nodes : List NodeRecord) (p : Pending) (pairs : List (Tree × Tree)) →
    IsPending nodes p → pairs ≡ p.children.items → AllChildren P (record_of p.pairs) → AllByRecursion P pairs
pending_all P nodes p pairs is e all =
    subst (AllByRecursion P) (sym (e ∙ is.children_are)) (children_list P (record_of p.pairs) all)

-- ---- one more conjunction is there

pub met_more : (nodes : List NodeRecord) (a b : Tree) (pairs : List (Tree × Tree)) (trees more : List Tree)
    (i : ℕ) (pair : Tree × Tree) (t : Tree) → i ≡ length trees →
    Meet (ArePairs nodes nodes a b) (take (length trees) pairs) trees → i < length pairs →
    pair ≡ get_or pairs i pair → ArePairs nodes nodes a b pair t → more ≡ trees ++ t ∷ [] →
    (i + 1 ≡ length more) × Meet (ArePairs nodes nodes a b) (take (length more) pairs) more
met_more nodes a b pairs trees more i pair t e met inside is here pushed =
    let count : length more ≡ i + 1 = omega (arith, ap length pushed, length-append trees (t ∷ [])) in
    let longer : take (length more) pairs ≡ take i pairs ++ pair ∷ [] =
    ap (λ n. take n pairs) count ∙ take_more pairs i pair inside ∙ ap (λ p. take i pairs ++ p ∷ []) (sym is) in (
      sym count,
      subst (λ xs. Meet (ArePairs nodes nodes a b) xs more) (sym longer)
          (subst (Meet (ArePairs nodes nodes a b) (take i pairs ++ pair ∷ [])) (sym pushed)
          (meet_push (ArePairs nodes nodes a b) (take i pairs) trees pair t
          (subst (λ n. Meet (ArePairs nodes nodes a b) (take n pairs) trees) (sym e) met) here)),
    )

pub met_all : (nodes : List NodeRecord) (p : Pending) → IsPending nodes p →
    length p.children.items ≤ length p.trees.items →
    Meet (ArePairs nodes nodes p.asked.first p.asked.second) (children (record_of p.pairs)) p.trees.items
met_all nodes p is all =
    subst (λ xs. Meet (ArePairs nodes nodes p.asked.first p.asked.second) xs p.trees.items)
    (take_all (length p.trees.items) p.children.items all ∙ is.children_are) is.met

-- ---- lists that grow and shrink at their ends

module _ {C : Type 0} (P : C → Type 0) where
  all_before : (xs : List C) (x : C) → AllByRecursion P (xs ++ x ∷ []) → AllByRecursion P xs × P x
  all_before [] x all = (tt, all.0)
  all_before (y ∷ xs) x all = let later = all_before xs x all.1 in ((all.0, later.0), later.1)

  all_behind : (xs : List C) (x : C) → AllByRecursion P xs → P x → AllByRecursion P (xs ++ x ∷ [])
  all_behind [] x all one = (one, tt)
  all_behind (y ∷ xs) x all one = (all.0, all_behind xs x all.1 one)

all_with : {C : Type 0} (P Q R : C → Type 0) → ((x : C) → P x → Q x → R x) → (xs : List C) →
    AllByRecursion P xs → AllByRecursion Q xs → AllByRecursion R xs
all_with P Q R so [] p q = tt
all_with P Q R so (x ∷ xs) p q = (so x p.0 q.0, all_with P Q R so xs p.1 q.1)

-- ---- what waits

-- the pairs that wait, each of lesser places than those before it
abbrev pub Falling : List Pending → Type 0
Falling [] = Unit {0}
Falling (p ∷ list) = AllByRecursion (λ q. places q.asked < places p.asked) list × Falling list

falling_before : (list : List Pending) (p : Pending) → Falling (list ++ p ∷ []) →
    Falling list × AllByRecursion (λ q. places p.asked < places q.asked) list
falling_before [] p falls = (tt, tt)
falling_before (q ∷ list) p falls =
    let here = all_before (λ r. places r.asked < places q.asked) list p falls.0 in
    let later = falling_before list p falls.1 in ((here.0, later.0), (here.1, later.1))

falling_behind : (list : List Pending) (p : Pending) → Falling list →
    AllByRecursion (λ q. places p.asked < places q.asked) list → Falling (list ++ p ∷ [])
falling_behind [] p falls above = (tt, tt)
falling_behind (q ∷ list) p falls above = (
  all_behind (λ r. places r.asked < places q.asked) list p falls.0 above.0,
  falling_behind list p falls.1 above.1,
)

-- the first of those that wait is what was asked, whose conjunction is there once nothing waits
abbrev pub BeginsWith : List NodeRecord → TreePair → Tree → List Pending → Type 0
BeginsWith nodes asked last [] = Conjunction nodes nodes asked.first asked.second last
BeginsWith nodes asked last (p ∷ list) = p.asked ≡ asked

begins_on : (nodes : List NodeRecord) (asked : TreePair) (last : Tree) (list : List Pending) (p q r : Pending) →
    q.asked ≡ p.asked → BeginsWith nodes asked last (list ++ p ∷ []) →
    BeginsWith nodes asked last ((list ++ q ∷ []) ++ r ∷ [])
begins_on nodes asked last [] p q r same begins = same ∙ begins
begins_on nodes asked last (s ∷ list) p q r same begins = begins

begins_later : (nodes new : List NodeRecord) (asked : TreePair) (last tree : Tree) (list : List Pending)
    (p : Pending) → Conjunction new new p.asked.first p.asked.second tree →
    BeginsWith nodes asked last (list ++ p ∷ []) → BeginsWith new asked tree list
begins_later nodes new asked last tree [] p made begins =
    subst (λ (pair : TreePair). Conjunction new new pair.first pair.second tree) begins made
begins_later nodes new asked last tree (q ∷ list) p made begins = begins

-- one that waits: its pair isn't known, and is of no greater places than what was asked
pub record IsWaiting (nodes : List NodeRecord) (known : BTreeMap TreePair Tree) (most : ℕ) (p : Pending)
    : Type 0 where
  pub pending : IsPending nodes p
  pub absent : get pair_cmp known p.asked ≡ None
  pub within : places p.asked ≤ most

-- where a walk stands: nodes were only added, and what is remembered is so
pub record IsWalk (old now : List NodeRecord) (known : BTreeMap TreePair Tree) (asked : TreePair)
    (waiting : List Pending) (last : Tree) : Type 0 where
  pub keeps : Extends old now
  pub all_known : AreKnown now known
  pub each : AllByRecursion (IsWaiting now known (places asked)) waiting
  pub falls : Falling waiting
  pub begins : BeginsWith now asked last waiting

pub walk_ended : (old now : List NodeRecord) (known : BTreeMap TreePair Tree) (asked : TreePair)
    (list : List Pending) (last : Tree) → IsWalk old now known asked list last → length list ≡ 0 →
    IsTree old asked.first → IsTree old asked.second → Conjunction old now asked.first asked.second last
walk_ended old now known asked [] last walk none made other =
    conjunction_earlier old now now asked.first asked.second last walk.keeps made other walk.begins
walk_ended old now known asked (p ∷ list) last walk none made other = absurd (omega arith)

-- ---- how the walk goes on

less_places : (a b : TreePair) → places a < places b → pair_cmp a b ≡ Less
less_places a b less =
    ap (λ o. ordering_then o (ordering_then (tree_cmp a.first b.first) (tree_cmp a.second b.second)))
    (sym (nat_cmp_is (places a) (places b) Less less))

-- the work that is left: the pairs that aren't known, and then the places of the last that waits
last_places : List Pending → ℕ
last_places [] = 0
last_places (p ∷ []) = places p.asked
last_places (p ∷ q ∷ list) = last_places (q ∷ list)

pub work : ℕ → BTreeMap TreePair Tree → List Pending → ℕ
work most known waiting = (most + 1) * unknown known (most + 1) + last_places waiting

last_is : (list : List Pending) (p : Pending) → last_places (list ++ p ∷ []) ≡ places p.asked
unfolding last_places
last_is [] p = refl
last_is (q ∷ []) p = refl
last_is (q ∷ r ∷ list) p = last_is (r ∷ list) p

last_most : (most : ℕ) (list : List Pending) → AllByRecursion (λ p. places p.asked ≤ most) list →
    last_places list ≤ most
unfolding last_places
last_most most [] all = omega arith
last_most most (p ∷ []) all = all.0
last_most most (p ∷ q ∷ list) all = last_most most (q ∷ list) all.1

module _ (old now : List NodeRecord) (known : BTreeMap TreePair Tree) (asked : TreePair)
    (whole list : List Pending) (last : Tree) (top : Pending) (e : whole ≡ list ++ top ∷ [])
    (walk : IsWalk old now known asked whole last) where
  each_before : AllByRecursion (IsWaiting now known (places asked)) list
      × IsWaiting now known (places asked) top
  each_before =
      all_before (IsWaiting now known (places asked)) list top
      (subst (AllByRecursion (IsWaiting now known (places asked))) e walk.each)

  falls_before : Falling list × AllByRecursion (λ p. places top.asked < places p.asked) list
  falls_before = falling_before list top (subst Falling e walk.falls)

  pub top_pending : IsPending now top
  top_pending = each_before.1.pending

  -- a pair that stands in the last is put behind it
  module _ (again below : Pending) (new : List Pending) (pushed : new ≡ (list ++ again ∷ []) ++ below ∷ [])
      (same : again.asked ≡ top.asked) (less : places below.asked < places top.asked) where
    pub walk_down : IsPending now again → IsPending now below → get pair_cmp known below.asked ≡ None →
        IsWalk old now known asked new last
    walk_down pending below_pending absent =
        let is = each_before.1 in
        let higher = ap places same in
        subst (λ xs. IsWalk old now known asked xs last) (sym pushed) (record {
          keeps = walk.keeps;
          all_known = walk.all_known;
          each = all_behind (IsWaiting now known (places asked)) (list ++ again ∷ []) below
              (all_behind (IsWaiting now known (places asked)) list again each_before.0 (record {
                pending = pending;
                absent = subst (λ pair. get pair_cmp known pair ≡ None) (sym same) is.absent;
                within = omega (arith, is.within, higher);
              }))
              (record {
                pending = below_pending;
                absent = absent;
                within = omega (arith, is.within, less);
              });
          falls = falling_behind (list ++ again ∷ []) below
              (falling_behind list again falls_before.0
              (all_with (λ p. places top.asked < places p.asked) (λ p. places top.asked < places p.asked)
              (λ p. places again.asked < places p.asked) (λ p is also. omega (arith, is, higher)) list
              falls_before.1 falls_before.1))
              (all_behind (λ p. places below.asked < places p.asked) list again
              (all_with (λ p. places top.asked < places p.asked) (λ p. places top.asked < places p.asked)
              (λ p. places below.asked < places p.asked) (λ p is also. omega (arith, is, less)) list
              falls_before.1 falls_before.1)
              (omega (arith, higher, less)));
          begins = begins_on now asked last list top again below same
              (subst (BeginsWith now asked last) e walk.begins);
        })

    pub work_down : work (places asked) known new < work (places asked) known whole
    unfolding work
    work_down =
        let lower = ap last_places pushed ∙ last_is (list ++ again ∷ []) below in
        let upper = ap last_places e ∙ last_is list top in
        omega (arith, lower, upper, less)

  -- the conjunction of the last is there, and is remembered
  module _ (new : List NodeRecord) (later : BTreeMap TreePair Tree) (tree : Tree)
      (updates : Updates pair_cmp known later top.asked (Some tree)) where
    still : (keeps : Extends now new) (p : Pending) → IsWaiting now known (places asked) p →
        places top.asked < places p.asked → IsWaiting new later (places asked) p
    still keeps p is less = record {
      pending = pending_kept now new keeps p is.pending;
      absent = updates.2 p.asked (ap is_eq (less_places top.asked p.asked less)) ∙ is.absent;
      within = is.within;
    }

    pub walk_up : Extends now new → AreKnown new later →
        Conjunction new new top.asked.first top.asked.second tree → IsWalk old new later asked list tree
    walk_up keeps all made = record {
      keeps = extends_on old now new walk.keeps keeps;
      all_known = all;
      each = all_with (IsWaiting now known (places asked)) (λ p. places top.asked < places p.asked)
          (IsWaiting new later (places asked)) (still keeps) list each_before.0 falls_before.1;
      falls = falls_before.0;
      begins = begins_later now new asked last tree list top made
          (subst (BeginsWith now asked last) e walk.begins);
    }

    pub work_up : work (places asked) later list < work (places asked) known whole
    unfolding work
    work_up =
        let most = places asked in
        let is = each_before.1 in
        let fewer : unknown later (most + 1) < unknown known (most + 1) =
        unknown_less known later top.asked tree (most + 1) updates is.absent (omega (arith, is.within))
        (omega (arith, is.within)) in
        let more : (most + 1) * (unknown later (most + 1) + 1) ≤ (most + 1) * unknown known (most + 1) =
        mul-le-mul_left (most + 1) (omega (arith, fewer)) in
        let within = last_most most list
        (all_with (IsWaiting now known most) (IsWaiting now known most) (λ p. places p.asked ≤ most)
        (λ p is also. is.within) list each_before.0 each_before.0) in
        omega (arith, more, within)

-- ---- the conjunction that is there, and what is remembered

module _ (nodes : List NodeRecord) (p : Pending) (is : IsPending nodes p)
    (all : length p.children.items ≤ length p.trees.items) where
  abbrev pub node_of : NodeRecord
  node_of = node_joined (record_of p.pairs) p.trees.items

  pub node_made : AllChildren (IsTree nodes) node_of
  node_made =
      made_children nodes nodes p.asked.first p.asked.second (record_of p.pairs) p.trees.items is.splits
      (met_all nodes p is all)

  pub node_above : AllChildren (Above nodes (node_place node_of)) node_of
  node_above =
      above_children nodes nodes p.asked.first p.asked.second (record_of p.pairs) p.trees.items is.splits
      (met_all nodes p is all)

  pub tree_made : (new : List NodeRecord) (tree : Tree) → Extends nodes new → Made nodes new node_of tree →
      Conjunction new new p.asked.first p.asked.second tree
  tree_made new tree keeps made =
      conjunction_now nodes new p.asked.first p.asked.second tree keeps is.first is.second
      (conjunction_made nodes nodes p.asked.first p.asked.second (record_of p.pairs) p.trees.items is.splits
      (met_all nodes p is all) new tree made)

pub known_same : (nodes : List NodeRecord) (old new : BTreeMap TreePair Tree) → new.entries ≡ old.entries →
    AreKnown nodes old → AreKnown nodes new
known_same nodes old new e all pair =
    subst (λ (es : List (TreePair × Tree)).
    IfSome (lookup (λ q. is_eq (pair_cmp pair q)) es) (λ tree. IsKnown nodes pair tree)) (sym e) (all pair)

same_pair : (a b : TreePair) → is_eq (pair_cmp a b) ≡ true → a ≡ b
same_pair a b e =
    let trees = ordering_then (tree_cmp a.first b.first) (tree_cmp a.second b.second) in
    let parts = then_equal (nat_cmp (places a) (places b)) trees (equal_of (pair_cmp a b) e) in
    let both = then_equal (tree_cmp a.first b.first) (tree_cmp a.second b.second) parts.1 in
    let one = trees_same a.first b.first both.0 in
    let other = trees_same a.second b.second both.1 in
    λ i. record { first = one i; second = other i }

pub known_more : (nodes : List NodeRecord) (old new : BTreeMap TreePair Tree) (asked : TreePair) (tree : Tree) →
    Updates pair_cmp old new asked (Some tree) → AreKnown nodes old → IsKnown nodes asked tree →
    AreKnown nodes new
known_more nodes old new asked tree updates all is pair =
    subst (λ answer. IfSome answer (λ t. IsKnown nodes pair t)) (sym (updates.0 pair))
    (by_sign (is_eq (pair_cmp asked pair)) refl)
  where
    by_sign : (same : Bool) → is_eq (pair_cmp asked pair) ≡ same →
        IfSome (cond same (Some tree) (get pair_cmp old pair)) (λ t. IsKnown nodes pair t)
    by_sign true e = subst (λ p. IsKnown nodes p tree) (same_pair asked pair e) is
    by_sign false e = all pair
