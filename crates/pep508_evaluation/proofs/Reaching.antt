-- Trees that are reached from one, of which the one that was made last is looked at first.
use Rattle.std.proofs.Common.{◌≡◌, ◌⊎◌, ◌↔◌, inl, inr, ℕ, zero, suc, ◌+◌, ◌*◌, ◌<◌, ◌≤◌, Bool, true, false, List, []}
use Rattle.std.proofs.Common.{◌∷◌, ◌++◌, refl, sym, ap, subst, ◌∙◌, true≢false, arith, Ordering, IsTrue}
use Rattle.std.proofs.Common.{Some, drop}
use Rattle.std.specs.Prelude.{IfSome}
use Rattle.std.specs.declared.cmp.Ordering.TheVariants.{Less, Equal, Greater}
use Rattle.std.specs.List.{AllByRecursion, All, slice_get}
use Rattle.std.specs.Cmp.{ranks}
use Rattle.std.specs.Ordering.{MatchOrdering, match_ordering, ordering_then, nat_cmp, bool_cmp, is_gt}
use Rattle.std.specs.BTreeSet.{insert_key}
use Rattle.std.specs.BTreeMap.Range.{IsLtBy}
use Rattle.pep508_diagram.proofs.Places.{not_less}
use Rattle.pep508_tree.specs.Tree.{Tree, always}
use Rattle.pep508_tree.specs.Meaning.{NodeRecord, IsTree}
use Rattle.pep508_tree.specs.Nodes.{tree_cmp, AreSound}
use Rattle.pep508_tree.specs.Roots.{root_of}
use Rattle.pep508_tree.proofs.Storing.{trees_same}
use Rattle.pep508_evaluation.specs.Steps.{AsksNoExtra, GoesPast, children_of, with_trees}
use Rattle.pep508_evaluation.specs.Valuations.{CanHold}
use Rattle.pep508_evaluation.proofs.CanHold.{some_holds, some_child, always_can, child_falls}

-- ---- trees among others

abbrev pub IsAmong : Tree → List Tree → Type 0
IsAmong tree [] = ⊥
IsAmong tree (x ∷ xs) = (x ≡ tree) ⊎ IsAmong tree xs

among_inserted : (x k : Tree) (xs rest : List Tree) (o : Ordering) → tree_cmp k x ≡ o →
    ((t : Tree) → IsAmong t xs → IsAmong t rest) → (t : Tree) → IsAmong t (x ∷ xs) →
    IsAmong t (match_ordering o (k ∷ x ∷ xs) (x ∷ xs) (x ∷ rest))
among_inserted x k xs rest Less e keep t is = inr is
among_inserted x k xs rest Equal e keep t is = is
among_inserted x k xs rest Greater e keep t (inl is) = inl is
among_inserted x k xs rest Greater e keep t (inr is) = inr (keep t is)

insert_keeps : (k : Tree) (xs : List Tree) (t : Tree) → IsAmong t xs → IsAmong t (insert_key tree_cmp xs k)
insert_keeps k [] t is = absurd is
insert_keeps k (x ∷ xs) t is =
    among_inserted x k xs (insert_key tree_cmp xs k) (tree_cmp k x) refl (insert_keeps k xs) t is

has_inserted : (x k : Tree) (xs rest : List Tree) (o : Ordering) → tree_cmp k x ≡ o → IsAmong k rest →
    IsAmong k (match_ordering o (k ∷ x ∷ xs) (x ∷ xs) (x ∷ rest))
has_inserted x k xs rest Less e has = inl refl
has_inserted x k xs rest Equal e has = inl (sym (trees_same k x e))
has_inserted x k xs rest Greater e has = inr has

insert_has : (k : Tree) (xs : List Tree) → IsAmong k (insert_key tree_cmp xs k)
insert_has k [] = inl refl
insert_has k (x ∷ xs) = has_inserted x k xs (insert_key tree_cmp xs k) (tree_cmp k x) refl (insert_has k xs)

module _ (P : Tree → Type 0) where
  all_inserted : (x k : Tree) (xs rest : List Tree) (o : Ordering) → P k → AllByRecursion P (x ∷ xs) →
      AllByRecursion P rest → AllByRecursion P (match_ordering o (k ∷ x ∷ xs) (x ∷ xs) (x ∷ rest))
  all_inserted x k xs rest Less here all later = (here, all)
  all_inserted x k xs rest Equal here all later = all
  all_inserted x k xs rest Greater here all later = (all.0, later)

  insert_all : (k : Tree) (xs : List Tree) → P k → AllByRecursion P xs →
      AllByRecursion P (insert_key tree_cmp xs k)
  insert_all k [] here all = (here, tt)
  insert_all k (x ∷ xs) here all =
      all_inserted x k xs (insert_key tree_cmp xs k) (tree_cmp k x) here all (insert_all k xs here all.1)

  with_all : (ts xs : List Tree) → AllByRecursion P ts → AllByRecursion P xs →
      AllByRecursion P (with_trees xs ts)
  with_all [] xs here all = all
  with_all (t ∷ ts) xs here all = with_all ts (insert_key tree_cmp xs t) here.1 (insert_all t xs here.0 all)

with_keeps : (ts xs : List Tree) (t : Tree) → IsAmong t xs → IsAmong t (with_trees xs ts)
with_keeps [] xs t is = is
with_keeps (k ∷ ts) xs t is = with_keeps ts (insert_key tree_cmp xs k) t (insert_keeps k xs t is)

with_has : (ts xs : List Tree) (t : Tree) → IsAmong t ts → IsAmong t (with_trees xs ts)
with_has [] xs t is = absurd is
with_has (k ∷ ts) xs t (inl is) =
    with_keeps ts (insert_key tree_cmp xs k) t
    (subst (λ u. IsAmong u (insert_key tree_cmp xs k)) is (insert_has k xs))
with_has (k ∷ ts) xs t (inr is) = with_has ts (insert_key tree_cmp xs k) t is

before_last : (P : Tree → Type 0) (xs : List Tree) (e : Tree) → AllByRecursion P (xs ++ e ∷ []) →
    AllByRecursion P xs × P e
before_last P [] e all = (tt, all.0)
before_last P (x ∷ xs) e all = let later = before_last P xs e all.1 in ((all.0, later.0), later.1)

among_last : (xs : List Tree) (e t : Tree) → IsAmong t (xs ++ e ∷ []) → IsAmong t xs ⊎ (e ≡ t)
among_last [] e t (inl is) = inr is
among_last [] e t (inr is) = absurd is
among_last (x ∷ xs) e t (inl is) = inl (inl is)
among_last (x ∷ xs) e t (inr is) = elim (among_last xs e t is) [
  | inl found ↦ inl (inr found)
  | inr last ↦ inr last
]

among_of_place : (cs : List Tree) (i : ℕ) (c : Tree) → slice_get cs i ≡ Some c → IsAmong c cs
among_of_place [] i c e = absurd (cc)
among_of_place (x ∷ cs) zero c e = inl (some_same x c e)
  where
    some_same : (x y : Tree) → Some x ≡ Some y → x ≡ y
    some_same x y e = cc
among_of_place (x ∷ cs) (suc i) c e = inr (among_of_place cs i c e)

all_by_place : (P : Tree → Type 0) (cs : List Tree) →
    ((i : ℕ) (c : Tree) → slice_get cs i ≡ Some c → P c) → AllByRecursion P cs
all_by_place P [] each = tt
all_by_place P (c ∷ cs) each = (each 0 c refl, all_by_place P cs (λ i x e. each (suc i) x e))

some_same : (x y : Tree) → Some x ≡ Some y → x ≡ y
some_same x y e = cc

behind_place : (cs : List Tree) (i : ℕ) (c : Tree) → slice_get cs i ≡ Some c → drop i cs ≡ c ∷ drop (suc i) cs
behind_place [] i c e = absurd (cc)
behind_place (x ∷ cs) zero c e = ap (λ t. t ∷ cs) (some_same x c e)
behind_place (x ∷ cs) (suc i) c e = behind_place cs i c e

next_is : (n : ℕ) → suc n ≡ n + 1
next_is n = omega arith

-- what is behind a place, in turn
pub behind_next : (cs : List Tree) (i : ℕ) (c : Tree) → slice_get cs i ≡ Some c → drop i cs ≡ c ∷ drop (i + 1) cs
behind_next cs i c e = behind_place cs i c e ∙ ap (λ n. c ∷ drop n cs) (next_is i)

-- ---- the order in which trees were made, as one of numbers

abbrev pub sign : Bool → ℕ
sign true = 1
sign false = 0

abbrev pub code : Tree → ℕ
code tree = 2 * tree.place + sign tree.negated

sign_most : (b : Bool) → sign b ≤ 1
sign_most true = omega arith
sign_most false = omega arith

not_greater : Greater ≡ Less → ⊥
not_greater e = true≢false (ap is_gt e)

less_sign : (a b : Bool) → bool_cmp a b ≡ Less → sign a < sign b
less_sign true true e = absurd (not_less e)
less_sign true false e = absurd (not_greater e)
less_sign false true e = omega arith
less_sign false false e = absurd (not_less e)

less_by : (a b : Tree) (o : Ordering) → MatchOrdering o (a.place < b.place) (a.place ≡ b.place) (b.place < a.place) →
    ordering_then o (bool_cmp a.negated b.negated) ≡ Less → code a < code b
less_by a b Less rank e = let most = sign_most a.negated in omega (arith, rank, most)
less_by a b Equal rank e = let signs = less_sign a.negated b.negated e in omega (arith, rank, signs)
less_by a b Greater rank e = absurd (not_greater e)

less_code : (a b : Tree) → tree_cmp a b ≡ Less → code a < code b
less_code a b e = less_by a b (nat_cmp a.place b.place) (ranks a.place b.place) e

pub below_by_index : (bound : Tree) (xs : List Tree) → All (λ t. IsLtBy tree_cmp t bound) xs →
    AllByRecursion (λ t. code t < code bound) xs
below_by_index bound [] all = tt
below_by_index bound (x ∷ xs) all =
    let later = below_by_index bound xs (λ k d inside. all (suc k) d (omega (arith, inside))) in
    (less_code x bound (all 0 bound (omega arith)), later)

-- one more than the last of them
abbrev pub top : List Tree → ℕ
top [] = 0
top (x ∷ []) = code x + 1
top (x ∷ y ∷ xs) = top (y ∷ xs)

top_last : (xs : List Tree) (e : Tree) → top (xs ++ e ∷ []) ≡ code e + 1
top_last [] e = refl
top_last (x ∷ []) e = refl
top_last (x ∷ y ∷ xs) e = top_last (y ∷ xs) e

top_below : (xs : List Tree) (bound : ℕ) → AllByRecursion (λ t. code t < bound) xs → top xs < bound + 1
top_below [] bound all = omega arith
top_below (x ∷ []) bound all = let here = all.0 in omega (arith, here)
top_below (x ∷ y ∷ xs) bound all = top_below (y ∷ xs) bound all.1

earlier : (c e : Tree) → c.place < e.place → code c < code e
earlier c e falls = let most = sign_most c.negated in omega (arith, falls, most)

-- ---- the walk

-- trees of the interner that can hold only where the tree can, of which one can where it can
pub record AreReached (nodes : List NodeRecord) (extras : List (List ℕ)) (tree : Tree) (reached : List Tree)
    : Type 0 where
  pub made : AllByRecursion (IsTree nodes) reached
  pub only : AllByRecursion (λ t. CanHold nodes t extras → CanHold nodes tree extras) reached
  pub some : CanHold nodes tree extras → (t : Tree) × IsAmong t reached × CanHold nodes t extras

module _ (nodes : List NodeRecord) (extras : List (List ℕ)) (tree : Tree) where
  pub first_reached : IsTree nodes tree → AreReached nodes extras tree (insert_key tree_cmp [] tree)
  first_reached made = record {
    made = (made, tt);
    only = (λ can. can, tt);
    some = λ can. (tree, inl refl, can);
  }

  pub none_reached : (reached : List Tree) → reached ≡ [] → AreReached nodes extras tree reached →
      IsTrue false ↔ CanHold nodes tree extras
  none_reached reached none are = (
    λ yes. absurd (true≢false (sym yes)),
    λ can. let some = are.some can in absurd (subst (IsAmong some.0) none some.1),
  )

  module _ (whole left : List Tree) (e : Tree) (last : whole ≡ left ++ e ∷ [])
      (are : AreReached nodes extras tree whole) where
    all_made : AllByRecursion (IsTree nodes) left × IsTree nodes e
    all_made = before_last (IsTree nodes) left e (subst (AllByRecursion (IsTree nodes)) last are.made)

    all_only : AllByRecursion (λ t. CanHold nodes t extras → CanHold nodes tree extras) left
        × (CanHold nodes e extras → CanHold nodes tree extras)
    all_only =
        let P : Tree → Type 0 = λ t. CanHold nodes t extras → CanHold nodes tree extras in
        before_last P left e (subst (AllByRecursion P) last are.only)

    pub last_made : IsTree nodes e
    last_made = all_made.1

    pub last_holds : e ≡ always → IsTrue true ↔ CanHold nodes tree extras
    last_holds is = (λ yes. all_only.1 (always_can nodes extras e is), λ can. refl)

    some_on : (new : List Tree) → ((t : Tree) → IsAmong t left → IsAmong t new) →
        (CanHold nodes e extras → (t : Tree) × IsAmong t new × CanHold nodes t extras) →
        CanHold nodes tree extras → (t : Tree) × IsAmong t new × CanHold nodes t extras
    some_on new keeps here can =
        let found = are.some can in
        elim (among_last left e found.0 (subst (IsAmong found.0) last found.1)) [
          | inl is ↦ (found.0, keeps found.0 is, found.2)
          | inr is ↦ here (subst (λ t. CanHold nodes t extras) (sym is) found.2)
        ]

    pub reached_past : (child : Tree) → GoesPast nodes extras e child →
        AreReached nodes extras tree (insert_key tree_cmp left child)
    reached_past child past = record {
      made = insert_all (IsTree nodes) child left past.made all_made.0;
      only = insert_all (λ t. CanHold nodes t extras → CanHold nodes tree extras) child left
          (λ can. all_only.1 (can.0, can.1, past.same can.0 can.1 ∙ can.2)) all_only.0;
      some = some_on (insert_key tree_cmp left child) (insert_keeps child left)
          (λ can. (child, insert_has child left, (can.0, can.1, sym (past.same can.0 can.1) ∙ can.2)));
    }

    pub past_falls : AllByRecursion (λ t. code t < code e) left → (child : Tree) →
        GoesPast nodes extras e child → top (insert_key tree_cmp left child) < top whole
    past_falls below child past =
        let less = top_below (insert_key tree_cmp left child) (code e)
        (insert_all (λ t. code t < code e) child left (earlier child e past.falls) below) in
        let end = ap top last ∙ top_last left e in
        omega (arith, less, end)

    module _ (sound : AreSound nodes) (free : IfSome (root_of nodes e) AsksNoExtra) where
      abbrev pub under : List Tree
      under = children_of (root_of nodes e)

      falls : (i : ℕ) (c : Tree) → slice_get under i ≡ Some c → IsTree nodes c × (c.place < e.place)
      falls i c is = child_falls nodes sound e all_made.1 (Some c) i (sym is)

      pub reached_on : (e ≡ always → ⊥) → AreReached nodes extras tree (with_trees left under)
      reached_on other = record {
        made = with_all (IsTree nodes) under left
            (all_by_place (IsTree nodes) under (λ i c is. (falls i c is).0)) all_made.0;
        only = with_all (λ t. CanHold nodes t extras → CanHold nodes tree extras) under left
            (all_by_place (λ t. CanHold nodes t extras → CanHold nodes tree extras) under
            (λ i c is can. all_only.1 (some_holds nodes sound e all_made.1 extras free i c is can))) all_only.0;
        some = some_on (with_trees left under) (with_keeps under left) (λ can.
            let child = some_child nodes sound e all_made.1 extras free can other in
            (child.0, with_has under left child.0 (among_of_place under child.1.0 child.0 child.1.2), child.2));
      }

      pub left_falls : AllByRecursion (λ t. code t < code e) left → top (with_trees left under) < top whole
      left_falls below =
          let less = top_below (with_trees left under) (code e)
          (with_all (λ t. code t < code e) under left
          (all_by_place (λ t. code t < code e) under (λ i c is. earlier c e (falls i c is).1)) below) in
          let end = ap top last ∙ top_last left e in
          omega (arith, less, end)
