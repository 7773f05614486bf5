-- Trees in another order.
use Rattle.std.proofs.Common.{◌≡◌, ◌∙◌, ℕ, ◌+◌, ◌==◌, Bool, true, false, if◌then◌else◌, ◌&&◌, List, [], ◌∷◌}
use Rattle.std.proofs.Common.{◌++◌, map, length, refl, ap, sym, subst, arith}
use Rattle.std.specs.Prelude.{sum_by, fold, IsPermutation}
use Rattle.std.proofs.lemmas.Bool.Decides.{nat_tests}
use Rattle.std.specs.List.{AllByRecursion}
use Rattle.std.proofs.lemmas.List.Sorted.{IsPermutation-map, sum_by-IsPermutation, All-permutation}
use Rattle.std.proofs.lemmas.List.Elements.{All-from_recursion, recursion_from_All}
use Rattle.version_ranges.specs.Turns.{flips}
use Rattle.pep508_diagram.specs.Question.{Valuation}
use Rattle.pep508_tree.specs.Tree.{Tree, always}
use Rattle.pep508_tree.specs.Meaning.{NodeRecord, IsTree, Extends, holds}
use Rattle.pep508_tree.specs.Nodes.{turned}
use Rattle.pep508_tree.proofs.Disjoint.{always_holds}
use Rattle.pep508_tree.proofs.Diagrams.{holds_kept}
use Rattle.pep508_tree.proofs.Meanings.{holds_turned}
use Rattle.pep508_conjunctions.specs.declared.variable_order.Placed.{Placed}
use Rattle.pep508_conjunctions.specs.Meets.{all_true}
use Rattle.pep508_conjunctions.specs.Sources.{all_hold}
use Rattle.pep508_conjunctions.specs.Orders.{indexed}
use Rattle.pep508_conjunctions.proofs.Meets.{all_append, mapped, and_true}

abbrev missing : Bool → ℕ
missing b = if b then 0 else 1

-- nothing is missing from all
counted : (b : Bool) (n : ℕ) → (b && (n == 0)) ≡ ((n + missing b) == 0)
counted true n = ap (λ m. m == 0) (let e : n ≡ n + 0 = omega arith in e)
counted false n = grind (arith, nat_tests)

all_counted : (n : ℕ) → (true && (n == 0)) ≡ (n == 0)
all_counted n = refl

-- how many are missing, and so many before
abbrev lacking : {A : Type 0} → (A → Bool) → ℕ → List A → ℕ
lacking f n [] = n
lacking f n (x ∷ xs) = lacking f (n + missing (f x)) xs

none_lacking : {A : Type 0} (f : A → Bool) (n : ℕ) (xs : List A)
    → ((n == 0) && all_true (map f xs)) ≡ (lacking f n xs == 0)
none_lacking f n [] = and_true (n == 0)
none_lacking f n (x ∷ xs) =
    turned (n == 0) (f x) (all_true (map f xs))
    ∙ ap (λ b. b && all_true (map f xs)) (counted (f x) n)
    ∙ none_lacking f (n + missing (f x)) xs
  where
    turned : (a b c : Bool) → (a && (b && c)) ≡ ((b && a) && c)
    turned true true c = refl
    turned true false c = refl
    turned false true c = refl
    turned false false c = refl

lacking_sum : {A : Type 0} (f : A → Bool) (n : ℕ) (xs : List A)
    → fold (λ m x. m + missing (f x)) n xs ≡ lacking f n xs
lacking_sum f n [] = refl
lacking_sum f n (x ∷ xs) = lacking_sum f (n + missing (f x)) xs

-- all are true where none is missing
none_missing : {A : Type 0} (f : A → Bool) (xs : List A)
    → all_true (map f xs) ≡ (sum_by (λ x. missing (f x)) xs == 0)
none_missing f xs = none_lacking f 0 xs ∙ sym (ap (λ n. n == 0) (lacking_sum f 0 xs))

all_moved : {A : Type 0} (f : A → Bool) (xs ys : List A) → IsPermutation xs ys
    → all_true (map f ys) ≡ all_true (map f xs)
all_moved f xs ys h =
    none_missing f ys
    ∙ ap (λ n. n == 0) (sum_by-IsPermutation (λ x. missing (f x)) xs ys h)
    ∙ sym (none_missing f xs)

pub moved_hold : (nodes : List NodeRecord) (negated : Bool) (trees moved : List Tree) → IsPermutation trees moved
    → (v : Valuation) → all_hold nodes negated moved v ≡ all_hold nodes negated trees v
moved_hold nodes negated trees moved h v = all_moved (λ t. flips negated (holds nodes t v)) trees moved h

pub moved_made : (nodes : List NodeRecord) (trees moved : List Tree) → IsPermutation trees moved
    → AllByRecursion (IsTree nodes) trees → AllByRecursion (IsTree nodes) moved
moved_made nodes trees moved h k =
    recursion_from_All (IsTree nodes) moved
    (All-permutation (IsTree nodes) trees moved h (All-from_recursion (IsTree nodes) trees k))

pub trees_moved : (trees sorted : List Tree) (all moved : List Placed) → map (indexed trees) all ≡ trees
    → IsPermutation all moved → sorted ≡ map (indexed trees) moved → IsPermutation trees sorted
trees_moved trees sorted all moved e h s =
    subst (IsPermutation trees) (sym s)
    (subst (λ ts. IsPermutation ts (map (indexed trees) moved)) e (IsPermutation-map (indexed trees) all moved h))

-- ---- from behind

in_place : (t w f : Bool) → ((t && w) && f) ≡ (w && (f && (t && true)))
in_place true true true = refl
in_place true true false = refl
in_place true false f = refl
in_place false true true = refl
in_place false true false = refl
in_place false false f = refl

pub none_behind : (nodes : List NodeRecord) (all : Bool) (v : Valuation) → (holds nodes always v && all) ≡ all
none_behind nodes all v = ap (λ b. b && all) (always_holds nodes v)

-- one more tree is joined with those behind it
pub one_more : (nodes now new : List NodeRecord) → Extends nodes now → (negated : Bool) (front left : List Tree)
    (last : Tree) → left ≡ front ++ last ∷ [] → IsTree nodes last → (whole next : Tree) (v : Valuation)
    → holds new next v ≡ (holds now (turned negated last) v && holds now whole v) → (all : Bool)
    → (holds now whole v && all_hold nodes negated left v) ≡ all
    → (holds new next v && all_hold nodes negated front v) ≡ all
one_more nodes now new more negated front left last split made whole next v both all h =
    let f : Tree → Bool = λ t. flips negated (holds nodes t v) in
    let here : holds now (turned negated last) v ≡ f last =
    holds_turned now negated last v ∙ ap (flips negated) (holds_kept nodes now more last made v) in
    let parts : all_hold nodes negated left v ≡ (all_hold nodes negated front v && (f last && true)) =
    ap (λ ts. all_hold nodes negated ts v) split ∙ ap all_true (mapped f front (last ∷ []))
    ∙ all_append (map f front) (map f (last ∷ [])) in
    ap (λ b. b && all_hold nodes negated front v) (both ∙ ap (λ b. b && holds now whole v) here)
    ∙ in_place (f last) (holds now whole v) (all_hold nodes negated front v)
    ∙ sym (ap (λ b. holds now whole v && b) parts) ∙ h

pub all_joined : (nodes now : List NodeRecord) (negated : Bool) (left : List Tree) → length left ≡ 0 → (whole : Tree)
    (v : Valuation) (all : Bool) → (holds now whole v && all_hold nodes negated left v) ≡ all → holds now whole v ≡ all
all_joined nodes now negated [] none whole v all h = sym (and_true (holds now whole v)) ∙ h
all_joined nodes now negated (t ∷ left) none whole v all h = absurd (omega (arith, none))

front_of : (P : Tree → Type 0) (front : List Tree) (last : Tree) → AllByRecursion P (front ++ last ∷ [])
    → AllByRecursion P front × P last
front_of P [] last h = (tt, h.0)
front_of P (t ∷ front) last h = (let rest = front_of P front last h.1 in ((h.0, rest.0), rest.1))

pub front_made_of : (nodes : List NodeRecord) (front left : List Tree) (last : Tree) → left ≡ front ++ last ∷ []
    → AllByRecursion (IsTree nodes) left → AllByRecursion (IsTree nodes) front × IsTree nodes last
front_made_of nodes front left last split h =
    front_of (IsTree nodes) front last (subst (AllByRecursion (IsTree nodes)) split h)
