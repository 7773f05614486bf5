-- The places of candidates of which a range doesn't tell rise, and each such candidate's is among them.
use Rattle.std.proofs.Common.{◌≡◌, ◌∙◌, ◌<◌, ◌≤◌, ◌+◌, ◌++◌, ℕ, zero, suc, nat_lt, Bool, true, false, cond}
use Rattle.std.proofs.Common.{List, [], ◌∷◌, length, take, get_or, leb, refl, sym, ap, subst, true≢false}
use Rattle.std.proofs.Common.{arith, append-nil}
use Rattle.std.proofs.lemmas.Bool.Decides.{nat_tests}
use Rattle.std.proofs.lemmas.List.{take_more, length-take}
use Rattle.std.specs.List.{AllByRecursion}
use Rattle.std.specs.List.Sorted.{IsNonDecreasing, IsPartitionPoint}
use Rattle.reqtable_candidates.specs.declared.ordered.Placed.{Placed}
use Rattle.reqtable_search.specs.Told.{is_told}
use Rattle.reqtable_search.specs.InRun.{version_of, untold_from}

-- ---- they rise

abbrev AreFrom : ℕ → List ℕ → Type 0
AreFrom m places = (j d : ℕ) → j < length places → m ≤ get_or places j d

from_by : (t : Bool) (m n : ℕ) (places : List ℕ) → m ≤ n → AreFrom m places → AreFrom m (cond t places (n ∷ places))
from_by true m n places le h j d l = h j d l
from_by false m n places le h zero d l = le
from_by false m n places le h (suc j) d l = h j d (omega arith)

are_from : (bounded : Bool) (m n : ℕ) (xs : List Placed) → m ≤ n → AreFrom m (untold_from bounded n xs)
are_from bounded m n [] le = λ j d l. absurd (omega arith)
are_from bounded m n (x ∷ xs) le =
    from_by (is_told bounded (version_of x)) m n (untold_from bounded (suc n) xs) le
    (are_from bounded m (suc n) xs (omega arith))

rise_by : (t : Bool) (n : ℕ) (places : List ℕ) → AreFrom (suc n) places → IsNonDecreasing places →
    IsNonDecreasing (cond t places (n ∷ places))
rise_by true n places low h i j d le l = h i j d le l
rise_by false n places low h zero zero d le l = omega arith
rise_by false n places low h zero (suc j) d le l = let far = low j d (omega arith) in omega arith
rise_by false n places low h (suc i) zero d le l = absurd (omega arith)
rise_by false n places low h (suc i) (suc j) d le l = h i j d (omega arith) (omega arith)

pub places_rise : (bounded : Bool) (n : ℕ) (xs : List Placed) → IsNonDecreasing (untold_from bounded n xs)
places_rise bounded n [] = λ i j d le l. absurd (omega arith)
places_rise bounded n (x ∷ xs) =
    rise_by (is_told bounded (version_of x)) n (untold_from bounded (suc n) xs)
    (are_from bounded (suc n) (suc n) xs (omega arith)) (places_rise bounded (suc n) xs)

-- ---- each is there

here_by : (P : ℕ → Type 0) (t : Bool) (n : ℕ) (places : List ℕ) → t ≡ false →
    AllByRecursion P (cond t places (n ∷ places)) → P n
here_by P true n places e all = absurd (true≢false e)
here_by P false n places e all = all.0

later_by : (P : ℕ → Type 0) (t : Bool) (n : ℕ) (places : List ℕ) → AllByRecursion P (cond t places (n ∷ places)) →
    AllByRecursion P places
later_by P true n places all = all
later_by P false n places all = all.1

pub untold_there : (P : ℕ → Type 0) (bounded : Bool) (n : ℕ) (xs : List Placed) (k : ℕ) (d : Placed) → k < length xs →
    is_told bounded (version_of (get_or xs k d)) ≡ false → AllByRecursion P (untold_from bounded n xs) → P (n + k)
untold_there P bounded n [] k d l e all = absurd (omega arith)
untold_there P bounded n (x ∷ xs) zero d l e all =
    let at : n ≡ n + 0 = omega arith in
    subst P at (here_by P (is_told bounded (version_of x)) n (untold_from bounded (suc n) xs) e all)
untold_there P bounded n (x ∷ xs) (suc k) d l e all =
    let at : suc n + k ≡ n + suc k = omega arith in
    subst P at (untold_there P bounded (suc n) xs k d (omega arith) e
    (later_by P (is_told bounded (version_of x)) n (untold_from bounded (suc n) xs) all))

-- ---- one more

-- none where a range tells of it, else it
abbrev added : Bool → ℕ → List ℕ
added true n = []
added false n = n ∷ []

joined_by : (t : Bool) (n : ℕ) (front back : List ℕ) →
    cond t (front ++ back) (n ∷ front ++ back) ≡ cond t front (n ∷ front) ++ back
joined_by true n front back = refl
joined_by false n front back = refl

joined : (bounded : Bool) (n : ℕ) (xs ys : List Placed) →
    untold_from bounded n (xs ++ ys) ≡ untold_from bounded n xs ++ untold_from bounded (n + length xs) ys
joined bounded n [] ys = let at : n ≡ n + 0 = omega arith in ap (λ m. untold_from bounded m ys) at
joined bounded n (x ∷ xs) ys =
    let t = is_told bounded (version_of x) in
    let at : suc n + length xs ≡ n + suc (length xs) = omega arith in
    ap (λ places. cond t places (n ∷ places)) (joined bounded (suc n) xs ys)
    ∙ joined_by t n (untold_from bounded (suc n) xs) (untold_from bounded (suc n + length xs) ys)
    ∙ ap (λ m. untold_from bounded n (x ∷ xs) ++ untold_from bounded m ys) at

alone : (t : Bool) (n : ℕ) → cond t [] (n ∷ []) ≡ added t n
alone true n = refl
alone false n = refl

more : (bounded : Bool) (xs : List Placed) (i : ℕ) (x : Placed) → i < length xs → x ≡ get_or xs i x →
    untold_from bounded 0 (take (i + 1) xs) ≡ untold_from bounded 0 (take i xs) ++ added (is_told bounded (version_of x)) i
more bounded xs i x within is =
    let long : 0 + length (take i xs) ≡ i = omega (arith, length-take i xs) in
    ap (untold_from bounded 0) (take_more xs i x within ∙ ap (λ y. take i xs ++ y ∷ []) (sym is))
    ∙ joined bounded 0 (take i xs) (x ∷ [])
    ∙ ap (λ m. untold_from bounded 0 (take i xs) ++ untold_from bounded m (x ∷ [])) long
    ∙ ap (λ places. untold_from bounded 0 (take i xs) ++ places) (alone (is_told bounded (version_of x)) i)

pub told_next : (bounded : Bool) (xs : List Placed) (i : ℕ) (x : Placed) (places : List ℕ) → i < length xs → x ≡ get_or xs i x →
    is_told bounded (version_of x) ≡ true → places ≡ untold_from bounded 0 (take i xs) →
    places ≡ untold_from bounded 0 (take (i + 1) xs)
told_next bounded xs i x places within is told so_far =
    so_far ∙ sym (append-nil (untold_from bounded 0 (take i xs)))
    ∙ ap (λ t. untold_from bounded 0 (take i xs) ++ added t i) (sym told) ∙ sym (more bounded xs i x within is)

pub untold_next : (bounded : Bool) (xs : List Placed) (i : ℕ) (x : Placed) (places : List ℕ) → i < length xs → x ≡ get_or xs i x →
    is_told bounded (version_of x) ≡ false → places ≡ untold_from bounded 0 (take i xs) →
    places ++ i ∷ [] ≡ untold_from bounded 0 (take (i + 1) xs)
untold_next bounded xs i x places within is untold so_far =
    ap (λ l. l ++ i ∷ []) so_far
    ∙ ap (λ t. untold_from bounded 0 (take i xs) ++ added t i) (sym untold) ∙ sym (more bounded xs i x within is)

-- ---- the first behind a place

pub same_there : {A : Type 0} (xs : List A) (i : ℕ) (d e : A) → i < length xs → get_or xs i d ≡ get_or xs i e
same_there [] i d e l = absurd (omega arith)
same_there (x ∷ xs) zero d e l = refl
same_there (x ∷ xs) (suc i) d e l = same_there xs i d e (omega arith)

all_by_places : (P : ℕ → Type 0) (places : List ℕ) → ((j d : ℕ) → j < length places → P (get_or places j d)) →
    AllByRecursion P places
all_by_places P [] h = tt
all_by_places P (p ∷ places) h = (h 0 p (omega arith), all_by_places P places (λ j d l. h (suc j) d (omega arith)))

-- all up to a place stand before the cut, and no later one before the first behind it
abbrev pub IsCut : List ℕ → ℕ → ℕ → Type 0
IsCut places at past = IsPartitionPoint (λ p. p ≤ at) (λ p. at < p) places past

pub as_cut : (places : List ℕ) (at past : ℕ) →
    IsPartitionPoint (λ p. leb p at ≡ true) (λ p. leb p at ≡ false) places past → IsCut places at past
as_cut places at past point = (
  (λ j d l m. let low = point.0 j d l m in grind (arith, nat_tests)),
  (λ j d l m. let high = point.1 j d l m in grind (arith, nat_tests)),
)

next_by : (places : List ℕ) (at past result : ℕ) (j d : ℕ) (b : Bool) → nat_lt j past ≡ b → IsNonDecreasing places →
    IsCut places at past → ((e : ℕ) → past < length places → result ≤ get_or places past e) →
    j < length places → at < get_or places j d → result ≤ get_or places j d
next_by places at past result j d true e rise cut far l before =
    let front : j < past = grind (arith, nat_tests) in
    let low = cut.0 j d (omega arith) front in
    absurd (omega arith)
next_by places at past result j d false e rise cut far l before =
    let behind : past ≤ j = grind (arith, nat_tests) in
    let first = far d (omega arith) in
    let up = rise past j d behind l in
    omega arith

pub next_all : (places : List ℕ) (at past result : ℕ) → IsNonDecreasing places → IsCut places at past →
    ((e : ℕ) → past < length places → result ≤ get_or places past e) →
    AllByRecursion (λ place. at < place → result ≤ place) places
next_all places at past result rise cut far =
    all_by_places (λ place. at < place → result ≤ place) places (λ j d l before.
    next_by places at past result j d (nat_lt j past) refl rise cut far l before)

-- where there is no later one
pub none_next : (places : List ℕ) (at past end : ℕ) → IsNonDecreasing places → IsCut places at past → past ≡ length places →
    AllByRecursion (λ place. at < place → end ≤ place) places
none_next places at past end rise cut all = next_all places at past end rise cut (λ e within. absurd (omega arith))

-- up to the first later one, or to one before it
pub some_next : (places : List ℕ) (at past end : ℕ) → IsNonDecreasing places → IsCut places at past → past ≤ length places →
    end ≤ get_or places past 0 → AllByRecursion (λ place. at < place → end ≤ place) places
some_next places at past end rise cut within le =
    next_all places at past end rise cut (λ e some. let same = same_there places past 0 e some in omega arith)
