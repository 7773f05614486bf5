-- The places of candidates: one of each, also in another order.
use Rattle.std.proofs.Common.{◌≡◌, ℕ, ◌+◌, ◌<◌, ◌≤◌, ◌==◌, Bool, true, false, cond, List, [], ◌∷◌, ◌++◌}
use Rattle.std.proofs.Common.{length, take, get_or, sum_by, IsPermutation, refl, ap, sym, ◌∙◌, arith}
use Rattle.std.proofs.lemmas.Bool.Decides.{nat_tests}
use Rattle.std.proofs.lemmas.List.{length-take-le, take_more}
use Rattle.std.proofs.lemmas.List.Sorted.{sum_by-IsPermutation}
use Rattle.std.proofs.lemmas.List.Sums.{sum_by-cons}
use Rattle.std.specs.List.{AllByRecursion, enumerate_from}
use Rattle.reqtable_candidates.specs.declared.candidates.Candidate.{Candidate}

abbrev Numbered : Type 0
Numbered = ℕ × Candidate

-- ---- one more of a list

more_by : (n : ℕ) (xs : List Candidate) (x : Candidate)
    → enumerate_from n (xs ++ x ∷ []) ≡ enumerate_from n xs ++ (n + length xs, x) ∷ []
more_by n [] x =
    let same : n ≡ n + 0 = omega arith in
    let one : ℕ → List Numbered = λ m. (m, x) ∷ [] in
    ap one same
more_by n (y ∷ ys) x =
    let same : n + 1 + length ys ≡ n + length (y ∷ ys) = omega arith in
    let behind : ℕ → List Numbered = λ m. (n, y) ∷ (enumerate_from (n + 1) ys ++ (m, x) ∷ []) in
    ap (λ l. (n, y) ∷ l) (more_by (n + 1) ys x) ∙ ap behind same

pub place_more : (xs : List Candidate) (i : ℕ) (x : Candidate) → i < length xs → x ≡ get_or xs i x
    → enumerate_from 0 (take (i + 1) xs) ≡ enumerate_from 0 (take i xs) ++ (i, x) ∷ []
place_more xs i x h is =
    let within : i ≤ length xs = omega arith in
    let before = take i xs in
    let at : 0 + length before ≡ i = (let e = length-take-le i xs within in omega arith) in
    let one : ℕ → List Numbered = λ m. enumerate_from 0 before ++ (m, x) ∷ [] in
    ap (enumerate_from 0) (take_more xs i x h ∙ ap (λ y. before ++ y ∷ []) (sym is)) ∙ more_by 0 before x ∙ ap one at

-- ---- how many have a place

abbrev pub count_at : ℕ → List Numbered → ℕ
count_at n = sum_by (λ c. cond (c.0 == n) 1 0)

count_cons : (n : ℕ) (c : Numbered) (cs : List Numbered) → count_at n (c ∷ cs) ≡ cond (c.0 == n) 1 0 + count_at n cs
count_cons n c cs = sum_by-cons (λ c. cond (c.0 == n) 1 0) c cs

none_below : (n k : ℕ) (xs : List Candidate) → n < k → count_at n (enumerate_from k xs) ≡ 0
none_below n k [] h = refl
none_below n k (x ∷ xs) h =
    let apart : (k == n) ≡ false = grind (arith, nat_tests) in
    let later = enumerate_from (k + 1) xs in
    let cons : count_at n ((k, x) ∷ later) ≡ 0 + count_at n later =
    count_cons n (k, x) later ∙ ap (λ t. cond t 1 0 + count_at n later) apart in
    omega (arith, cons, none_below n (k + 1) xs (omega arith))

once_by : (n k rest : ℕ) (t : Bool) → (k == n) ≡ t → (n < k + 1 → rest ≡ 0) → rest ≤ 1 → cond t 1 0 + rest ≤ 1
once_by n k rest true e none h =
    let same : k ≡ n = grind (arith, nat_tests) in
    let left : rest ≡ 0 = none (omega arith) in omega arith
once_by n k rest false e none h = omega arith

once_from : (n k : ℕ) (xs : List Candidate) → count_at n (enumerate_from k xs) ≤ 1
once_from n k [] = omega arith
once_from n k (x ∷ xs) =
    let rest = count_at n (enumerate_from (k + 1) xs) in
    let cons = count_cons n (k, x) (enumerate_from (k + 1) xs) in
    let one : cond (k == n) 1 0 + rest ≤ 1 =
    once_by n k rest (k == n) refl (none_below n (k + 1) xs) (once_from n (k + 1) xs) in
    omega (arith, cons, one)

-- a place occurs at most once
abbrev pub HasEachOnce : List Numbered → Type 0
HasEachOnce cs = (n : ℕ) → count_at n cs ≤ 1

pub each_once : (candidates : List Candidate) (cs : List Numbered) → IsPermutation cs (enumerate_from 0 candidates)
    → HasEachOnce cs
each_once candidates cs h n =
    let same : count_at n (enumerate_from 0 candidates) ≡ count_at n cs =
    sum_by-IsPermutation (λ c. cond (c.0 == n) 1 0) cs (enumerate_from 0 candidates) h in
    let one = once_from n 0 candidates in
    omega (arith, same, one)

pub once_behind : (c : Numbered) (cs : List Numbered) → HasEachOnce (c ∷ cs) → HasEachOnce cs
once_behind c cs h n = omega (arith, h n, count_cons n c cs)

-- ---- none of some has a place

abbrev pub LackPlace : ℕ → List Numbered → Type 0
LackPlace n = AllByRecursion (λ c. (c.0 == n) ≡ false)

lack_by : (n rest : ℕ) (c : Numbered) (t : Bool) → (c.0 == n) ≡ t → cond t 1 0 + rest ≡ 0 → (c.0 == n) ≡ false
lack_by n rest c true e h = absurd (omega arith)
lack_by n rest c false e h = e

lacking : (n : ℕ) (cs : List Numbered) → count_at n cs ≡ 0 → LackPlace n cs
lacking n [] h = tt
lacking n (c ∷ cs) h =
    let sum : cond (c.0 == n) 1 0 + count_at n cs ≡ 0 = sym (count_cons n c cs) ∙ h in
    let rest : count_at n cs ≡ 0 = omega (arith, sum) in
    (lack_by n (count_at n cs) c (c.0 == n) refl sum, lacking n cs rest)

-- what follows has another place
pub others_behind : (c : Numbered) (cs : List Numbered) → HasEachOnce (c ∷ cs) → LackPlace c.0 cs
others_behind c cs h =
    let same : (c.0 == c.0) ≡ true = grind (arith, nat_tests) in
    let cons : count_at c.0 (c ∷ cs) ≡ 1 + count_at c.0 cs =
    count_cons c.0 c cs ∙ ap (λ t. cond t 1 0 + count_at c.0 cs) same in
    lacking c.0 cs (omega (arith, cons, h c.0))
