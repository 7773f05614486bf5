-- The longest front of a text whose bytes pass a test, and what follows it.
use Rattle.std.proofs.Common.{◌≡◌, ℕ, suc, ◌+◌, Bool, true, false, cond, drop, List, [], ◌∷◌, ◌++◌, refl, ap}
use Rattle.std.proofs.Common.{sym, subst, ◌∙◌, arith}
use Rattle.std.proofs.lemmas.List.{take-append-drop}
use Rattle.std.proofs.lemmas.List.Sums.{take_while-cons}
use Rattle.std.specs.Prelude.{IsTrue}
use Rattle.std.specs.List.{AllByRecursion, prefix_len, take_while}

-- what follows the longest front that passes
abbrev pub behind : (ℕ → Bool) → List ℕ → List ℕ
behind p xs = drop (prefix_len p xs) xs

abbrev pub Passes : (ℕ → Bool) → List ℕ → Type 0
Passes p = AllByRecursion (λ b. IsTrue (p b))

-- the first byte doesn't pass
abbrev pub Stops : (ℕ → Bool) → List ℕ → Type 0
Stops p [] = Unit {0}
Stops p (b ∷ bs) = p b ≡ false

one_more : (n x : ℕ) (xs : List ℕ) → drop (1 + n) (x ∷ xs) ≡ drop n xs
one_more n x xs = let k : 1 + n ≡ suc n = omega arith in ap (λ m. drop m (x ∷ xs)) k

behind_by : (p : ℕ → Bool) (x : ℕ) (xs : List ℕ) (t : Bool) → drop (cond t (1 + prefix_len p xs) 0) (x ∷ xs) ≡ cond t (behind p xs) (x ∷ xs)
behind_by p x xs true = one_more (prefix_len p xs) x xs
behind_by p x xs false = refl

behind_cons : (p : ℕ → Bool) (x : ℕ) (xs : List ℕ) → behind p (x ∷ xs) ≡ cond (p x) (behind p xs) (x ∷ xs)
behind_cons p x xs = behind_by p x xs (p x)

pub span_split : (p : ℕ → Bool) (xs : List ℕ) → xs ≡ take_while p xs ++ behind p xs
span_split p xs = sym (take-append-drop (prefix_len p xs) xs)

passes_by : (p : ℕ → Bool) (x : ℕ) (xs : List ℕ) (t : Bool) → p x ≡ t → Passes p (take_while p xs) → Passes p (cond t (x ∷ take_while p xs) [])
passes_by p x xs true e h = (e, h)
passes_by p x xs false e h = tt

pub span_passes : (p : ℕ → Bool) (xs : List ℕ) → Passes p (take_while p xs)
span_passes p [] = tt
span_passes p (x ∷ xs) = subst (Passes p) (sym (take_while-cons p x xs)) (passes_by p x xs (p x) refl (span_passes p xs))

stops_by : (p : ℕ → Bool) (x : ℕ) (xs : List ℕ) (t : Bool) → p x ≡ t → Stops p (behind p xs) → Stops p (cond t (behind p xs) (x ∷ xs))
stops_by p x xs true e h = h
stops_by p x xs false e h = e

pub span_stops : (p : ℕ → Bool) (xs : List ℕ) → Stops p (behind p xs)
span_stops p [] = tt
span_stops p (x ∷ xs) = subst (Stops p) (sym (behind_cons p x xs)) (stops_by p x xs (p x) refl (span_stops p xs))

here : (p : ℕ → Bool) (rest : List ℕ) → Stops p rest → (take_while p rest ≡ []) × (behind p rest ≡ rest)
here p [] h = (refl, refl)
here p (x ∷ xs) h = (take_while-cons p x xs ∙ ap (λ t. cond t (x ∷ take_while p xs) []) h, behind_cons p x xs ∙ ap (λ t. cond t (behind p xs) (x ∷ xs)) h)

-- bytes that pass, and what follows them, are found again
pub span_again : (p : ℕ → Bool) (ds rest : List ℕ) → Passes p ds → Stops p rest → (take_while p (ds ++ rest) ≡ ds) × (behind p (ds ++ rest) ≡ rest)
span_again p [] rest a h = here p rest h
span_again p (d ∷ ds) rest a h =
    let i = span_again p ds rest a.1 h in (
      take_while-cons p d (ds ++ rest) ∙ ap (λ t. cond t (d ∷ take_while p (ds ++ rest)) []) a.0 ∙ ap (λ xs. d ∷ xs) i.0,
      behind_cons p d (ds ++ rest) ∙ ap (λ t. cond t (behind p (ds ++ rest)) (d ∷ (ds ++ rest))) a.0 ∙ i.1,
    )
