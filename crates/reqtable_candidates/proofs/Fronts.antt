-- Names stand as their fronts, where these differ.
use Rattle.std.proofs.Common.{◌≡◌, ◌∙◌, ◌⊎◌, inl, inr, ℕ, zero, suc, ◌+◌, ◌*◌, ◌%◌, ◌<◌, ◌&&◌, Bool, true}
use Rattle.std.proofs.Common.{false, if◌then◌else◌, List, [], ◌∷◌, Some, None, Ordering, Less, Equal, Greater}
use Rattle.std.proofs.Common.{nat_lt, nat_cmp, refl, sym, ap, subst, arith}
use Rattle.std.proofs.lemmas.Bool.Decides.{nat_tests}
use Rattle.std.proofs.lemmas.Cmp.{ranked, nat_list_cmp_total}
use Rattle.std.proofs.lemmas.Nat.{mod-mul-add}
use Rattle.std.specs.Cmp.{tied_itself}
use Rattle.std.specs.Cmp.Lexicographic.{slice_cmp}
use Rattle.std.specs.Int.{IsInRange}
use Rattle.std.specs.List.{list_all}
use Rattle.std.specs.Ordering.{ordering_then, ordering_reverse, is_ne}
use Rattle.pep508_name.specs.Name.{is_name, is_name_byte, is_alphanumeric_at, name_of, normal_name, name_cmp}
use Rattle.reqtable_candidates.specs.Fronts.{first_or_none, behind_first, front_from, front_of, are_bytes}

both : (a b : Bool) → (a && b) ≡ true → (a ≡ true) × (b ≡ true)
both true b h = (refl, h)
both false b h = absurd (cc)

first_below : (bytes : List ℕ) → are_bytes bytes ≡ true → first_or_none bytes < 256
first_below [] h = omega arith
first_below (b ∷ bytes) h =
    let p = (both (nat_lt 0 b) (nat_lt b 256) (both _ (are_bytes bytes) h).0).1 in
    grind (arith, nat_tests)

first_some : (b : ℕ) (bytes : List ℕ) → are_bytes (b ∷ bytes) ≡ true → 0 < b
first_some b bytes h =
    let p = (both (nat_lt 0 b) (nat_lt b 256) (both _ (are_bytes bytes) h).0).0 in
    grind (arith, nat_tests)

behind_are : (bytes : List ℕ) → are_bytes bytes ≡ true → are_bytes (behind_first bytes) ≡ true
behind_are [] h = refl
behind_are (b ∷ bytes) h = (both _ (are_bytes bytes) h).1

-- what stands in front decides
below : (n a b : ℕ) (xs ys : List ℕ) → are_bytes xs ≡ true → a < b → front_from n a xs < front_from n b ys
below zero a b xs ys are h = h
below (suc n) a b xs ys are h =
    let x = first_below xs are in
    below n (a * 256 + first_or_none xs) (b * 256 + first_or_none ys) (behind_first xs) (behind_first ys) (behind_are xs are)
    (omega (arith, x, h))

never_less : (xs : List ℕ) → slice_cmp nat_cmp xs [] ≡ Less → ⊥
never_less [] h = absurd (cc)
never_less (x ∷ xs) h = absurd (cc)

not_itself : (a : ℕ) → a < a → ⊥
not_itself a h = absurd (omega (arith, h))

not_both : (a b : ℕ) → a < b → b < a → ⊥
not_both a b h k = absurd (omega (arith, h, k))

-- by the first bytes, and else by what stands behind them
by_first : (n front a b : ℕ) (xs ys : List ℕ) → are_bytes ys ≡ true
    → (front_from n (front * 256 + b) xs < front_from n (front * 256 + b) ys → slice_cmp nat_cmp xs ys ≡ Less)
    → front_from n (front * 256 + a) xs < front_from n (front * 256 + b) ys → (o : Ordering) → nat_cmp a b ≡ o
    → slice_cmp nat_cmp (a ∷ xs) (b ∷ ys) ≡ Less
by_first n front a b xs ys y again h Less e = ap (λ o. ordering_then o (slice_cmp nat_cmp xs ys)) e
by_first n front a b xs ys y again h Equal e =
    let same : a ≡ b = ranked a b Equal (sym e) in
    ap (λ o. ordering_then o (slice_cmp nat_cmp xs ys)) e
    ∙ again (subst (λ c. front_from n (front * 256 + c) xs < front_from n (front * 256 + b) ys) same h)
by_first n front a b xs ys y again h Greater e =
    let more : b < a = ranked a b Greater (sym e) in
    absurd (not_both (front_from n (front * 256 + a) xs) (front_from n (front * 256 + b) ys) h
    (below n (front * 256 + b) (front * 256 + a) ys xs y (omega (arith, more))))

pub less_by_front : (n front : ℕ) (xs ys : List ℕ) → are_bytes xs ≡ true → are_bytes ys ≡ true
    → front_from n front xs < front_from n front ys → slice_cmp nat_cmp xs ys ≡ Less
less_by_front zero front xs ys x y h = absurd (not_itself front h)
less_by_front (suc n) front [] [] x y h = absurd (not_itself (front_from n (front * 256 + 0) []) h)
less_by_front (suc n) front [] (b ∷ ys) x y h = refl
less_by_front (suc n) front (zero ∷ xs) [] x y h =
    absurd (never_less xs (less_by_front n (front * 256 + 0) xs [] (behind_are (zero ∷ xs) x) refl h))
less_by_front (suc n) front ((suc a) ∷ xs) [] x y h =
    absurd (not_both (front_from n (front * 256 + suc a) xs) (front_from n (front * 256 + 0) []) h
    (below n (front * 256 + 0) (front * 256 + suc a) [] xs refl (omega arith)))
less_by_front (suc n) front (a ∷ xs) (b ∷ ys) x y h =
    by_first n front a b xs ys (behind_are (b ∷ ys) y)
    (less_by_front n (front * 256 + b) xs ys (behind_are (a ∷ xs) x) (behind_are (b ∷ ys) y)) h (nat_cmp a b) refl

less_by_fronts : (xs ys : List ℕ) → are_bytes xs ≡ true → are_bytes ys ≡ true → front_of xs < front_of ys → name_cmp xs ys ≡ Less
unfolding front_of
less_by_fronts xs ys x y h = less_by_front 8 0 xs ys x y h

-- ---- a front that ends in 0 is a whole name

ends_in : (front b : ℕ) → b < 256 → (front * 256 + b) % 256 ≡ b
ends_in front b h = mod-mul-add front 256 b h

no_more : (front : ℕ) (xs : List ℕ) → are_bytes xs ≡ true → (front * 256 + first_or_none xs) % 256 ≡ 0
    → xs ≡ []
no_more front [] x h = refl
no_more front (b ∷ bytes) x h =
    let none = sym (ends_in front b (first_below (b ∷ bytes) x)) ∙ h in
    absurd (omega (arith, none, first_some b bytes x))

apart : (n front a b : ℕ) (xs ys : List ℕ) → are_bytes xs ≡ true → a < b
    → front_from n (front * 256 + a) xs ≡ front_from n (front * 256 + b) ys → ⊥
apart n front a b xs ys x less e =
    not_itself (front_from n (front * 256 + b) ys)
    (subst (λ f. f < front_from n (front * 256 + b) ys) e
    (below n (front * 256 + a) (front * 256 + b) xs ys x (omega (arith, less))))

same_first : (n front a b : ℕ) (xs ys : List ℕ) → are_bytes xs ≡ true → are_bytes ys ≡ true
    → front_from n (front * 256 + a) xs ≡ front_from n (front * 256 + b) ys → (o : Ordering) → nat_cmp a b ≡ o
    → a ≡ b
same_first n front a b xs ys x y e Less c = absurd (apart n front a b xs ys x (ranked a b Less (sym c)) e)
same_first n front a b xs ys x y e Equal c = ranked a b Equal (sym c)
same_first n front a b xs ys x y e Greater c =
    absurd (apart n front b a ys xs y (ranked a b Greater (sym c)) (sym e))

same_by_front : (n front : ℕ) (xs ys : List ℕ) → are_bytes xs ≡ true → are_bytes ys ≡ true
    → front_from (suc n) front xs ≡ front_from (suc n) front ys → front_from (suc n) front xs % 256 ≡ 0
    → xs ≡ ys
same_by_front zero front xs ys x y e h =
    no_more front xs x h ∙ sym (no_more front ys y (subst (λ f. f % 256 ≡ 0) e h))
same_by_front (suc n) front [] [] x y e h = refl
same_by_front (suc n) front [] (b ∷ ys) x y e h =
    absurd (apart (suc n) front 0 b [] ys refl (first_some b ys y) e)
same_by_front (suc n) front (a ∷ xs) [] x y e h =
    absurd (apart (suc n) front 0 a [] xs refl (first_some a xs x) (sym e))
same_by_front (suc n) front (a ∷ xs) (b ∷ ys) x y e h =
    let x' = behind_are (a ∷ xs) x in
    let y' = behind_are (b ∷ ys) y in
    let first : a ≡ b = same_first (suc n) front a b xs ys x' y' e (nat_cmp a b) refl in
    let e' =
    subst (λ c. front_from (suc n) (front * 256 + c) xs ≡ front_from (suc n) (front * 256 + b) ys) first e in
    let h' = subst (λ c. front_from (suc n) (front * 256 + c) xs % 256 ≡ 0) first h in
    let rest : xs ≡ ys = same_by_front n (front * 256 + b) xs ys x' y' e' h' in
    cc

whole_fronts : (xs ys : List ℕ) → are_bytes xs ≡ true → are_bytes ys ≡ true → front_of xs ≡ front_of ys
    → front_of xs % 256 ≡ 0 → name_cmp xs ys ≡ Equal
unfolding front_of
whole_fronts xs ys x y e h =
    ap (λ zs. name_cmp zs ys) (same_by_front 7 0 xs ys x y e h) ∙ tied_itself nat_list_cmp_total ys

pub front_decides : (xs ys : List ℕ) (o : Ordering) → are_bytes xs ≡ true → are_bytes ys ≡ true
    → nat_cmp (front_of xs) (front_of ys) ≡ o → is_ne o ≡ true ⊎ front_of xs % 256 ≡ 0 → name_cmp xs ys ≡ o
front_decides xs ys Less x y e h = less_by_fronts xs ys x y (ranked (front_of xs) (front_of ys) Less (sym e))
front_decides xs ys Equal x y e (inl h) = absurd (cc)
front_decides xs ys Equal x y e (inr h) =
    whole_fronts xs ys x y (ranked (front_of xs) (front_of ys) Equal (sym e)) h
front_decides xs ys Greater x y e h =
    nat_list_cmp_total.antisymm xs ys
    ∙ ap ordering_reverse (less_by_fronts ys xs y x (ranked (front_of xs) (front_of ys) Greater (sym e)))

-- ---- the bytes of names

in_name : (c : ℕ) → is_name_byte c ≡ true → IsInRange 45 122 c
in_name c h = grind (arith, nat_tests)

is_byte : (c : ℕ) → IsInRange 45 122 c → (nat_lt 0 c && nat_lt c 256) ≡ true
is_byte c h = grind (arith, nat_tests)

name_bytes : (cs : List ℕ) → list_all is_name_byte cs ≡ true → are_bytes cs ≡ true
name_bytes [] h = refl
name_bytes (c ∷ cs) h =
    let p = both (is_name_byte c) (list_all is_name_byte cs) h in
    ap (λ t. t && are_bytes cs) (is_byte c (in_name c p.0)) ∙ name_bytes cs p.1

bytes_by : (cs name : List ℕ) (t : Bool) → is_name cs ≡ t → (if t then Some (normal_name cs) else None) ≡ Some name
    → are_bytes cs ≡ true
bytes_by cs name true e h =
    let p = both (list_all is_name_byte cs && is_alphanumeric_at cs 0) _ e in
    name_bytes cs (both (list_all is_name_byte cs) (is_alphanumeric_at cs 0) p.0).0
bytes_by cs name false e h = absurd (cc)

pub name_of_bytes : (name : List ℕ) → name_of name ≡ Some name → are_bytes name ≡ true
unfolding name_of
name_of_bytes name h = bytes_by name name (is_name name) refl h
