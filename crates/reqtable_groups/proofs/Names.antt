-- Names one after another, and what is left where those that follow themselves are dropped.
use Rattle.std.proofs.Common.{◌≡◌, ◌∙◌, ℕ, Bool, true, false, cond, List, [], ◌∷◌, ◌++◌, refl, sym, ap}
use Rattle.std.specs.List.{dedup, dedup_from}
use Rattle.std.specs.Str.{bytes_eq}

abbrev Name : Type 0
Name = List ℕ

-- the last one that is left, where this one stands first
abbrev last_kept : Name → List Name → Name
last_kept k [] = k
last_kept k (y ∷ ys) = cond (bytes_eq y k) (last_kept k ys) (last_kept y ys)

inside : (b : Bool) (k : Name) (names : List Name) (x : Name) →
    (k ∷ cond b names (names ++ x ∷ [])) ≡ cond b (k ∷ names) (k ∷ names ++ x ∷ [])
inside true k names x = refl
inside false k names x = refl

abbrev Pushed : Name → List Name → Name → Type 0
Pushed k xs x = dedup_from bytes_eq k (xs ++ x ∷ [])
    ≡ cond (bytes_eq x (last_kept k xs)) (dedup_from bytes_eq k xs) (dedup_from bytes_eq k xs ++ x ∷ [])

pushed_by : (b : Bool) (k y : Name) (ys : List Name) (x : Name) → Pushed k ys x → Pushed y ys x →
    cond b (dedup_from bytes_eq k (ys ++ x ∷ [])) (k ∷ dedup_from bytes_eq y (ys ++ x ∷ []))
    ≡ cond (bytes_eq x (cond b (last_kept k ys) (last_kept y ys)))
    (cond b (dedup_from bytes_eq k ys) (k ∷ dedup_from bytes_eq y ys))
    (cond b (dedup_from bytes_eq k ys) (k ∷ dedup_from bytes_eq y ys) ++ x ∷ [])
pushed_by true k y ys x h g = h
pushed_by false k y ys x h g =
    ap (λ names. k ∷ names) g ∙ inside (bytes_eq x (last_kept y ys)) k (dedup_from bytes_eq y ys) x

pushed : (k : Name) (xs : List Name) (x : Name) → Pushed k xs x
pushed k [] x = refl
pushed k (y ∷ ys) x = pushed_by (bytes_eq y k) k y ys x (pushed k ys x) (pushed y ys x)

abbrev EndsIn : List Name → Name → Type 0
EndsIn names last = (front : List Name) × (names ≡ front ++ last ∷ [])

ends_by : (b : Bool) (k y : Name) (ys : List Name) → EndsIn (dedup_from bytes_eq k ys) (last_kept k ys) →
    EndsIn (dedup_from bytes_eq y ys) (last_kept y ys) →
    EndsIn (cond b (dedup_from bytes_eq k ys) (k ∷ dedup_from bytes_eq y ys))
    (cond b (last_kept k ys) (last_kept y ys))
ends_by true k y ys h g = h
ends_by false k y ys h g = (k ∷ g.0, ap (λ names. k ∷ names) g.1)

ends : (k : Name) (xs : List Name) → EndsIn (dedup_from bytes_eq k xs) (last_kept k xs)
ends k [] = ([], refl)
ends k (y ∷ ys) = ends_by (bytes_eq y k) k y ys (ends k ys) (ends y ys)

-- ---- the last of a list

abbrev last_or : {A : Type 0} → A → List A → A
last_or d [] = d
last_or d (x ∷ xs) = last_or x xs

last_pushed : {A : Type 0} (d : A) (xs : List A) (x : A) → last_or d (xs ++ x ∷ []) ≡ x
last_pushed d [] x = refl
last_pushed d (y ∷ ys) x = last_pushed y ys x

pub same_last : {A : Type 0} (xs ys : List A) (x y : A) → xs ++ x ∷ [] ≡ ys ++ y ∷ [] → x ≡ y
same_last xs ys x y e = sym (last_pushed x xs x) ∙ ap (last_or x) e ∙ last_pushed x ys y

pub some_last : {A : Type 0} (x : A) (xs : List A) → (front : List A) × (last : A) × (x ∷ xs ≡ front ++ last ∷ [])
some_last x [] = ([], x, refl)
some_last x (y ∷ ys) = let found = some_last y ys in (x ∷ found.0, found.1, ap (λ l. x ∷ l) found.2)

pub not_none : {A : Type 0} (xs : List A) (x : A) → [] ≡ xs ++ x ∷ [] → ⊥
not_none [] x e = absurd (cc)
not_none (y ∷ ys) x e = absurd (cc)

-- ---- one more name

-- the same as the last one
pub same_again : (names front : List Name) (last : Name) → front ++ last ∷ [] ≡ dedup bytes_eq names → bytes_eq last last ≡ true →
    dedup bytes_eq (names ++ last ∷ []) ≡ dedup bytes_eq names
same_again [] front last e same = absurd (not_none front last (sym e))
same_again (k ∷ xs) front last e same =
    let found = ends k xs in
    let is : last ≡ last_kept k xs = same_last front found.0 last (last_kept k xs) (e ∙ found.1) in
    pushed k xs last
    ∙ ap (λ b. cond b (dedup_from bytes_eq k xs) (dedup_from bytes_eq k xs ++ last ∷ []))
    (ap (λ n. bytes_eq last n) (sym is) ∙ same)

-- another one than the last
pub other_again : (names groups : List Name) (x : Name) → groups ≡ dedup bytes_eq names →
    ((front : List Name) (last : Name) → groups ≡ front ++ last ∷ [] → bytes_eq x last ≡ false) →
    dedup bytes_eq (names ++ x ∷ []) ≡ groups ++ x ∷ []
other_again [] groups x e other = sym (ap (λ l. l ++ x ∷ []) e)
other_again (k ∷ xs) groups x e other =
    let found = ends k xs in
    pushed k xs x
    ∙ ap (λ b. cond b (dedup_from bytes_eq k xs) (dedup_from bytes_eq k xs ++ x ∷ []))
    (other found.0 (last_kept k xs) (e ∙ found.1))
    ∙ sym (ap (λ l. l ++ x ∷ []) e)
