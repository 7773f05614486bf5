-- One more of some names, which is kept or passed over.
use Rattle.std.proofs.Common.{◌≡◌, ◌∙◌, ◌||◌, ◌<◌, ◌+◌, ℕ, Bool, true, false, Bor, Result, Ok, Err, List, []}
use Rattle.std.proofs.Common.{◌∷◌, ◌++◌, map, take, drop}
use Rattle.std.proofs.Common.{get_or, length, append_assoc, refl, sym, ap, subst, true≢false, Less, inl, inr}
use Rattle.std.proofs.lemmas.Bool.{cases_Bool}
use Rattle.std.proofs.lemmas.List.{map-append, take_more, drop_more}
use Rattle.std.proofs.lemmas.List.Folds.{list_any-append}
use Rattle.std.specs.Cmp.Lexicographic.{slice_cmp}
use Rattle.std.specs.List.{list_any, AllByRecursion}
use Rattle.std.specs.List.Sorted.{IsStrictlySortedBy}
use Rattle.std.specs.Ordering.{nat_cmp}
use Rattle.std.specs.Prelude.{IfOk}
use Rattle.std.specs.Str.{bytes_eq}
use Rattle.reqtable_answer.proofs.Tests.{same_bytes}

abbrev Names : Type 0
Names = List (Bor (List ℕ))

abbrev pub texts : Names → List (List ℕ)
texts names = map (λ name. name.now) names

abbrev pub Rise : List (List ℕ) → Type 0
Rise names = IsStrictlySortedBy (slice_cmp nat_cmp) names

all_without : (P : List ℕ → Type 0) (front : List (List ℕ)) (n : List ℕ) (back : List (List ℕ)) →
    AllByRecursion P (front ++ n ∷ back) → AllByRecursion P (front ++ back)
all_without P [] n back all = all.1
all_without P (x ∷ front) n back all = (all.0, all_without P front n back all.1)

without : (front : List (List ℕ)) (n : List ℕ) (back : List (List ℕ)) → Rise (front ++ n ∷ back) → Rise (front ++ back)
unfolding IsStrictlySortedBy
without [] n back rise = rise.1
without (x ∷ front) n back rise =
    (all_without (λ y. slice_cmp nat_cmp x y ≡ Less) front n back rise.0, without front n back rise.1)

or_false : (b : Bool) → (b || false) ≡ b
or_false true = refl
or_false false = refl

module _ (names : Names) (i : ℕ) (name : Bor (List ℕ)) (within : i < length names) (is : name ≡ get_or names i name) where
  rest : texts (drop i names) ≡ name.now ∷ texts (drop (i + 1) names)
  rest = ap texts (drop_more names i name within) ∙ ap (λ n. n.now ∷ texts (drop (i + 1) names)) (sym is)

  pub rise_kept : (taken : Names) → Rise (texts taken ++ texts (drop i names)) →
      Rise (texts (taken ++ name ∷ []) ++ texts (drop (i + 1) names))
  rise_kept taken rise =
      subst Rise
      (ap (λ l. texts taken ++ l) rest
      ∙ sym (append_assoc (texts taken) (name.now ∷ []) (texts (drop (i + 1) names)))
      ∙ ap (λ l. l ++ texts (drop (i + 1) names)) (sym (map-append (λ n. n.now) taken (name ∷ [])))) rise

  pub rise_passed : (taken : Names) → Rise (texts taken ++ texts (drop i names)) →
      Rise (texts taken ++ texts (drop (i + 1) names))
  rise_passed taken rise =
      without (texts taken) name.now (texts (drop (i + 1) names)) (subst Rise (ap (λ l. texts taken ++ l) rest) rise)

  any_pushed : (q : List ℕ) (some : Names) →
      list_any (bytes_eq q) (texts (some ++ name ∷ [])) ≡ (list_any (bytes_eq q) (texts some) || bytes_eq q name.now)
  any_pushed q some =
      ap (list_any (bytes_eq q)) (map-append (λ n. n.now) some (name ∷ []))
      ∙ list_any-append (bytes_eq q) (texts some) (name.now ∷ [])
      ∙ ap (λ b. list_any (bytes_eq q) (texts some) || b) (or_false (bytes_eq q name.now))

  any_next : (q : List ℕ) →
      list_any (bytes_eq q) (texts (take (i + 1) names)) ≡ (list_any (bytes_eq q) (texts (take i names)) || bytes_eq q name.now)
  any_next q =
      ap (λ l. list_any (bytes_eq q) (texts l))
      (take_more names i name within ∙ ap (λ n. take i names ++ n ∷ []) (sym is))
      ∙ any_pushed q (take i names)

  first_of : (a b : Bool) → (a || b) ≡ true → b ≡ false → a ≡ true
  first_of true b h e = refl
  first_of false b h e = absurd (true≢false (sym h ∙ e))

  neither : (a b : Bool) → (a || b) ≡ false → (a ≡ false) × (b ≡ false)
  neither true b h = absurd (true≢false h)
  neither false b h = (refl, h)

  module _ (P : List ℕ → Type 0) (taken : Names) (before : (q : List ℕ) →
      list_any (bytes_eq q) (texts (take i names)) ≡ true → list_any (bytes_eq q) (texts taken) ≡ false → P q) where
    pub passed : P name.now → (q : List ℕ) → list_any (bytes_eq q) (texts (take (i + 1) names)) ≡ true →
        list_any (bytes_eq q) (texts taken) ≡ false → P q
    passed one q there not = elim (cases_Bool (bytes_eq q name.now)) [
      | inl e ↦ subst P (sym (same_bytes q name.now e)) one
      | inr e ↦
          before q
          (first_of (list_any (bytes_eq q) (texts (take i names))) (bytes_eq q name.now) (sym (any_next q) ∙ there) e) not
    ]

    pub kept : (q : List ℕ) → list_any (bytes_eq q) (texts (take (i + 1) names)) ≡ true →
        list_any (bytes_eq q) (texts (taken ++ name ∷ [])) ≡ false → P q
    kept q there not =
        let parts = neither (list_any (bytes_eq q) (texts taken)) (bytes_eq q name.now) (sym (any_pushed q taken) ∙ not) in
        before q
        (first_of (list_any (bytes_eq q) (texts (take i names))) (bytes_eq q name.now) (sym (any_next q) ∙ there) parts.1)
        parts.0

-- ---- all of them

pub if_both : {X E : Type 0} (P Q R : X → Type 0) (r : Result X E) → ((x : X) → P x → Q x → R x) → IfOk r P → IfOk r Q →
    IfOk r R
if_both P Q R (Ok x) f h k = f x h k
if_both P Q R (Err e) f h k = h
