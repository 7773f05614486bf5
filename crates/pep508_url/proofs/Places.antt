-- The places of the first pairs of names.
use Rattle.std.proofs.Common.{◌≡◌, ℕ, suc, zero, ◌+◌, ◌<◌, Bool, true, false, if◌then◌else◌, List, [], ◌∷◌}
use Rattle.std.proofs.Common.{length, take}
use Rattle.std.proofs.Common.{map, get_or, Some, None, refl, ap, sym, ◌∙◌, arith}
use Rattle.std.specs.Prelude.{Option, String, string_bytes, option_and_then, option_copied}
use Rattle.std.specs.Borrow.{Bor}
use Rattle.std.specs.BTreeMap.{BTreeMap, get_by_text}
use Rattle.std.specs.Option.{option_or, is_some}
use Rattle.std.specs.Str.{bytes_eq}
use Rattle.std.proofs.lemmas.Slice.Eq.{bytes_eq-Decides}
use Rattle.pep508_url.specs.Vars.{copied_pair, first_value, value_at, value_by_place}

-- one pair more

or_none : {A : Type 0} (a : Option A) → a ≡ option_or a None
or_none None = refl
or_none (Some x) = refl

more_by : {A : Type 0} (t : Bool) (v : A) (a b c : Option A) → a ≡ option_or b c
    → (if t then Some v else a) ≡ option_or (if t then Some v else b) c
more_by true v a b c h = refl
more_by false v a b c h = h

first_more : {A B : Type 0} (q : List ℕ) (pairs : List (String A × String B)) (k : ℕ) (d : String A × String B)
    → k < length pairs → first_value (map copied_pair (take (suc k) pairs)) q
    ≡ option_or (first_value (map copied_pair (take k pairs)) q)
    (if bytes_eq (string_bytes (get_or pairs k d).0) q then value_at pairs k else None)
first_more q [] k d h = absurd (omega arith)
first_more q (p ∷ ps) zero d h = refl
first_more q (p ∷ ps) (suc k) d h =
    more_by (bytes_eq (string_bytes p.0) q) (string_bytes p.1) _ _ _ (first_more q ps k d (omega arith))

-- a place more has the value of one pair more
pub place_more : {A B : Type 0} (old new : List ℕ → Option (List ℕ)) (pairs : List (String A × String B)) (k : ℕ)
    (d : String A × String B) (name : List ℕ) → k < length pairs → name ≡ string_bytes (get_or pairs k d).0
    → ((q : List ℕ) → old q ≡ first_value (map copied_pair (take k pairs)) q)
    → ((q : List ℕ) → new q
    ≡ option_or (old q) (if bytes_eq name q then value_at pairs k else None))
    → (q : List ℕ) → new q ≡ first_value (map copied_pair (take (k + 1) pairs)) q
place_more old new pairs k d name within same before after q =
    let next : suc k ≡ k + 1 = omega arith in
    after q
    ∙ ap (λ (bs : List ℕ). option_or (old q) (if bytes_eq bs q then value_at pairs k else None)) same
    ∙ ap
    (λ (v : Option (List ℕ)).
    option_or v (if bytes_eq (string_bytes (get_or pairs k d).0) q then value_at pairs k else None))
    (before q)
    ∙ sym (first_more q pairs k d within)
    ∙ ap (λ (n : ℕ). first_value (map copied_pair (take n pairs)) q) next

-- ---- a name that has a value, and one that has none

kept_by : {A : Type 0} (t : Bool) (x a : Option A) → (t ≡ true → is_some a ≡ true)
    → a ≡ option_or a (if t then x else None)
kept_by t x (Some a) h = refl
kept_by true x None h = let f : false ≡ true = h refl in absurd (cc)
kept_by false x None h = refl

added_by : {A : Type 0} (t : Bool) (x a : Option A) → (t ≡ true → is_some a ≡ false)
    → (if t then x else a) ≡ option_or a (if t then x else None)
added_by true x None h = refl
added_by true x (Some a) h = let f : true ≡ false = h refl in absurd (cc)
added_by false x a h = or_none a

through : {A B : Type 0} (f : A → Option B) (t : Bool) (a : A) (b : Option A)
    → option_and_then f (if t then Some a else b) ≡ (if t then f a else option_and_then f b)
through f true a b = refl
through f false a b = refl

copied_some : (r : Option (Bor (List ℕ))) (b : Bool) → is_some r ≡ b → is_some (option_copied r) ≡ b
copied_some None b h = h
copied_some (Some x) b h = h

module _ (old : List ℕ → Option (List ℕ)) (name : List ℕ) (r : Option (Bor (List ℕ))) (found : option_copied r ≡ old name) where
  at_name : (q : List ℕ) (b : Bool) → is_some r ≡ b → bytes_eq name q ≡ true → is_some (old q) ≡ b
  at_name q b h t =
      let same : name ≡ q = (bytes_eq-Decides name q).0 t in
      sym (ap (λ (v : Option (List ℕ)). is_some v) found ∙ ap (λ (bs : List ℕ). is_some (old bs)) same) ∙ copied_some r b h

  pub name_kept : is_some r ≡ true → (x : Option (List ℕ)) (q : List ℕ)
      → old q ≡ option_or (old q) (if bytes_eq name q then x else None)
  name_kept h x q = kept_by (bytes_eq name q) x (old q) (at_name q true h)

  name_added : is_some r ≡ false → (x : Option (List ℕ)) (q : List ℕ)
      → (if bytes_eq name q then x else old q) ≡ option_or (old q) (if bytes_eq name q then x else None)
  name_added h x q = added_by (bytes_eq name q) x (old q) (at_name q false h)

-- a place is put at a name that has no value
pub place_added : {A B C : Type 0} (pairs : List (String A × String B)) (old new : BTreeMap (String C) ℕ) (place : ℕ)
    (name : List ℕ) (r : Option (Bor (List ℕ))) (key : List ℕ)
    → option_copied r ≡ value_by_place pairs old name → is_some r ≡ false → key ≡ name
    → ((q : List ℕ) → get_by_text new q ≡ (if bytes_eq key q then Some place else get_by_text old q))
    → (q : List ℕ) → value_by_place pairs new q
    ≡ option_or (value_by_place pairs old q) (if bytes_eq name q then value_at pairs place else None)
place_added pairs old new place name r key found none same put q =
    ap (option_and_then (value_at pairs))
    (put q ∙ ap (λ (bs : List ℕ). if bytes_eq bs q then Some place else get_by_text old q) same)
    ∙ through (value_at pairs) (bytes_eq name q) place (get_by_text old q)
    ∙ name_added (value_by_place pairs old) name r found none (value_at pairs place) q
