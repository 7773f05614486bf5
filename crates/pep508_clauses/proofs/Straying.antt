-- The words of terms, and those that a set hasn't.
use Rattle.std.proofs.Common.{◌≡◌, ℕ, Bool, true, false, ◌||◌, List, [], ◌∷◌, ◌++◌, fold, length, refl, sym}
use Rattle.std.proofs.Common.{ap, ◌∙◌, true≢false, arith, Ordering}
use Rattle.std.specs.declared.cmp.Ordering.TheVariants.{Less, Equal, Greater}
use Rattle.std.specs.BTreeMap.{is_at}
use Rattle.std.specs.BTreeSet.{insert_key}
use Rattle.std.specs.List.{list_any, list_all}
use Rattle.std.specs.Ordering.{match_ordering, nat_cmp, is_eq}
use Rattle.std.proofs.lemmas.Cmp.{nat_cmp_total, tied_itself}
use Rattle.pep508_marker_text_laws.proofs.Removals.{together}
use Rattle.pep508_clauses.specs.declared.strays.Strays.{Strays}
use Rattle.pep508_clauses.specs.declared.strays.Strays.TheVariants.{None, One, Several}
use Rattle.pep508_clauses.specs.Sparing.{has, words_of, with_word, are_several, strays_before}

pub either_true : (a b c : Bool) → (a ≡ true → c ≡ true) → (b ≡ true → c ≡ true) → (a || b) ≡ true →
    c ≡ true
either_true true b c left right e = left refl
either_true false b c left right e = right e

pub or_left : (a b : Bool) → a ≡ true → (a || b) ≡ true
or_left true b e = refl
or_left false b e = absurd (true≢false (sym e))

pub or_right : (a b : Bool) → b ≡ true → (a || b) ≡ true
or_right true b e = refl
or_right false b e = e

-- ---- words

still_by : (o : Ordering) (p : ℕ → Bool) (word x : ℕ) (words more : List ℕ) →
    (list_any p words ≡ true → list_any p more ≡ true) → list_any p (x ∷ words) ≡ true →
    list_any p (match_ordering o (word ∷ x ∷ words) (x ∷ words) (x ∷ more)) ≡ true
still_by Less p word x words more later e = or_right (p word) _ e
still_by Equal p word x words more later e = e
still_by Greater p word x words more later e =
    either_true (p x) (list_any p words) _ (λ it. or_left (p x) _ it) (λ it. or_right (p x) _ (later it)) e

pub still_has : (words : List ℕ) (word other : ℕ) → has words other ≡ true →
    has (insert_key nat_cmp words word) other ≡ true
still_has [] word other e = absurd (true≢false (sym e))
still_has (x ∷ words) word other e =
    still_by (nat_cmp word x) (is_at (nat_cmp other)) word x words (insert_key nat_cmp words word)
    (still_has words word other) e

now_by : (o : Ordering) (word x : ℕ) (words more : List ℕ) → nat_cmp word x ≡ o → has more word ≡ true →
    has (match_ordering o (word ∷ x ∷ words) (x ∷ words) (x ∷ more)) word ≡ true
now_by Less word x words more e later = or_left _ _ (ap is_eq (tied_itself nat_cmp_total word))
now_by Equal word x words more e later = or_left _ _ (ap is_eq e)
now_by Greater word x words more e later = or_right (is_at (nat_cmp word) x) _ later

pub now_has : (words : List ℕ) (word : ℕ) → has (insert_key nat_cmp words word) word ≡ true
now_has [] word = or_left _ _ (ap is_eq (tied_itself nat_cmp_total word))
now_has (x ∷ words) word =
    now_by (nat_cmp word x) word x words (insert_key nat_cmp words word) refl (now_has words word)

module _ {T : Type 0} (literal : T → ℕ) where
  abbrev words_behind : List ℕ → List T → List ℕ
  words_behind words terms = fold (λ all term. insert_key nat_cmp all (literal term)) words terms

  all_have : (words : List ℕ) (word : ℕ) (terms : List T) → has words word ≡ true →
      has (words_behind words terms) word ≡ true
  all_have words word [] e = e
  all_have words word (term ∷ later) e =
      all_have (insert_key nat_cmp words (literal term)) word later (still_has words (literal term) word e)

  all_behind : (words : List ℕ) (terms : List T) →
      list_all (λ term. has (words_behind words terms) (literal term)) terms ≡ true
  all_behind words [] = refl
  all_behind words (term ∷ later) =
      together _ _
      (all_have (insert_key nat_cmp words (literal term)) (literal term) later (now_has words (literal term)))
      (all_behind (insert_key nat_cmp words (literal term)) later)

  pub all_words : (terms : List T) → list_all (λ term. has (words_of literal terms) (literal term)) terms ≡ true
  all_words terms = all_behind [] terms

-- ---- strays

still_several : (held : Bool) (word : ℕ) (strays : Strays) → are_several strays ≡ true →
    with_word held word strays ≡ strays
still_several true word strays e = refl
still_several false word None e = absurd (true≢false (sym e))
still_several false word (One other) e = absurd (true≢false (sym e))
still_several false word Several e = refl

module _ {T : Type 0} (literal : T → ℕ) (own : ℕ → Bool) (behind : Strays) where
  pub several-stay : (terms : List T) → are_several behind ≡ true →
      strays_before literal own behind terms ≡ behind
  several-stay [] e = refl
  several-stay (term ∷ later) e =
      ap (with_word (own (literal term)) (literal term)) (several-stay later e)
      ∙ still_several (own (literal term)) (literal term) behind e

  pub last-first : (terms : List T) (term : T) →
      strays_before literal own behind (terms ++ term ∷ [])
      ≡ strays_before literal own (with_word (own (literal term)) (literal term) behind) terms
  last-first [] term = refl
  last-first (first ∷ later) term =
      ap (with_word (own (literal first)) (literal first)) (last-first later term)

  pub none-left : (terms : List T) → length terms ≡ 0 → strays_before literal own behind terms ≡ behind
  none-left [] e = refl
  none-left (term ∷ later) e = absurd (omega arith)

pub ruleset stray_rules = (several-stay, last-first, none-left)
