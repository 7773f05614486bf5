-- Which clauses can make a term of a clause needless: those near it, whose words are the clause's but for
-- one, that of the term's negation.
use Rattle.std.specs.Prelude.{ℕ, ◌==◌, ◌&&◌, Bool, true, false, cond, List, [], ◌∷◌, fold}
use Rattle.std.specs.BTreeMap.{is_at}
use Rattle.std.specs.BTreeSet.{insert_key}
use Rattle.std.specs.List.{list_any, flat_map}
use Rattle.std.specs.Ordering.{nat_cmp}
use Rattle.pep508_marker_text_laws.specs.Simplified.{has_some, spares}
use Rattle.pep508_clauses.specs.declared.strays.Strays.{Strays}
use Rattle.pep508_clauses.specs.declared.strays.Strays.TheVariants.{None, One, Several}
use Rattle.pep508_clauses.specs.Near.{is_near}

-- with a word more
abbrev pub with_stray : ℕ → Strays → Strays
with_stray word None = One word
with_stray word (One other) = cond (other == word) (One other) Several
with_stray word Several = Several

-- or with none, where the word is among those of the clause
abbrev pub with_word : Bool → ℕ → Strays → Strays
with_word true word strays = strays
with_word false word strays = with_stray word strays

abbrev pub are_several : Strays → Bool
are_several None = false
are_several (One word) = false
are_several Several = true

-- whether there are none but a given word
abbrev pub are_at_most : ℕ → Strays → Bool
are_at_most word None = true
are_at_most word (One other) = other == word
are_at_most word Several = false

-- whether words have one
abbrev pub has : List ℕ → ℕ → Bool
has words word = list_any (is_at (nat_cmp word)) words

-- the words of terms, rising, each once
abbrev pub words_of : {T : Type 0} → (T → ℕ) → List T → List ℕ
words_of literal terms = fold (λ words term. insert_key nat_cmp words (literal term)) [] terms

module _ {T : Type 0} (literal : T → ℕ) (own : ℕ → Bool) where
  -- the words of terms before others, with those of the others
  abbrev pub strays_before : Strays → List T → Strays
  strays_before behind [] = behind
  strays_before behind (term ∷ later) =
      with_word (own (literal term)) (literal term) (strays_before behind later)

  abbrev pub strays_of : List T → Strays
  strays_of terms = strays_before None terms

  -- a clause, where no more than one of its words isn't among given ones
  abbrev pub kept_candidate : List T → List (Strays × List T)
  kept_candidate other = cond (are_several (strays_of other)) [] ((strays_of other, other) ∷ [])

  -- where it is near a clause
  abbrev pub candidate_of : (T → ℕ) → List T → List T → List (Strays × List T)
  candidate_of word clause other = cond (is_near word literal clause other) (kept_candidate other) []

  abbrev pub candidates_of : (T → ℕ) → List T → List (List T) → List (Strays × List T)
  candidates_of word clause others = flat_map (candidate_of word clause) others

module _ {T : Type 0} (same opposite : T → T → Bool) where
  -- whether a candidate makes a term among others needless, whose negation has a word
  abbrev pub is_spared_by : T → List T → ℕ → Strays × List T → Bool
  is_spared_by term rest word candidate =
      are_at_most word candidate.0 && spares same opposite term rest candidate.1

  -- whether a term among others is needless because of candidates
  abbrev pub is_needless_by : (T → ℕ) → List (Strays × List T) → T → List T → Bool
  is_needless_by negation candidates term rest =
      has_some rest && list_any (is_spared_by term rest (negation term)) candidates
