-- Formulas and markers are read as the grammar has them.
use Rattle.std.proofs.Common.{◌≡◌, ◌⊎◌, ℕ, zero, suc, ◌<◌, ◌==◌, arith, Bool, true, false}
use Rattle.std.proofs.Common.{if◌then◌else◌, List, [], ◌∷◌, ◌++◌, length, Ok, Err, inl, inr, refl, ap, subst}
use Rattle.std.proofs.Common.{◌∙◌}
use Rattle.std.specs.Prelude.{encode_utf8_all}
use Rattle.std.proofs.lemmas.Str.{encode_ascii}
use Rattle.std.proofs.Common.{lit<}
use Rattle.std.specs.Char.{is_whitespace}
use Rattle.std.specs.Str.{bytes_eq, skip_leading_whitespace}
use Rattle.pep440_specifier.specs.SpecifierText.{AreSpaces}
use Rattle.pep508_comparison_parser.specs.SideReading.{Reading, Malformed, TooDeep}
use Rattle.pep508_error.specs.Steps.{◌>>=◌}
use Rattle.pep508_marker_parser.specs.MarkerReading.{Marker, comparison_at}
use Rattle.pep508_marker_parser.specs.MarkerReading.{Connective, And, Or, word_of, is_next, joined_at}
use Rattle.pep508_marker_parser.specs.MarkerReading.{closed, part_of, part_at, either_at, formula_at}
use Rattle.pep508_marker_parser.specs.MarkerText.{IsSpaced, IsComparisonText, IsEnclosed, IsJoined, IsEither}
use Rattle.pep508_marker_parser.specs.MarkerText.{IsFormulaText}
use Rattle.pep508_error.proofs.Tests.{the_same}
use Rattle.pep508_error.proofs.Cuts.{cut_again, cut_found}
use Rattle.pep508_error.proofs.Spaces.{spaces_found, unspaced_same, only_spaces}
use Rattle.pep508_error.proofs.Steps.{ok_same, in_steps}
use Rattle.pep508_marker_parser.proofs.Comparisons.{spaced_found, spaced_again, spaced_none, spaced_length}
use Rattle.pep508_marker_parser.proofs.Comparisons.{comparison_found, comparison_again, comparison_shrinks}
use Rattle.pep508_marker_parser.proofs.Joined.{Found, ReadSo, next_in, before_or, joined_found, joined_shrinks}
use Rattle.pep508_marker_parser.proofs.Joined.{joined_again}

-- ---- brackets

abbrev closed_if : Marker → List ℕ → Bool → Reading Marker
closed_if marker cs t = if t then Ok (marker, cs) else Err Malformed

closed_by : (marker : Marker) (c : ℕ) (cs : List ℕ) (found : Marker × List ℕ) (t : Bool) → (c == 41) ≡ t
    → closed_if marker cs t ≡ Ok found → (c ∷ cs ≡ 41 ∷ found.1) × (marker ≡ found.0)
closed_by marker c cs found false e h = absurd (cc)
closed_by marker c cs found true e h =
    let made : Marker × List ℕ = (marker, cs) in
    let same : made ≡ found = ok_same made found h in (
      ap (λ x. x ∷ cs) (the_same c 41 e) ∙ ap (λ (p : Marker × List ℕ). 41 ∷ p.1) same,
      ap (λ (p : Marker × List ℕ). p.0) same,
    )

closed_found : (marker : Marker) (cs : List ℕ) (found : Marker × List ℕ) → closed (marker, cs) ≡ Ok found
    → (cs ≡ 41 ∷ found.1) × (marker ≡ found.0)
closed_found marker [] found h = absurd (cc)
closed_found marker (c ∷ cs) found h = closed_by marker c cs found (c == 41) refl h

module _ (inner : List ℕ → Reading Marker) (piece : List ℕ → Marker → List ℕ → Type 0) where
  abbrev IsPart : List ℕ → Marker → List ℕ → Type 0
  IsPart cs marker rest = IsComparisonText cs marker rest ⊎ IsEnclosed piece cs marker rest

  abbrev FindsInner : Type 0
  FindsInner = (cs : List ℕ) (found : Marker × List ℕ) → inner cs ≡ Ok found → Found piece cs found

  part_if : FindsInner → (from : List ℕ) (c : ℕ) (cs : List ℕ) (found : Marker × List ℕ) → IsSpaced from (c ∷ cs)
      → (t : Bool) → (c == 40) ≡ t → (if t then inner cs >>= closed else comparison_at (c ∷ cs)) ≡ Ok found
      → IsPart from found.0 found.1
  part_if finds from c cs found s false e h = inl (comparison_found from (c ∷ cs) found s h)
  part_if finds from c cs found s true e h =
      let step = in_steps (inner cs) closed found h in
      let inside : Marker × List ℕ = step.middle in
      let f = finds cs inside step.first_is in
      let k = closed_found inside.0 inside.1 found step.next_is in
      inr (record {
        inside = cs;
        behind = f.rest;
        opens = subst (λ x. IsSpaced from (x ∷ cs)) (the_same c 40 e) s;
        is_piece = subst (λ m. piece cs m f.rest) k.1 f.is_piece;
        closes = subst (IsSpaced f.rest) k.0 f.spaced;
      })

  part_by : FindsInner → (from cs : List ℕ) (found : Marker × List ℕ) → IsSpaced from cs → part_of inner cs ≡ Ok found
      → IsPart from found.0 found.1
  part_by finds from [] found s h = absurd (cc)
  part_by finds from (c ∷ cs) found s h = part_if finds from c cs found s (c == 40) refl h

  part_found : FindsInner → (cs : List ℕ) (found : Marker × List ℕ) → part_at inner cs ≡ Ok found
      → Found IsPart cs found
  part_found finds cs found h = record {
    rest = found.1;
    is_piece = part_by finds cs (skip_leading_whitespace cs) found (spaced_found cs) h;
    spaced = spaced_none found.1;
  }

  -- inside the brackets only white space stands before the closing one
  abbrev ReadsInner : Type 0
  ReadsInner = (cs : List ℕ) (marker : Marker) (behind rest : List ℕ) → piece cs marker behind
      → IsSpaced behind (41 ∷ rest) → inner cs ≡ Ok (marker, 41 ∷ rest)

  part_again : ReadsInner → (cs : List ℕ) (marker : Marker) (rest : List ℕ) → IsPart cs marker rest
      → part_at inner cs ≡ Ok (marker, rest)
  part_again reads cs marker rest (inl h) = comparison_again inner cs marker rest h
  part_again reads cs marker rest (inr h) =
      ap (part_of inner) (spaced_again cs (40 ∷ h.inside) h.opens refl)
      ∙ ap (λ read. read >>= closed) (reads h.inside marker h.behind rest h.is_piece h.closes)

  abbrev ShrinksInner : Type 0
  ShrinksInner = (cs : List ℕ) (marker : Marker) (rest : List ℕ) → piece cs marker rest → length rest < length cs

  part_shrinks : ShrinksInner → (cs : List ℕ) (marker : Marker) (rest : List ℕ) → IsPart cs marker rest
      → length rest < length cs
  part_shrinks shrinks cs marker rest (inl h) = comparison_shrinks cs marker rest h
  part_shrinks shrinks cs marker rest (inr h) =
      let a = spaced_length cs (40 ∷ h.inside) h.opens in
      let b = shrinks h.inside marker h.behind h.is_piece in
      let c = spaced_length h.behind (41 ∷ rest) h.closes in
      omega (arith, a, b, c)

skipped_twice : (cs : List ℕ) → skip_leading_whitespace (skip_leading_whitespace cs) ≡ skip_leading_whitespace cs
skipped_twice cs = unspaced_same (skip_leading_whitespace cs) (spaces_found cs).unspaced

-- ---- formulas

-- neither word follows
abbrev pub Stops : List ℕ → Type 0
Stops rest = (is_next And rest ≡ false) × (is_next Or rest ≡ false)

abbrev Anything : List ℕ → Type 0
Anything rest = Unit {0}

abbrev NoAnd : List ℕ → Type 0
NoAnd rest = is_next And rest ≡ false

module _ (inner : List ℕ → Reading Marker) (part : List ℕ → Marker → List ℕ → Type 0) where
  abbrev FindsPart : Type 0
  FindsPart = (cs : List ℕ) (found : Marker × List ℕ) → part_at inner cs ≡ Ok found → Found part cs found

  either_found : FindsPart → (cs : List ℕ) (found : Marker × List ℕ) → either_at inner cs ≡ Ok found
      → Found (IsEither part) cs found
  either_found finds =
      joined_found Or (joined_at And (part_at inner)) (IsJoined And part) (joined_found And (part_at inner) part finds)

  abbrev ShrinksPart : Type 0
  ShrinksPart = (cs : List ℕ) (marker : Marker) (rest : List ℕ) → part cs marker rest → length rest < length cs

  either_shrinks : ShrinksPart → (cs : List ℕ) (marker : Marker) (rest : List ℕ) → IsEither part cs marker rest
      → length rest < length cs
  either_shrinks shrinks =
      joined_shrinks Or (joined_at And (part_at inner)) (IsJoined And part) (joined_shrinks And (part_at inner) part shrinks)

  abbrev ReadsPart : Type 0
  ReadsPart = (cs : List ℕ) (marker : Marker) (rest : List ℕ) → part cs marker rest → part_at inner cs ≡ Ok (marker, rest)

  chain_again : ShrinksPart → ReadsPart → (cs : List ℕ) (marker : Marker) (rest : List ℕ) → IsJoined And part cs marker rest
      → NoAnd rest → ReadSo (joined_at And (part_at inner)) cs marker rest
  chain_again shrinks reads cs marker rest h stop = record {
    left = skip_leading_whitespace rest;
    is_read =
        joined_again And (part_at inner) part Anything shrinks
        (λ ds m left p f. record { left = left; is_read = reads ds m left p; same = refl }) (λ middle behind j. tt) cs marker
        rest h stop tt;
    same = skipped_twice rest;
  }

  either_again : ShrinksPart → ReadsPart → (cs : List ℕ) (marker : Marker) (rest : List ℕ) → IsEither part cs marker rest
      → Stops rest → either_at inner cs ≡ Ok (marker, skip_leading_whitespace rest)
  either_again shrinks reads cs marker rest h stop =
      joined_again Or (joined_at And (part_at inner)) (IsJoined And part) NoAnd
      (joined_shrinks And (part_at inner) part shrinks) (chain_again shrinks reads) before_or cs marker rest h stop.1 stop.0

-- ---- what stands behind a formula

own_41 : (cs : List ℕ) → encode_utf8_all (41 ∷ cs) ≡ 41 ∷ encode_utf8_all cs
own_41 cs = ap (λ bs. bs ++ encode_utf8_all cs) (encode_ascii 41 (lit< tt))

no_bracket : (word : Connective) (bytes : List ℕ) → bytes_eq (41 ∷ bytes) (word_of word) ≡ false
no_bracket And bytes = refl
no_bracket Or bytes = refl

not_bracket : (word : Connective) (rest : List ℕ) → next_in word (41 ∷ rest) ≡ false
not_bracket word rest =
    let k = cut_found is_whitespace rest in
    ap (λ ds. next_in word (41 ∷ ds)) k.split
    ∙ ap (λ (p : List ℕ × List ℕ). bytes_eq (encode_utf8_all p.0) (word_of word))
    (cut_again is_whitespace (41 ∷ k.front) k.rest (refl, k.passes) k.ends)
    ∙ ap (λ bs. bytes_eq bs (word_of word)) (own_41 k.front) ∙ no_bracket word (encode_utf8_all k.front)

before_bracket : (behind rest : List ℕ) → IsSpaced behind (41 ∷ rest) → Stops behind
before_bracket behind rest h =
    let e = spaced_again behind (41 ∷ rest) h refl in
    (ap (next_in And) e ∙ not_bracket And rest, ap (next_in Or) e ∙ not_bracket Or rest)

pub before_end : (rest : List ℕ) → AreSpaces rest → Stops rest
before_end rest h = (let e = only_spaces rest h in (ap (next_in And) e, ap (next_in Or) e))

-- ---- by the depth of brackets

abbrev deepest : List ℕ → Reading Marker
deepest = λ inside. Err TooDeep

no_brackets_by : (from : List ℕ) (c : ℕ) (cs : List ℕ) (found : Marker × List ℕ) → IsSpaced from (c ∷ cs)
    → (t : Bool) → (c == 40) ≡ t → (if t then deepest cs >>= closed else comparison_at (c ∷ cs)) ≡ Ok found
    → IsComparisonText from found.0 found.1
no_brackets_by from c cs found s false e h = comparison_found from (c ∷ cs) found s h
no_brackets_by from c cs found s true e h = absurd (cc)

no_brackets : (from cs : List ℕ) (found : Marker × List ℕ) → IsSpaced from cs → part_of deepest cs ≡ Ok found
    → IsComparisonText from found.0 found.1
no_brackets from [] found s h = absurd (cc)
no_brackets from (c ∷ cs) found s h = no_brackets_by from c cs found s (c == 40) refl h

bare_found : (cs : List ℕ) (found : Marker × List ℕ) → part_at deepest cs ≡ Ok found → Found IsComparisonText cs found
bare_found cs found h = record {
  rest = found.1;
  is_piece = no_brackets cs (skip_leading_whitespace cs) found (spaced_found cs) h;
  spaced = spaced_none found.1;
}

pub formula_found : (depth : ℕ) (cs : List ℕ) (found : Marker × List ℕ) → formula_at depth cs ≡ Ok found
    → Found (IsFormulaText depth) cs found
formula_found zero cs found h = either_found deepest IsComparisonText bare_found cs found h
formula_found (suc depth) cs found h =
    either_found (formula_at depth) (IsPart (formula_at depth) (IsFormulaText depth))
    (part_found (formula_at depth) (IsFormulaText depth) (formula_found depth)) cs found h

formula_shrinks : (depth : ℕ) (cs : List ℕ) (marker : Marker) (rest : List ℕ) → IsFormulaText depth cs marker rest
    → length rest < length cs
formula_shrinks zero cs marker rest h = either_shrinks deepest IsComparisonText comparison_shrinks cs marker rest h
formula_shrinks (suc depth) cs marker rest h =
    either_shrinks (formula_at depth) (IsPart (formula_at depth) (IsFormulaText depth))
    (part_shrinks (formula_at depth) (IsFormulaText depth) (formula_shrinks depth)) cs marker rest h

abbrev FormulaAgain : ℕ → Type 0
FormulaAgain depth = (cs : List ℕ) (marker : Marker) (rest : List ℕ) → IsFormulaText depth cs marker rest → Stops rest
    → formula_at depth cs ≡ Ok (marker, skip_leading_whitespace rest)

inside_again : (depth : ℕ) → FormulaAgain depth → (cs : List ℕ) (marker : Marker) (behind rest : List ℕ)
    → IsFormulaText depth cs marker behind → IsSpaced behind (41 ∷ rest) → formula_at depth cs ≡ Ok (marker, 41 ∷ rest)
inside_again depth again cs marker behind rest h s =
    again cs marker behind h (before_bracket behind rest s)
    ∙ ap (λ ds. Ok (marker, ds)) (spaced_again behind (41 ∷ rest) s refl)

pub formula_again : (depth : ℕ) → FormulaAgain depth
formula_again zero cs marker rest h stop =
    either_again deepest IsComparisonText comparison_shrinks (comparison_again deepest) cs marker rest h stop
formula_again (suc depth) cs marker rest h stop =
    either_again (formula_at depth) (IsPart (formula_at depth) (IsFormulaText depth))
    (part_shrinks (formula_at depth) (IsFormulaText depth) (formula_shrinks depth))
    (part_again (formula_at depth) (IsFormulaText depth) (inside_again depth (formula_again depth))) cs marker rest h stop
