-- A name in normal form has no dot, so that it is no archive's.
use Rattle.std.proofs.Common.{◌≡◌, ℕ, ◌==◌, ◌&&◌, ◌||◌, ◌-◌, Bool, true, false, nat_lt, eqb, length, drop}
use Rattle.std.proofs.Common.{List, [], ◌∷◌, Option, Some, None, option_map, inl, inr, zero, suc, refl, ap}
use Rattle.std.proofs.Common.{sym, subst, ◌∙◌, arith}
use Rattle.std.proofs.lemmas.Bool.{cases_Bool}
use Rattle.std.proofs.lemmas.Bool.Decides.{nat_tests}
use Rattle.std.specs.Char.{to_ascii_lowercase}
use Rattle.std.specs.Cmp.Lexicographic.{pointwise}
use Rattle.std.specs.List.{AllByRecursion, ends_with, list_all, list_any}
use Rattle.pep508_name.specs.Name.{is_alphanumeric, is_separator, name_of}
use Rattle.pep508_name.proofs.Parts.{name_of-empty, name_of-refused, name_of-begun}
use Rattle.pep508_name.proofs.Walk.{with_byte, behind, written, behind_separator, behind_letter, behind_none}
use Rattle.pep508_error.specs.Cuts.{begins_by}
use Rattle.pep508_error.proofs.Tests.{and_parts}
use Rattle.pep508_requirement_text.specs.Archives.{endings, has_ending, is_archive}

abbrev Dotless : List ℕ → Type 0
Dotless = AllByRecursion (λ b. (46 == b) ≡ false)

lower_dotless : (b : ℕ) → is_alphanumeric b ≡ true → (46 == to_ascii_lowercase b) ≡ false
lower_dotless b h = grind (arith, nat_tests)

-- ---- names

with_dotless : (s : Bool) (b : ℕ) (more : List ℕ) → is_alphanumeric b ≡ true → Dotless more →
    Dotless (with_byte s b more)
with_dotless true b more h d = (refl, (lower_dotless b h, d))
with_dotless false b more h d = (lower_dotless b h, d)

mapped_dotless : (s : Bool) (b : ℕ) (found : Option (List ℕ)) (more : List ℕ) → is_alphanumeric b ≡ true →
    option_map (with_byte s b) found ≡ Some more → ((rest : List ℕ) → found ≡ Some rest → Dotless rest) →
    Dotless more
mapped_dotless s b None more h e so = absurd (cc)
mapped_dotless s b (Some rest) more h e so =
    let is : with_byte s b rest ≡ more = cc in subst Dotless is (with_dotless s b rest h (so rest refl))

behind_dotless : (s : Bool) (bs more : List ℕ) → behind s bs ≡ Some more → Dotless more
behind_dotless true [] more e = absurd (cc)
behind_dotless false [] more e = let is : [] ≡ more = cc in subst Dotless is tt
behind_dotless s (b ∷ bs) more e = elim (cases_Bool (is_separator b)) [
  | inl apart ↦ behind_dotless true bs more (sym (behind_separator s b bs apart) ∙ e)
  | inr not_apart ↦ elim (cases_Bool (is_alphanumeric b)) [
    | inl letter ↦
        mapped_dotless s b (behind false bs) more letter (sym (behind_letter s b bs letter) ∙ e)
        (λ rest k. behind_dotless false bs rest k)
    | inr none ↦ absurd (let is : None ≡ Some more = sym (behind_none s b bs not_apart none) ∙ e in cc)
  ]
]

written_dotless : (b : ℕ) (found : Option (List ℕ)) (name : List ℕ) → is_alphanumeric b ≡ true →
    written (to_ascii_lowercase b ∷ []) found ≡ Some name →
    ((rest : List ℕ) → found ≡ Some rest → Dotless rest) → Dotless name
written_dotless b None name h e so = absurd (cc)
written_dotless b (Some rest) name h e so =
    let is : to_ascii_lowercase b ∷ rest ≡ name = cc in subst Dotless is (lower_dotless b h, so rest refl)

name_dotless : (text name : List ℕ) → name_of text ≡ Some name → Dotless name
name_dotless [] name e = absurd (let is : None ≡ Some name = sym name_of-empty ∙ e in cc)
name_dotless (b ∷ bs) name e = elim (cases_Bool (is_alphanumeric b)) [
  | inl letter ↦
      written_dotless b (behind false bs) name letter (sym (name_of-begun b bs letter) ∙ e)
      (λ rest k. behind_dotless false bs rest k)
  | inr none ↦ absurd (let is : None ≡ Some name = sym (name_of-refused b bs none) ∙ e in cc)
]

-- ---- endings

dropped : (count : ℕ) (bs : List ℕ) → Dotless bs → Dotless (drop count bs)
dropped zero bs h = h
dropped (suc count) [] h = tt
dropped (suc count) (b ∷ bs) h = dropped count bs h.1

the_dot : (c : ℕ) → (c == 46) ≡ true → c ≡ 46
the_dot c h = grind (arith, nat_tests)

and_false : (a b : Bool) → b ≡ false → (a && b) ≡ false
and_false true b h = h
and_false false b h = refl

no_dot_first : (ending bs : List ℕ) → begins_by (λ c. c == 46) ending ≡ true → Dotless bs →
    pointwise eqb ending bs ≡ false
no_dot_first [] bs h d = absurd (cc)
no_dot_first (c ∷ ending) [] h d = refl
no_dot_first (c ∷ ending) (b ∷ bs) h d =
    ap (λ x. eqb x b && pointwise eqb ending bs) (the_dot c h) ∙ ap (λ t. t && pointwise eqb ending bs) d.0

no_ending : (text ending : List ℕ) → begins_by (λ c. c == 46) ending ≡ true → Dotless text →
    has_ending text ending ≡ false
no_ending text ending h d =
    and_false (nat_lt (length ending) (length text)) (ends_with eqb text ending)
    (no_dot_first ending (drop (length text - length ending) text) h (dropped (length text - length ending) text d))

no_endings : (text : List ℕ) (all : List (List ℕ)) → list_all (begins_by (λ c. c == 46)) all ≡ true →
    Dotless text → list_any (has_ending text) all ≡ false
no_endings text [] h d = refl
no_endings text (ending ∷ all) h d =
    let parts = and_parts (begins_by (λ c. c == 46) ending) (list_all (begins_by (λ c. c == 46)) all) h in
    ap (λ t. t || list_any (has_ending text) all) (no_ending text ending parts.0 d)
    ∙ no_endings text all parts.1 d

pub no_archive : (text name : List ℕ) → name_of text ≡ Some name → is_archive name ≡ false
unfolding is_archive
no_archive text name h = no_endings name endings refl (name_dotless text name h)
