-- What is read byte by byte is what the definition says.
use Rattle.std.proofs.Common.{◌≡◌, ℕ, suc, ◌-◌, ◌&&◌, ◌||◌, inl, inr, Bool, true, false, not, cond}
use Rattle.std.proofs.Common.{if◌then◌else◌, List, [], ◌∷◌, ◌++◌, length, map, filter, Option, Some, None}
use Rattle.std.proofs.Common.{option_map, refl, ap, sym, ◌∙◌, arith}
use Rattle.std.proofs.lemmas.Grind.{common_steps}
use Rattle.std.specs.Char.{to_ascii_lowercase}
use Rattle.std.specs.Option.{option_map_or}
use Rattle.std.specs.List.{slice_get, slice_split, onto_first, join_with_byte, list_all}
use Rattle.pep508_name.specs.Name.{is_alphanumeric, is_separator, is_name_byte, is_alphanumeric_at, is_name}
use Rattle.pep508_name.specs.Name.{is_part, normal_name, name_of}
use Rattle.pep508_name.proofs.Walk.{with_byte, behind, written, two, separators_apart, no_separator}
use Rattle.pep508_name.proofs.Walk.{behind_separator, behind_letter, behind_none}

-- the last of a byte and more
abbrev pub last_from : ℕ → List ℕ → ℕ
last_from b [] = b
last_from b (c ∷ cs) = last_from c cs

last_at : (b : ℕ) (bs : List ℕ) → slice_get (b ∷ bs) (length (b ∷ bs) - 1) ≡ Some (last_from b bs)
last_at b [] = refl
last_at b (c ∷ cs) = let e : length (b ∷ c ∷ cs) - 1 ≡ suc (length (c ∷ cs) - 1) = omega arith in ap (slice_get (b ∷ c ∷ cs)) e ∙ last_at c cs

-- parts that follow a written one
abbrev pub tail_text : List (List ℕ) → List ℕ
tail_text [] = []
tail_text (p ∷ ps) = 45 ∷ join_with_byte 45 (p ∷ ps)

pub no_more : (xs : List ℕ) → xs ≡ xs ++ []
no_more xs = grind (arith, common_steps)

join-cons : (p : List ℕ) (ps : List (List ℕ)) → join_with_byte 45 (p ∷ ps) ≡ p ++ tail_text ps
join-cons p [] = no_more p
join-cons p (q ∷ qs) = refl

-- what parts add behind a letter or digit, or behind a separator
abbrev pub more_text : Bool → List (List ℕ) → List ℕ
more_text true parts = tail_text (filter is_part parts)
more_text false [] = []
more_text false (p ∷ ps) = p ++ tail_text (filter is_part ps)

-- a byte that goes on with the first part
more_on : (b : ℕ) (parts : List (List ℕ)) → more_text false (onto_first b parts) ≡ b ∷ more_text false parts
more_on b [] = refl
more_on b (p ∷ ps) = refl

-- a byte that begins a part
more_new : (b : ℕ) (parts : List (List ℕ)) → more_text true (onto_first b parts) ≡ 45 ∷ b ∷ more_text false parts
more_new b [] = refl
more_new b (p ∷ ps) = ap (λ xs. 45 ∷ xs) (join-cons (b ∷ p) (filter is_part ps))

-- what a text behind another byte is, if the whole may be a name
abbrev pub if_name : Bool → List ℕ → Option (List ℕ)
if_name test more = cond test (Some (map to_ascii_lowercase more)) None

-- an empty part adds nothing
more_empty : (s : Bool) (parts : List (List ℕ)) → more_text s ([] ∷ parts) ≡ more_text true parts
more_empty true parts = refl
more_empty false parts = refl

more_byte : (s : Bool) (b : ℕ) (parts : List (List ℕ)) → map to_ascii_lowercase (more_text s (onto_first b parts)) ≡ with_byte s b (map to_ascii_lowercase (more_text false parts))
more_byte true b parts = ap (map to_ascii_lowercase) (more_new b parts)
more_byte false b parts = ap (map to_ascii_lowercase) (more_on b parts)

mapped : (s : Bool) (b : ℕ) (test : Bool) (parts : List (List ℕ)) → option_map (with_byte s b) (if_name test (more_text false parts)) ≡ if_name test (more_text s (onto_first b parts))
mapped s b true parts = ap Some (sym (more_byte s b parts))
mapped s b false parts = refl

-- the end of a text, its parts, and whether its bytes are those of names, as one test
abbrev pub whole : Bool → ℕ → List ℕ → Bool → Bool → List (List ℕ) → Option (List ℕ)
whole s b bs named separator parts = if_name ((named && list_all is_name_byte bs) && is_alphanumeric (last_from b bs)) (more_text s (cond separator ([] ∷ parts) (onto_first b parts)))

named_letter : (b : ℕ) → is_alphanumeric b ≡ true → is_name_byte b ≡ true
named_letter b h = ap (λ t. t || is_separator b) h

named_separator : (b : ℕ) → is_separator b ≡ true → is_name_byte b ≡ true
named_separator b h = ap (λ t. t || is_separator b) (separators_apart b h) ∙ h

named_none : (b : ℕ) → is_alphanumeric b ≡ false → is_separator b ≡ false → is_name_byte b ≡ false
named_none b h g = ap (λ t. t || is_separator b) h ∙ g

-- one byte more, by its kind
by_separator : (s : Bool) (b : ℕ) (bs : List ℕ) → is_separator b ≡ true
    → behind true bs ≡ if_name (list_all is_name_byte bs && is_alphanumeric (last_from b bs)) (more_text true (slice_split is_separator bs))
    → behind s (b ∷ bs) ≡ whole s b bs (is_name_byte b) (is_separator b) (slice_split is_separator bs)
by_separator s b bs sep ih =
    behind_separator s b bs sep ∙ ih
    ∙ sym (ap (λ t. whole s b bs t (is_separator b) (slice_split is_separator bs)) (named_separator b sep)
    ∙ ap (λ t. whole s b bs true t (slice_split is_separator bs)) sep
    ∙ ap (if_name (list_all is_name_byte bs && is_alphanumeric (last_from b bs))) (more_empty s (slice_split is_separator bs)))

by_letter : (s : Bool) (b : ℕ) (bs : List ℕ) → is_alphanumeric b ≡ true
    → behind false bs ≡ if_name (list_all is_name_byte bs && is_alphanumeric (last_from b bs)) (more_text false (slice_split is_separator bs))
    → behind s (b ∷ bs) ≡ whole s b bs (is_name_byte b) (is_separator b) (slice_split is_separator bs)
by_letter s b bs letter ih =
    behind_letter s b bs letter ∙ ap (option_map (with_byte s b)) ih
    ∙ mapped s b (list_all is_name_byte bs && is_alphanumeric (last_from b bs)) (slice_split is_separator bs)
    ∙ sym (ap (λ t. whole s b bs t (is_separator b) (slice_split is_separator bs)) (named_letter b letter)
    ∙ ap (λ t. whole s b bs true t (slice_split is_separator bs)) (no_separator b letter))

by_none : (s : Bool) (b : ℕ) (bs : List ℕ) → is_separator b ≡ false → is_alphanumeric b ≡ false
    → behind s (b ∷ bs) ≡ whole s b bs (is_name_byte b) (is_separator b) (slice_split is_separator bs)
by_none s b bs sep letter =
    behind_none s b bs sep letter ∙ sym (ap (λ t. whole s b bs t (is_separator b) (slice_split is_separator bs)) (named_none b letter sep))

-- what a text adds behind a byte, in the words of the definition
pub behind_is : (s : Bool) (x : ℕ) (bs : List ℕ) → is_alphanumeric x ≡ not s
    → behind s bs ≡ if_name (list_all is_name_byte bs && is_alphanumeric (last_from x bs)) (more_text s (slice_split is_separator bs))
behind_is true x [] h = sym (ap (λ t. if_name t []) h)
behind_is false x [] h = sym (ap (λ t. if_name t []) h)
behind_is s x (b ∷ bs) h = elim (two (is_separator b)) [
  | inl sep ↦ by_separator s b bs sep (behind_is true b bs (separators_apart b sep))
  | inr sep ↦ elim (two (is_alphanumeric b)) [
    | inl letter ↦ by_letter s b bs letter (behind_is false b bs letter)
    | inr letter ↦ by_none s b bs sep letter
  ]
]

and_false : (x : Bool) → x && false ≡ false
and_false true = refl
and_false false = refl

and_true : (x : Bool) → x && true ≡ x
and_true true = refl
and_true false = refl

-- whether a text that begins with a byte is a name
begun_is_name : (b : ℕ) (bs : List ℕ) → is_alphanumeric b ≡ true → is_name (b ∷ bs) ≡ (list_all is_name_byte bs && is_alphanumeric (last_from b bs))
begun_is_name b bs h =
    ap (λ t. ((t && list_all is_name_byte bs) && is_alphanumeric b) && is_alphanumeric_at (b ∷ bs) (length (b ∷ bs) - 1)) (named_letter b h)
    ∙ ap (λ t. (list_all is_name_byte bs && t) && is_alphanumeric_at (b ∷ bs) (length (b ∷ bs) - 1)) h
    ∙ ap (λ t. t && is_alphanumeric_at (b ∷ bs) (length (b ∷ bs) - 1)) (and_true (list_all is_name_byte bs))
    ∙ ap (λ found. list_all is_name_byte bs && option_map_or is_alphanumeric found false) (last_at b bs)

join_begun : (b : ℕ) (parts : List (List ℕ)) → join_with_byte 45 (filter is_part (onto_first b parts)) ≡ b ∷ more_text false parts
join_begun b [] = refl
join_begun b (p ∷ ps) = join-cons (b ∷ p) (filter is_part ps)

begun_normal : (b : ℕ) (bs : List ℕ) → is_alphanumeric b ≡ true → normal_name (b ∷ bs) ≡ map to_ascii_lowercase (b ∷ more_text false (slice_split is_separator bs))
unfolding normal_name
begun_normal b bs h =
    ap (λ t. map to_ascii_lowercase (join_with_byte 45 (filter is_part (cond t ([] ∷ slice_split is_separator bs) (onto_first b (slice_split is_separator bs)))))) (no_separator b h)
    ∙ ap (map to_ascii_lowercase) (join_begun b (slice_split is_separator bs))

written_name : (b : ℕ) (test : Bool) (more : List ℕ) → written (to_ascii_lowercase b ∷ []) (if_name test more) ≡ cond test (Some (map to_ascii_lowercase (b ∷ more))) None
written_name b true more = refl
written_name b false more = refl

pub name_of-empty : name_of [] ≡ None
unfolding name_of
name_of-empty = refl

pub name_of-refused : (b : ℕ) (bs : List ℕ) → is_alphanumeric b ≡ false → name_of (b ∷ bs) ≡ None
unfolding name_of
name_of-refused b bs h =
    ap (λ t. cond ((list_all is_name_byte (b ∷ bs) && t) && is_alphanumeric_at (b ∷ bs) (length (b ∷ bs) - 1)) (Some (normal_name (b ∷ bs))) None) h
    ∙ ap (λ t. cond (t && is_alphanumeric_at (b ∷ bs) (length (b ∷ bs) - 1)) (Some (normal_name (b ∷ bs))) None) (and_false (list_all is_name_byte (b ∷ bs)))

pub name_of-begun : (b : ℕ) (bs : List ℕ) → is_alphanumeric b ≡ true → name_of (b ∷ bs) ≡ written (to_ascii_lowercase b ∷ []) (behind false bs)
unfolding name_of
name_of-begun b bs h =
    ap (λ t. cond t (Some (normal_name (b ∷ bs))) None) (begun_is_name b bs h)
    ∙ ap (λ name. cond (list_all is_name_byte bs && is_alphanumeric (last_from b bs)) (Some name) None) (begun_normal b bs h)
    ∙ sym (ap (written (to_ascii_lowercase b ∷ [])) (behind_is false b bs h)
    ∙ written_name b (list_all is_name_byte bs && is_alphanumeric (last_from b bs)) (more_text false (slice_split is_separator bs)))

-- the normal form of a name
pub named : (text : List ℕ) → is_name text ≡ true → name_of text ≡ Some (normal_name text)
unfolding name_of
named text h = ap (λ t. if t then Some (normal_name text) else None) h
