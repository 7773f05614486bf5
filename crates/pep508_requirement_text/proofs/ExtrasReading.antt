-- Extras, one piece after another.
use Rattle.std.proofs.Common.{◌≡◌, ℕ, ◌+◌, ◌<◌, Bool, false, if◌then◌else◌, eqb, List, [], ◌∷◌, ◌++◌, length}
use Rattle.std.proofs.Common.{take, drop, get_or, Option, Some, None, Result, Ok, Err, refl, sym, ap, ◌∙◌}
use Rattle.std.proofs.Common.{arith}
use Rattle.std.specs.Prelude.{option_map, option_and_then}
use Rattle.std.specs.Option.{ok_or}
use Rattle.std.specs.List.{slice_split}
use Rattle.std.specs.Str.{trim}
use Rattle.std.proofs.lemmas.List.{take-append-drop, take_more, take_all, drop_more}
use Rattle.pep508_name.specs.Name.{name_of, name_reading}
use Rattle.pep508_error.specs.Cuts.{begins_by, cut_around}
use Rattle.pep508_requirement_text.specs.FrontReading.{Refused, names_of, with_name, extras_at, extras_of}
use Rattle.pep508_requirement_text.specs.FrontReading.{bracketed, if_there}
use Rattle.pep508_error.specs.Steps.{◌>>=◌}
use Rattle.pep508_requirement_text.specs.FrontReading.Refused.{Malformed}

-- ---- names

one_more : Option (List ℕ) → List (List ℕ) → Option (List (List ℕ))
one_more None names = None
one_more (Some name) names = Some (names ++ name ∷ [])

with_more : (first last : Option (List ℕ)) (names : Option (List (List ℕ)))
    → with_name first (option_and_then (one_more last) names) ≡ option_and_then (one_more last) (with_name first names)
unfolding one_more
with_more None last names = refl
with_more (Some first) last None = refl
with_more (Some first) None (Some names) = refl
with_more (Some first) (Some last) (Some names) = refl

alone_is : (last : Option (List ℕ)) → with_name last (Some []) ≡ one_more last []
unfolding one_more
alone_is None = refl
alone_is (Some last) = refl

names_snoc : (pieces : List (List ℕ)) (piece : List ℕ)
    → names_of (pieces ++ piece ∷ []) ≡ option_and_then (one_more (name_of (trim piece))) (names_of pieces)
names_snoc [] piece = alone_is (name_of (trim piece))
names_snoc (p ∷ pieces) piece =
    ap (with_name (name_of (trim p))) (names_snoc pieces piece)
    ∙ with_more (name_of (trim p)) (name_of (trim piece)) (names_of pieces)

with_none : (first : Option (List ℕ)) → with_name first None ≡ None
with_none None = refl
with_none (Some first) = refl

none_first : (others : Option (List (List ℕ))) → with_name None others ≡ None
none_first others = refl

names_none : (pieces after : List (List ℕ)) (piece : List ℕ) → name_of (trim piece) ≡ None
    → names_of (pieces ++ piece ∷ after) ≡ None
names_none [] after piece e = ap (λ (n : Option (List ℕ)). with_name n (names_of after)) e
names_none (p ∷ pieces) after piece e =
    ap (with_name (name_of (trim p))) (names_none pieces after piece e) ∙ with_none (name_of (trim p))

abbrev pub pieces_of : List ℕ → List (List ℕ)
pieces_of inside = slice_split (λ b. eqb b 44) inside

-- so many pieces are these names
pub record AreRead (inside : List ℕ) (count : ℕ) (names : List (List ℕ)) : Type 0 where
  pub read : names_of (take count (pieces_of inside)) ≡ Some names

-- the piece at which reading stands
abbrev pub IsPiece : List ℕ → ℕ → List ℕ → Type 0
IsPiece inside count piece = (count < length (pieces_of inside)) × (piece ≡ get_or (pieces_of inside) count piece)

pub none_read : (inside : List ℕ) (names : List (List ℕ)) → names ≡ [] → AreRead inside 0 names
none_read inside names e = record { read = ap Some (sym e) }

take_next : {A : Type 0} (xs : List A) (n : ℕ) (x : A) → n < length xs → x ≡ get_or xs n x
    → take (n + 1) xs ≡ take n xs ++ x ∷ []
take_next xs n x h e = take_more xs n x h ∙ ap (λ y. take n xs ++ y ∷ []) (sym e)

split_next : {A : Type 0} (xs : List A) (n : ℕ) (x : A) → n < length xs → x ≡ get_or xs n x
    → xs ≡ take n xs ++ x ∷ drop (n + 1) xs
split_next xs n x h e =
    sym (take-append-drop n xs)
    ∙ ap (λ ys. take n xs ++ ys) (drop_more xs n x h ∙ ap (λ y. y ∷ drop (n + 1) xs) (sym e))

pub read_more : (inside : List ℕ) (count : ℕ) (names : List (List ℕ)) (piece name : List ℕ) → AreRead inside count names
    → IsPiece inside count piece → name_of (trim piece) ≡ Some name → (later : ℕ) → later ≡ count + 1
    → (longer : List (List ℕ)) → longer ≡ names ++ name ∷ [] → AreRead inside later longer
unfolding one_more
read_more inside count names piece name h at e later l longer m = record {
  read =
      ap (λ n. names_of (take n (pieces_of inside))) l
      ∙ ap names_of (take_next (pieces_of inside) count piece at.0 at.1)
      ∙ names_snoc (take count (pieces_of inside)) piece
      ∙ ap (λ n. option_and_then (one_more n) (names_of (take count (pieces_of inside)))) e
      ∙ ap (option_and_then (one_more (Some name))) h.read
      ∙ ap Some (sym m);
}

pub read_none : (inside : List ℕ) (count : ℕ) (piece : List ℕ) → IsPiece inside count piece → name_of (trim piece) ≡ None
    → names_of (pieces_of inside) ≡ None
read_none inside count piece at e =
    ap names_of (split_next (pieces_of inside) count piece at.0 at.1)
    ∙ names_none (take count (pieces_of inside)) (drop (count + 1) (pieces_of inside)) piece e

pub all_read : (inside : List ℕ) (count : ℕ) (names : List (List ℕ)) → AreRead inside count names
    → count ≡ length (pieces_of inside) → Some names ≡ names_of (pieces_of inside)
all_read inside count names h e =
    sym h.read ∙ ap names_of (take_all count (pieces_of inside) (omega (arith, e)))

-- ---- one name

by_cases : (found : Option (List ℕ)) (text name : List ℕ) → ok_or found text ≡ Ok name → Some name ≡ found
by_cases None text name e = absurd (cc)
by_cases (Some same) text name e = cc

none_by : (found : Option (List ℕ)) (text told : List ℕ) → ok_or found text ≡ Err told → None ≡ found
none_by None text told e = refl
none_by (Some same) text told e = absurd (cc)

pub taken_name : (text name : List ℕ) → name_reading text ≡ Ok name → Some name ≡ name_of text
taken_name text name e = by_cases (name_of text) text name e

pub refused_name : (text told : List ℕ) → name_reading text ≡ Err told → None ≡ name_of text
refused_name text told e = none_by (name_of text) text told e

-- ---- brackets

pub no_bracket : (cs : List ℕ) → begins_by (λ c. eqb c 91) cs ≡ false → extras_at cs ≡ Ok ([], cs)
no_bracket [] h = refl
no_bracket (c ∷ cs) h = ap (λ (t : Bool). if t then if_there (cut_around 93 cs) >>= bracketed else Ok ([], c ∷ cs)) h

abbrev inside_of : Option (List ℕ × List ℕ) → Result (List (List ℕ) × List ℕ) Refused
inside_of found = if_there found >>= bracketed

bracket : (cs inner : List ℕ) → cs ≡ 91 ∷ inner → extras_at cs ≡ inside_of (cut_around 93 inner)
bracket cs inner e = ap extras_at e

pub unclosed : (cs inner : List ℕ) → cs ≡ 91 ∷ inner → cut_around 93 inner ≡ None → extras_at cs ≡ Err Malformed
unclosed cs inner e f = bracket cs inner e ∙ ap inside_of f

abbrev named : List ℕ → Option (List (List ℕ)) → Result (List (List ℕ) × List ℕ) Refused
named rest names = if_there (option_map (λ ns. (ns, rest)) names)

pub bad_names : (cs inner inside rest : List ℕ) → cs ≡ 91 ∷ inner → cut_around 93 inner ≡ Some (inside, rest)
    → extras_of inside ≡ None → extras_at cs ≡ Err Malformed
bad_names cs inner inside rest e f g = bracket cs inner e ∙ ap inside_of f ∙ ap (named rest) g

pub good_names : (cs inner inside rest : List ℕ) (names : List (List ℕ)) → cs ≡ 91 ∷ inner
    → cut_around 93 inner ≡ Some (inside, rest) → extras_of inside ≡ Some names → extras_at cs ≡ Ok (names, rest)
good_names cs inner inside rest names e f g = bracket cs inner e ∙ ap inside_of f ∙ ap (named rest) g
