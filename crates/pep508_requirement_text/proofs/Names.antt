-- Names with white space around them, and the extras in brackets.
use Rattle.std.proofs.Common.{◌≡◌, ◌≢◌, ℕ, ◌<◌, ◌-◌, ◌==◌, ◌&&◌, Bool, true, false, if◌then◌else◌, List}
use Rattle.std.proofs.Common.{[], ◌∷◌, ◌++◌, length, map, Option, Some, None, inl, inr, refl, ap, sym}
use Rattle.std.proofs.Common.{subst, ◌∙◌, arith, append_assoc}
use Rattle.std.proofs.lemmas.Bool.Decides.{nat_tests}
use Rattle.std.proofs.lemmas.List.{append-nil}
use Rattle.std.proofs.lemmas.List.Splits.{join_with_byte-slice_split}
use Rattle.std.proofs.lemmas.Str.{encodes_same, encode_ascii}
use Rattle.std.specs.Char.{is_whitespace}
use Rattle.std.specs.Int.{IsInRange}
use Rattle.std.specs.List.{AllByRecursion, AllZip, slice_split, join_with_byte, list_all}
use Rattle.std.specs.Str.{encode_utf8_all, skip_leading_whitespace, drop_trailing_whitespace, trim}
use Rattle.pep440_specifier.specs.SpecifierText.{AreSpaces}
use Rattle.pep508_name.specs.Name.{is_name, is_name_byte, is_alphanumeric_at, name_of, normal_name}
use Rattle.pep508_requirement_text.specs.FrontReading.{with_name}
use Rattle.pep508_requirement_text.specs.FrontReading.{names_of, extras_of}
use Rattle.pep508_requirement_text.specs.FrontText.{IsSpacedName, IsInside}
use Rattle.pep508_error.proofs.Tests.{another, and_parts}
use Rattle.pep508_error.proofs.Cuts.{behind_front, NonePasses, none_joined}
use Rattle.std.proofs.lemmas.Option.{same_Some}
use Rattle.pep508_error.proofs.Spaces.{Unspaced, spaces_found, spaces_again, only_spaces}
use Rattle.pep508_requirement_text.proofs.Pieces.{is_comma, split_encoded, split_joined}
use Rattle.pep508_requirement_text.proofs.Pieces.{trailing_found, trailing_again, bare}
use Rattle.pep508_requirement_text.proofs.Pieces.{trimmed}
use Rattle.pep508_requirement_text.proofs.Pieces.{nothing_encoded, some_piece}

-- ---- the characters of names

in_name : (c : ℕ) → is_name_byte c ≡ true → IsInRange 45 122 c
in_name c h = grind (arith, nat_tests)

graphic : (c : ℕ) → IsInRange 45 122 c → is_whitespace c ≡ false
graphic c h = grind (arith, nat_tests)

pub name_unspaced : (c : ℕ) → is_name_byte c ≡ true → is_whitespace c ≡ false
name_unspaced c h = graphic c (in_name c h)

abbrev pub AreNameBytes : List ℕ → Type 0
AreNameBytes = AllByRecursion (λ c. is_name_byte c ≡ true)

name_bytes_by : (cs : List ℕ) → list_all is_name_byte cs ≡ true → AreNameBytes cs
name_bytes_by [] h = tt
name_bytes_by (c ∷ cs) h =
    let p = and_parts (is_name_byte c) (list_all is_name_byte cs) h in (p.0, name_bytes_by cs p.1)

-- the first character of a name, and all of them
pub record IsNamed (cs : List ℕ) (name : List ℕ) : Type 0 where
  pub is_one : is_name cs ≡ true
  pub normal : normal_name cs ≡ name
  pub bytes : AreNameBytes cs
  pub first : cs ≢ []

named_by : (cs name : List ℕ) (t : Bool) → is_name cs ≡ t
    → (if t then Some (normal_name cs) else None) ≡ Some name
    → IsNamed cs name
named_by cs name true e h =
    let p = and_parts (list_all is_name_byte cs && is_alphanumeric_at cs 0) (is_alphanumeric_at cs (length cs - 1)) e in
    let q = and_parts (list_all is_name_byte cs) (is_alphanumeric_at cs 0) p.0 in
    record {
      is_one = e;
      normal = cc;
      bytes = name_bytes_by cs q.0;
      first = λ nothing.
          (let none : is_alphanumeric_at cs 0 ≡ false = ap (λ xs. is_alphanumeric_at xs 0) nothing in absurd (cc));
    }
named_by cs name false e h = absurd (cc)

pub named : (cs name : List ℕ) → name_of cs ≡ Some name → IsNamed cs name
unfolding name_of
named cs name h = named_by cs name (is_name cs) refl h

pub mapped : (P Q : ℕ → Type 0) → ((c : ℕ) → P c → Q c) → (cs : List ℕ) → AllByRecursion P cs
    → AllByRecursion Q cs
mapped P Q f [] h = tt
mapped P Q f (c ∷ cs) h = (f c h.0, mapped P Q f cs h.1)

-- ---- ASCII is its own encoding

abbrev AreAscii : List ℕ → Type 0
AreAscii = AllByRecursion (λ c. c < 128)

ascii_same : (text : List ℕ) → AreAscii text → encode_utf8_all text ≡ text
ascii_same [] h = refl
ascii_same (b ∷ bs) h = ap (λ e. e ++ encode_utf8_all bs) (encode_ascii b h.0) ∙ ap (λ e. b ∷ e) (ascii_same bs h.1)

small : (c : ℕ) → is_name_byte c ≡ true → c < 128
small c h = (let r = in_name c h in omega arith)

pub name_encoded : (cs : List ℕ) → AreNameBytes cs → encode_utf8_all cs ≡ cs
name_encoded cs h = ascii_same cs (mapped (λ c. is_name_byte c ≡ true) (λ c. c < 128) small cs h)

-- characters whose encoding is a name are that name
own_encoding : (cs : List ℕ) → AreNameBytes (encode_utf8_all cs) → encode_utf8_all cs ≡ cs
own_encoding cs h = encodes_same (encode_utf8_all cs) cs (name_encoded (encode_utf8_all cs) h)

-- ---- one name with white space around it

name_front : (cs rest : List ℕ) → cs ≢ [] → AreNameBytes cs → Unspaced (cs ++ rest)
name_front [] rest some h = absurd (some refl)
name_front (c ∷ cs) rest some h = name_unspaced c h.0

pub behind_spaces : (before written rest name : List ℕ) → AreSpaces before → name_of written ≡ Some name
    → skip_leading_whitespace (before ++ (written ++ rest)) ≡ written ++ rest
behind_spaces before written rest name spaces h =
    let n = named written name h in
    spaces_again before (written ++ rest) spaces (name_front written rest n.first n.bytes)

spaced_found : (cs name : List ℕ) → name_of (trim (encode_utf8_all cs)) ≡ Some name
    → IsSpacedName cs name
spaced_found cs name h =
    let s = spaces_found cs in
    let t = trailing_found (skip_leading_whitespace cs) in
    let read : name_of (encode_utf8_all (bare cs)) ≡ Some name = ap name_of (sym (trimmed cs)) ∙ h in
    let own = own_encoding (bare cs) (named (encode_utf8_all (bare cs)) name read).bytes in
    record {
      before = s.spaces;
      written = bare cs;
      after = t.spaces;
      split = s.split ∙ ap (λ ds. s.spaces ++ ds) t.split ∙ sym (append_assoc s.spaces (bare cs) t.spaces);
      spaces_before = s.are_spaces;
      is_name = ap name_of (sym own) ∙ read;
      spaces_after = t.are_spaces;
    }

spaced_again : (cs name : List ℕ) → IsSpacedName cs name
    → name_of (trim (encode_utf8_all cs)) ≡ Some name
spaced_again cs name h =
    let n = named h.written name h.is_name in
    let skips : skip_leading_whitespace cs ≡ h.written ++ h.after =
    ap skip_leading_whitespace (h.split ∙ append_assoc h.before h.written h.after)
    ∙ behind_spaces h.before h.written h.after name h.spaces_before h.is_name in
    let is_bare : bare cs ≡ h.written =
    ap drop_trailing_whitespace skips
    ∙ trailing_again h.written h.after
    (mapped (λ c. is_name_byte c ≡ true) (λ c. is_whitespace c ≡ false) name_unspaced h.written n.bytes) h.spaces_after in
    ap name_of (trimmed cs ∙ ap encode_utf8_all is_bare ∙ name_encoded h.written n.bytes) ∙ h.is_name

-- ---- names between commas

record AreWithName (first : Option (List ℕ)) (others : Option (List (List ℕ))) (names : List (List ℕ)) : Type 0 where
  name : List ℕ
  more : List (List ℕ)
  first_is : first ≡ Some name
  others_are : others ≡ Some more
  names_are : names ≡ name ∷ more

name_and_more : (first : Option (List ℕ)) (others : Option (List (List ℕ))) (names : List (List ℕ))
    → with_name first others ≡ Some names → AreWithName first others names
name_and_more None others names h = absurd (cc)
name_and_more (Some name) None names h = absurd (cc)
name_and_more (Some name) (Some more) names h = record {
  name = name;
  more = more;
  first_is = refl;
  others_are = refl;
  names_are = sym (same_Some (name ∷ more) names h);
}

names_found : (pieces names : List (List ℕ))
    → names_of (map encode_utf8_all pieces) ≡ Some names → AllZip IsSpacedName pieces names
names_found [] [] h = tt
names_found [] (n ∷ ns) h = absurd (cc)
names_found (p ∷ ps) names h =
    let are = name_and_more (name_of (trim (encode_utf8_all p))) (names_of (map encode_utf8_all ps)) names h in
    subst (AllZip IsSpacedName (p ∷ ps)) (sym are.names_are)
    (spaced_found p are.name are.first_is, names_found ps are.more are.others_are)

names_again : (pieces names : List (List ℕ))
    → AllZip IsSpacedName pieces names
    → names_of (map encode_utf8_all pieces) ≡ Some names
names_again [] [] h = refl
names_again [] (n ∷ ns) h = absurd h
names_again (p ∷ ps) [] h = absurd h
names_again (p ∷ ps) (n ∷ ns) h =
    ap (λ first. with_name first (names_of (map encode_utf8_all ps))) (spaced_again p n h.0)
    ∙ ap (with_name (Some n)) (names_again ps ns h.1)

-- ---- the names between brackets

pub spaces_joined : (front rest : List ℕ) → AreSpaces front → AreSpaces rest → AreSpaces (front ++ rest)
spaces_joined [] rest h k = k
spaces_joined (c ∷ cs) rest h k = (h.0, spaces_joined cs rest h.1 k)

-- white space alone
all_spaces : (cs : List ℕ) → (length (trim (encode_utf8_all cs)) == 0) ≡ true → AreSpaces cs
all_spaces cs h =
    let s = spaces_found cs in
    let t = trailing_found (skip_leading_whitespace cs) in
    let none : bare cs ≡ [] = nothing_encoded (bare cs) (ap (λ bs. length bs == 0) (sym (trimmed cs)) ∙ h) in
    let split : cs ≡ s.spaces ++ t.spaces = s.split ∙ ap (λ ds. s.spaces ++ ds) (t.split ∙ ap (λ ds. ds ++ t.spaces) none) in
    subst AreSpaces (sym split) (spaces_joined s.spaces t.spaces s.are_spaces t.are_spaces)

no_spaces_in_name : (written rest : List ℕ) → written ≢ [] → AreNameBytes written
    → AreSpaces (written ++ rest) → ⊥
no_spaces_in_name [] rest some h k = some refl
no_spaces_in_name (c ∷ cs) rest some h k = (let no = name_unspaced c h.0 in let yes = k.0 in absurd (cc))

-- a name is no white space
no_spaces_spaced : (cs name more : List ℕ) → IsSpacedName cs name → AreSpaces (cs ++ more) → ⊥
no_spaces_spaced cs name more h k =
    let n = named h.written name h.is_name in
    let split : cs ++ more ≡ h.before ++ (h.written ++ (h.after ++ more)) =
    ap (λ ds. ds ++ more) (h.split ∙ append_assoc h.before h.written h.after)
    ∙ append_assoc h.before (h.written ++ h.after) more
    ∙ ap (λ ds. h.before ++ ds) (append_assoc h.written h.after more) in
    no_spaces_in_name h.written (h.after ++ more) n.first n.bytes
    (behind_front (λ c. is_whitespace c ≡ true) h.before (h.written ++ (h.after ++ more)) (subst AreSpaces split k))

no_spaces_joined : (pieces names : List (List ℕ)) → 0 < length pieces → AllZip IsSpacedName pieces names
    → AreSpaces (join_with_byte 44 pieces) → ⊥
no_spaces_joined [] names some h k = absurd (omega arith)
no_spaces_joined (p ∷ ps) [] some h k = h
no_spaces_joined (p ∷ []) (n ∷ ns) some h k = no_spaces_spaced p n [] h.0 (subst AreSpaces (sym (append-nil p)) k)
no_spaces_joined (p ∷ q ∷ ps) (n ∷ ns) some h k = no_spaces_spaced p n (44 ∷ join_with_byte 44 (q ∷ ps)) h.0 k

-- ---- characters that stand in no name

abbrev IsOther : ℕ → Type 0
IsOther k = (is_whitespace k ≡ false) × (is_name_byte k ≡ false)

pub none_in_spaces : (k : ℕ) → is_whitespace k ≡ false → (cs : List ℕ) → AreSpaces cs
    → NonePasses (λ c. c == k) cs
none_in_spaces k n cs h =
    mapped (λ c. is_whitespace c ≡ true) (λ c. (c == k) ≡ false) (λ c e. another is_whitespace c k (c == k) e n refl) cs h

none_in_name : (k : ℕ) → is_name_byte k ≡ false → (cs : List ℕ) → AreNameBytes cs
    → NonePasses (λ c. c == k) cs
none_in_name k n cs h =
    mapped (λ c. is_name_byte c ≡ true) (λ c. (c == k) ≡ false) (λ c e. another is_name_byte c k (c == k) e n refl) cs h

none_in_spaced : (k : ℕ) → IsOther k → (cs name : List ℕ) → IsSpacedName cs name → NonePasses (λ c. c == k) cs
none_in_spaced k n cs name h =
    subst (NonePasses (λ c. c == k)) (sym h.split)
    (none_joined (λ c. c == k) (h.before ++ h.written) h.after
    (none_joined (λ c. c == k) h.before h.written (none_in_spaces k n.0 h.before h.spaces_before)
    (none_in_name k n.1 h.written (named h.written name h.is_name).bytes))
    (none_in_spaces k n.0 h.after h.spaces_after))

none_in_pieces : (k : ℕ) → IsOther k → (pieces names : List (List ℕ)) → AllZip IsSpacedName pieces names
    → AllByRecursion (NonePasses (λ c. c == k)) pieces
none_in_pieces k n [] names h = tt
none_in_pieces k n (p ∷ ps) [] h = absurd h
none_in_pieces k n (p ∷ ps) (m ∷ ms) h = (none_in_spaced k n p m h.0, none_in_pieces k n ps ms h.1)

none_in_names : (k : ℕ) → (44 == k) ≡ false → (pieces : List (List ℕ))
    → AllByRecursion (NonePasses (λ c. c == k)) pieces
    → NonePasses (λ c. c == k) (join_with_byte 44 pieces)
none_in_names k n [] h = tt
none_in_names k n (p ∷ []) h = h.0
none_in_names k n (p ∷ q ∷ ps) h =
    none_joined (λ c. c == k) p (44 ∷ join_with_byte 44 (q ∷ ps)) h.0 (n, none_in_names k n (q ∷ ps) h.1)

-- ---- the inside of the brackets

inside_by : (inside : List ℕ) (names : List (List ℕ)) (t : Bool)
    → (length (trim (encode_utf8_all inside)) == 0) ≡ t
    → (if t then Some [] else names_of (slice_split is_comma (encode_utf8_all inside))) ≡ Some names
    → IsInside inside names
inside_by inside names true e h = inl (all_spaces inside e, sym (same_Some [] names h))
inside_by inside names false e h =
    let pieces : List (List ℕ) = slice_split is_comma inside in
    let joined : inside ≡ join_with_byte 44 pieces = sym (join_with_byte-slice_split 44 inside) in
    inr record {
      pieces = pieces;
      joined = joined;
      are_names = names_found pieces names (ap names_of (sym (split_encoded inside)) ∙ h);
      nonempty = some_piece inside;
    }

pub inside_found : (inside : List ℕ) (names : List (List ℕ))
    → extras_of (encode_utf8_all inside) ≡ Some names
    → IsInside inside names
unfolding extras_of
inside_found inside names h = inside_by inside names (length (trim (encode_utf8_all inside)) == 0) refl h

not_spaces : (inside : List ℕ) (t : Bool) → (AreSpaces inside → ⊥)
    → (length (trim (encode_utf8_all inside)) == 0) ≡ t
    → t ≡ false
not_spaces inside true n e = absurd (n (all_spaces inside e))
not_spaces inside false n e = refl

pub inside_again : (inside : List ℕ) (names : List (List ℕ)) → IsInside inside names
    → extras_of (encode_utf8_all inside) ≡ Some names
unfolding extras_of
inside_again inside names (inl h) =
    let none : trim (encode_utf8_all inside) ≡ [] =
    trimmed inside ∙ ap (λ ds. encode_utf8_all (drop_trailing_whitespace ds)) (only_spaces inside h.0) in
    ap (λ bs. if length bs == 0 then Some [] else names_of (slice_split is_comma (encode_utf8_all inside))) none
    ∙ ap Some (sym h.1)
inside_again inside names (inr h) =
    let spaced : AreSpaces inside → ⊥ = λ k. no_spaces_joined h.pieces names h.nonempty h.are_names (subst AreSpaces h.joined k) in
    let some = not_spaces inside (length (trim (encode_utf8_all inside)) == 0) spaced refl in
    let apart = none_in_pieces 44 (refl, refl) h.pieces names h.are_names in
    let cut : slice_split is_comma inside ≡ h.pieces = ap (slice_split is_comma) h.joined ∙ split_joined h.pieces h.nonempty apart in
    ap (λ t. if t then Some [] else names_of (slice_split is_comma (encode_utf8_all inside))) some
    ∙ ap names_of (split_encoded inside ∙ ap (map encode_utf8_all) cut)
    ∙ names_again h.pieces names h.are_names

-- no bracket stands inside
pub unbracketed : (inside : List ℕ) (names : List (List ℕ)) → IsInside inside names
    → NonePasses (λ c. c == 93) inside
unbracketed inside names (inl h) = none_in_spaces 93 refl inside h.0
unbracketed inside names (inr h) =
    subst (NonePasses (λ c. c == 93)) (sym h.joined)
    (none_in_names 93 refl h.pieces (none_in_pieces 93 (refl, refl) h.pieces names h.are_names))
