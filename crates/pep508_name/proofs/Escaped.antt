-- Names with `_` for each `-`.
use Rattle.std.proofs.Common.{◌≡◌, ℕ, ◌<◌, ◌==◌, ◌&&◌, ◌||◌, Bool, true, false, if◌then◌else◌, List, [], ◌∷◌}
use Rattle.std.proofs.Common.{map, Some, None, refl, ap, ◌∙◌, inl, inr, arith}
use Rattle.std.specs.Prelude.{encode_utf8_all}
use Rattle.std.specs.List.{list_all, list_any, All}
use Rattle.std.specs.Str.{IsAscii, chars}
use Rattle.std.proofs.lemmas.Bool.Decides.{nat_tests}
use Rattle.std.proofs.lemmas.List.Sums.{AllPass-from_list_all}
use Rattle.std.proofs.lemmas.Str.{chars-IsAscii, encodes-IsAscii}
use Rattle.std.proofs.lemmas.Str.Ascii.{IsAscii-from_all, IsAscii-map}
use Rattle.pep508_name.specs.Name.{is_alphanumeric, is_separator, is_name_byte, is_name, normal_name, name_of}
use Rattle.pep508_name.specs.Name.{dist_info_byte, dist_info_name}
use Rattle.pep508_name.proofs.Walk.{two, small}

small_separator : (b : ℕ) → is_separator b ≡ true → b < 128
small_separator b h = grind (arith, nat_tests)

small_escape : (b : ℕ) → b < 128 → dist_info_byte b < 128
small_escape b h = grind (arith, nat_tests)

pub escaped_ascii : (text : List ℕ) → IsAscii text → encode_utf8_all (map dist_info_byte (chars text)) ≡ map dist_info_byte text
escaped_ascii text h =
    ap (λ xs. encode_utf8_all (map dist_info_byte xs)) (chars-IsAscii text h)
    ∙ encodes-IsAscii (map dist_info_byte text) (IsAscii-map dist_info_byte text small_escape h)

both : (a b : Bool) → (a && b) ≡ true → (a ≡ true) × (b ≡ true)
both true b e = (refl, e)
both false b e = absurd (cc)

neither : (a b : Bool) → (a || b) ≡ false → (a ≡ false) × (b ≡ false)
neither false b e = (refl, e)
neither true b e = absurd (cc)

small_byte : (b : ℕ) → is_name_byte b ≡ true → b < 128
small_byte b h = elim (two (is_separator b)) [
  | inl sep ↦ small_separator b sep
  | inr sep ↦ elim (two (is_alphanumeric b)) [
    | inl letter ↦ small b letter
    | inr letter ↦ absurd (let none : is_name_byte b ≡ false = ap (λ t. t || is_separator b) letter ∙ sep in cc)
  ]
]

small_bytes : (bs : List ℕ) → list_all is_name_byte bs ≡ true → All (λ b. b < 128) bs
small_bytes bs h = λ k d inside. small_byte _ (AllPass-from_list_all is_name_byte bs h k d inside)

name_by : (name : List ℕ) (test : Bool) → is_name name ≡ test → (if test then Some (normal_name name) else None) ≡ Some name → is_name name ≡ true
name_by name true e h = e
name_by name false e h = absurd (cc)

normal_is_name : (name : List ℕ) → name_of name ≡ Some name → is_name name ≡ true
unfolding name_of
normal_is_name name h = name_by name (is_name name) refl h

pub names_are_ascii : (name : List ℕ) → name_of name ≡ Some name → IsAscii name
names_are_ascii name h =
    let test = both _ _ (normal_is_name name h) in
    IsAscii-from_all name (small_bytes name (both _ _ test.0).0)

kept : (b : ℕ) → (b == 45) ≡ false → dist_info_byte b ≡ b
kept b h = ap (λ t. if t then 95 else b) h

pub nothing_escaped : (name : List ℕ) → list_any (λ byte. byte == 45) name ≡ false → dist_info_name name ≡ name
nothing_escaped [] h = refl
nothing_escaped (b ∷ bs) h =
    let parts = neither (b == 45) (list_any (λ byte. byte == 45) bs) h in
    λ i. kept b parts.0 i ∷ nothing_escaped bs parts.1 i

pub escaped_name : (name : List ℕ) → name_of name ≡ Some name → encode_utf8_all (map dist_info_byte (chars name)) ≡ dist_info_name name
escaped_name name h = escaped_ascii name (names_are_ascii name h)
