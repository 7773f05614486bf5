-- Letters and digits at the front of a text are ASCII, also in lower case.
use Rattle.std.proofs.Common.{◌≡◌, ℕ, ◌<◌, Bool, true, false, cond, map, List, [], ◌∷◌, refl, sym, subst}
use Rattle.std.proofs.Common.{arith}
use Rattle.std.proofs.lemmas.Bool.Decides.{nat_tests}
use Rattle.std.proofs.lemmas.List.Sums.{take_while-cons}
use Rattle.std.proofs.lemmas.Str.{IsAscii-drop, IsUtf8-from_ascii}
use Rattle.std.proofs.lemmas.Str.Ascii.{IsAscii-cons, lowercase_ascii}
use Rattle.std.specs.Char.{is_ascii_alphanumeric, to_ascii_lowercase}
use Rattle.std.specs.List.{take_while}
use Rattle.std.specs.Str.{IsAscii, IsUtf8}

nothing_is_ascii : IsAscii []
nothing_is_ascii = λ i. grind arith

letter_is_ascii : (b : ℕ) → is_ascii_alphanumeric b ≡ true → b < 128
letter_is_ascii b h = grind (arith, nat_tests)

front_by : (b : ℕ) (bs : List ℕ) (t : Bool) → is_ascii_alphanumeric b ≡ t → IsAscii (take_while is_ascii_alphanumeric bs) → IsAscii (cond t (b ∷ take_while is_ascii_alphanumeric bs) [])
front_by b bs true e h = IsAscii-cons b (take_while is_ascii_alphanumeric bs) (letter_is_ascii b e) h
front_by b bs false e h = nothing_is_ascii

pub letters_are_ascii : (bytes : List ℕ) → IsAscii (take_while is_ascii_alphanumeric bytes)
letters_are_ascii [] = nothing_is_ascii
letters_are_ascii (b ∷ bs) = subst IsAscii (sym (take_while-cons is_ascii_alphanumeric b bs)) (front_by b bs (is_ascii_alphanumeric b) refl (letters_are_ascii bs))

lower_is_ascii : (letters : List ℕ) → IsAscii letters → IsAscii (map to_ascii_lowercase letters)
lower_is_ascii [] h = nothing_is_ascii
lower_is_ascii (b ∷ bs) h = IsAscii-cons (to_ascii_lowercase b) (map to_ascii_lowercase bs) (lowercase_ascii b (h 0)) (lower_is_ascii bs (IsAscii-drop (b ∷ bs) 1 h))

-- letters in lower case are a text
pub lower_is_text : (letters lower : List ℕ) → lower ≡ map to_ascii_lowercase letters → IsAscii letters → IsUtf8 lower
lower_is_text letters lower e h = subst IsUtf8 (sym e) (IsUtf8-from_ascii (map to_ascii_lowercase letters) (lower_is_ascii letters h))
