-- A name in normal form is ASCII.
use Rattle.std.proofs.Common.{◌≡◌, ◌∙◌, ℕ, Bool, true, false, List, [], ◌∷◌, Option, Some, None, option_map}
use Rattle.std.proofs.Common.{refl, sym, subst, lit<}
use Rattle.std.proofs.lemmas.Str.Ascii.{IsAscii-nil, IsAscii-cons, lowercase_ascii}
use Rattle.std.specs.Prelude.{IsAscii}
use Rattle.std.specs.Char.{to_ascii_lowercase}
use Rattle.pep508_name.specs.Name.{is_alphanumeric, is_separator, name_of}
use Rattle.pep508_name.proofs.Walk.{with_byte, behind, written, small, behind_separator, behind_letter, behind_none}
use Rattle.pep508_name.proofs.Steps.{begins}

with_ascii : (s : Bool) (b : ℕ) (more : List ℕ) → is_alphanumeric b ≡ true → IsAscii more
    → IsAscii (with_byte s b more)
with_ascii true b more letter a =
    IsAscii-cons 45 (to_ascii_lowercase b ∷ more) (lit< tt)
    (IsAscii-cons (to_ascii_lowercase b) more (lowercase_ascii b (small b letter)) a)
with_ascii false b more letter a =
    IsAscii-cons (to_ascii_lowercase b) more (lowercase_ascii b (small b letter)) a

-- each text that is found is ASCII
abbrev AreAscii : Option (List ℕ) → Type 0
AreAscii found = (text : List ℕ) → found ≡ Some text → IsAscii text

mapped : (s : Bool) (b : ℕ) (found : Option (List ℕ)) → is_alphanumeric b ≡ true → AreAscii found
    → AreAscii (option_map (with_byte s b) found)
mapped s b None letter f text e = absurd (cc)
mapped s b (Some more) letter f text e =
    let same : with_byte s b more ≡ text = cc in subst IsAscii same (with_ascii s b more letter (f more refl))

next : (s : Bool) (b : ℕ) (bs : List ℕ) (t u : Bool) → is_separator b ≡ t → is_alphanumeric b ≡ u
    → AreAscii (behind true bs) → AreAscii (behind false bs) → AreAscii (behind s (b ∷ bs))
next s b bs true u sep letter after on text e = after text (sym (behind_separator s b bs sep) ∙ e)
next s b bs false true sep letter after on text e =
    mapped s b (behind false bs) letter on text (sym (behind_letter s b bs letter) ∙ e)
next s b bs false false sep letter after on text e =
    let none : None ≡ Some text = sym (behind_none s b bs sep letter) ∙ e in absurd (cc)

behind_ascii : (s : Bool) (bytes : List ℕ) → AreAscii (behind s bytes)
behind_ascii true [] text e = absurd (cc)
behind_ascii false [] text e = let same : [] ≡ text = cc in subst IsAscii same IsAscii-nil
behind_ascii s (b ∷ bs) text e =
    next s b bs (is_separator b) (is_alphanumeric b) refl refl (behind_ascii true bs) (behind_ascii false bs) text e

written_ascii : (found : Option (List ℕ)) → AreAscii found → AreAscii (written [] found)
written_ascii None f text e = absurd (cc)
written_ascii (Some more) f text e = let same : more ≡ text = cc in subst IsAscii same (f more refl)

pub normal_ascii : (text name : List ℕ) → name_of text ≡ Some name → IsAscii name
normal_ascii text name e = written_ascii (behind false text) (behind_ascii false text) name (begins text name e)
