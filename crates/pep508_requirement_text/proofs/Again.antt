-- What is written at the front of a text is read.
use Rattle.std.proofs.Common.{◌≡◌, ℕ, ◌==◌, Bool, true, false, not, List, [], ◌∷◌, ◌++◌, Ok, Err, inl, inr}
use Rattle.std.proofs.Common.{refl, ap, sym, ◌∙◌, append_assoc}
use Rattle.std.specs.Char.{is_whitespace}
use Rattle.std.specs.Str.{chars, skip_leading_whitespace}
use Rattle.pep508_name.specs.Name.{is_name_byte}
use Rattle.pep440_specifier.specs.SpecifierText.{AreSpaces}
use Rattle.pep508_requirement_text.proofs.Lists.{TextLaw}
use Rattle.pep508_error.specs.Cuts.{begins_by}
use Rattle.pep508_requirement_text.specs.FrontReading.{Refused, Front, name_at, extras_at}
use Rattle.pep508_error.specs.Steps.{◌>>=◌}
use Rattle.pep508_requirement_text.specs.FrontReading.{source_at, with_source, behind_extras, behind_name}
use Rattle.pep508_requirement_text.specs.FrontReading.{front_reading}
use Rattle.pep508_requirement_text.specs.FrontText.{IsExtrasText, IsFrontText, IsRequirementText}
use Rattle.pep508_error.proofs.Spaces.{Unspaced, unspaced_same, spaces_again, skipped_front}
use Rattle.pep508_error.proofs.Cuts.{Ends}
use Rattle.pep508_requirement_text.proofs.Names.{named, name_unspaced, behind_spaces}
use Rattle.pep508_requirement_text.proofs.ExtrasTexts.{name_again, no_extras_again, extras_again}
use Rattle.pep508_error.proofs.Steps.{answer, ok_same}
use Rattle.pep508_requirement_text.proofs.Sources.{source_again, source_apart, space_apart, bracket_apart}
use Rattle.pep508_requirement_text.proofs.Sources.{name_apart}

-- ---- behind the name

unnamed_by : (c : ℕ) (t : Bool) → is_name_byte c ≡ t → is_whitespace c ≡ true → t ≡ false
unnamed_by c true e h = (let no = name_unspaced c e in absurd (cc))
unnamed_by c false e h = refl

unnamed_spaces : (spaces rest : List ℕ) → AreSpaces spaces → begins_by is_name_byte rest ≡ false
    → begins_by is_name_byte (spaces ++ rest) ≡ false
unnamed_spaces [] rest h k = k
unnamed_spaces (c ∷ cs) rest h k = unnamed_by c (is_name_byte c) refl h.0

unnamed_extras : (brackets rest : List ℕ) (names : List (List ℕ)) → IsExtrasText brackets names
    → begins_by is_name_byte rest ≡ false → begins_by is_name_byte (brackets ++ rest) ≡ false
unnamed_extras brackets rest names (inl h) k = ap (λ ds. begins_by is_name_byte (ds ++ rest)) h.0 ∙ k
unnamed_extras brackets rest names (inr h) k = ap (λ ds. begins_by is_name_byte (ds ++ rest)) h.1

name_ends : (rest : List ℕ) → begins_by is_name_byte rest ≡ false → Ends (λ c. not (is_name_byte c)) rest
name_ends [] h = tt
name_ends (c ∷ cs) h = ap not h

-- ---- the extras, and white space around them

record ExtrasAgain (cs : List ℕ) (names : List (List ℕ)) (left : List ℕ) : Type 0 where
  rest : List ℕ
  read : extras_at (skip_leading_whitespace cs) ≡ Ok (names, rest)
  skips : skip_leading_whitespace rest ≡ left

extras_skipped : (before brackets after left : List ℕ) (names : List (List ℕ))
    → AreSpaces before
    → IsExtrasText brackets names → AreSpaces after → Unspaced left → begins_by (λ c. c == 91) left ≡ false
    → ExtrasAgain (before ++ (brackets ++ (after ++ left))) names left
extras_skipped before brackets after left names b (inl h) a n k = record {
  rest = left;
  read = ap (λ ds. extras_at (skip_leading_whitespace (before ++ (ds ++ (after ++ left))))) h.0
      ∙ ap extras_at (skipped_front before (after ++ left) b ∙ spaces_again after left a n)
      ∙ no_extras_again left k
      ∙ ap (λ ns. Ok (ns, left)) (sym h.1);
  skips = unspaced_same left n;
}
extras_skipped before brackets after left names b (inr h) a n k =
    let inside : List ℕ = h.0 in
    let rest : List ℕ = after ++ left in
    record {
      rest = rest;
      read = ap (λ ds. extras_at (skip_leading_whitespace (before ++ (ds ++ rest)))) h.1
          ∙ ap extras_at (spaces_again before (91 ∷ ((inside ++ 93 ∷ []) ++ rest)) b refl)
          ∙ ap (λ ds. extras_at (91 ∷ ds)) (append_assoc inside (93 ∷ []) rest)
          ∙ extras_again inside rest names h.2;
      skips = spaces_again after left a n;
    }

-- ---- the whole

pub front_again : (law : TextLaw) (text rest : List ℕ) (front : Front)
    → IsFrontText text front rest
    → front_reading text ≡ Ok (front, rest)
unfolding front_reading
front_again law text rest front h =
    let cs : List ℕ = chars text in
    let left : List ℕ = h.asked ++ rest in
    let behind : List ℕ = h.brackets ++ (h.behind_extras ++ left) in
    let from : List ℕ = h.behind_name ++ behind in
    let unspaced : Unspaced left = source_apart is_whitespace h.written h.asked rest front.source space_apart h.is_source in
    let unnamed : begins_by is_name_byte from ≡ false =
    unnamed_spaces h.behind_name behind h.spaces_behind_name
    (unnamed_extras h.brackets (h.behind_extras ++ left) front.extras h.are_extras
    (unnamed_spaces h.behind_extras left h.spaces_behind_extras
    (source_apart is_name_byte h.written h.asked rest front.source name_apart h.is_source))) in
    let first : skip_leading_whitespace cs ≡ h.written ++ from =
    ap skip_leading_whitespace h.split ∙ behind_spaces h.before h.written from front.name h.spaces_before h.is_name in
    let extras : ExtrasAgain from front.extras left =
    extras_skipped h.behind_name h.brackets h.behind_extras left front.extras h.spaces_behind_name h.are_extras
    h.spaces_behind_extras unspaced
    (source_apart (λ c. c == 91) h.written h.asked rest front.source bracket_apart h.is_source) in
    ap (λ ds. name_at ds >>= behind_name cs) first
    ∙ ap (λ read. read >>= behind_name cs) (name_again h.written from front.name h.is_name (name_ends from unnamed))
    ∙ ap (λ read. read >>= behind_extras cs h.written) extras.read
    ∙ ap (λ ds. source_at cs h.written ds >>= with_source h.written front.extras) extras.skips
    ∙ ap (λ read. read >>= with_source h.written front.extras) (source_again law cs h.written h.asked rest front.source h.is_source)
    ∙ ap (λ n. Ok (record { name = n; extras = front.extras; source = front.source }, rest)) (named h.written front.name h.is_name).normal

-- ---- requirements

-- what is written is read
abbrev pub FrontLaw : Type 0
FrontLaw = (text : List ℕ) (front : Front) (rest : List ℕ) → IsFrontText text front rest
    → front_reading text ≡ Ok (front, rest)

pub one_front : FrontLaw → (text : List ℕ) (front other : Front) (rest left : List ℕ) → IsFrontText text front rest
    → IsFrontText text other left → (front ≡ other) × (rest ≡ left)
one_front law text front other rest left h k =
    let read : answer (front, rest) ≡ Ok (other, left) = sym (law text front rest h) ∙ law text other left k in
    let same = ok_same (front, rest) (other, left) read in
    (ap (λ (p : Front × List ℕ). p.0) same, ap (λ (p : Front × List ℕ). p.1) same)

pub one_requirement : FrontLaw → (text : List ℕ) (front other : Front) → IsRequirementText text front
    → IsRequirementText text other → front ≡ other
one_requirement law text front other h k = (one_front law text front other h.0 k.0 h.1 k.1).0

pub no_requirement : FrontLaw → (text : List ℕ) (refused : Refused)
    → front_reading text ≡ Err refused
    → (front : Front) → IsRequirementText text front → ⊥
no_requirement law text refused e front h = (let read = law text front h.0 h.1 in absurd (cc))
