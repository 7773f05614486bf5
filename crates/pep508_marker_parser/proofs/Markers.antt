-- A marker is read where one is written, and only there.
use Rattle.std.proofs.Common.{◌≡◌, ℕ, ◌==◌, Bool, true, false, if◌then◌else◌, List, [], ◌∷◌, ◌++◌, length, Ok}
use Rattle.std.proofs.Common.{Err}
use Rattle.std.proofs.Common.{refl, ap, sym, subst, ◌∙◌, arith}
use Rattle.std.proofs.lemmas.List.{append-nil}
use Rattle.std.specs.Prelude.{Result}
use Rattle.std.specs.Str.{skip_leading_whitespace}
use Rattle.pep440_specifier.specs.SpecifierText.{AreSpaces}
use Rattle.pep508_comparison_parser.specs.SideReading.{Refused, Malformed, if_end}
use Rattle.pep508_error.specs.Steps.{◌>>=◌}
use Rattle.pep508_marker_parser.specs.MarkerReading.{Marker, formula_at, marker_at}
use Rattle.pep508_marker_parser.specs.MarkerText.{IsSpaced, IsFormulaText, IsMarkerText}
use Rattle.pep508_error.proofs.Tests.{the_same}
use Rattle.pep508_error.proofs.Spaces.{only_spaces}
use Rattle.pep508_error.proofs.Steps.{ok_same, in_steps}
use Rattle.pep508_marker_parser.proofs.Comparisons.{spaced_found, spaced_on}
use Rattle.pep508_marker_parser.proofs.Formulas.{formula_found, formula_again, before_end}

-- the characters are those of the marker, whose brackets nest at most so deep
abbrev IsTextOf : ℕ → List ℕ → Marker → Type 0
IsTextOf depth cs marker = (rest : List ℕ) × IsFormulaText depth cs marker rest × AreSpaces rest

some_length : (c : ℕ) (cs : List ℕ) → (length (c ∷ cs) == 0) ≡ true → ⊥
some_length c cs h = (let no : length (c ∷ cs) ≡ 0 = the_same (length (c ∷ cs)) 0 h in absurd (omega (arith, no)))

nothing : (cs : List ℕ) → (length cs == 0) ≡ true → cs ≡ []
nothing [] h = refl
nothing (c ∷ cs) h = absurd (some_length c cs h)

abbrev end_if : Marker → Bool → Result Marker Refused
end_if marker t = if t then Ok marker else Err Malformed

if_end_by : (marker whole : Marker) (cs : List ℕ) (t : Bool) → (length cs == 0) ≡ t → end_if marker t ≡ Ok whole
    → (cs ≡ []) × (marker ≡ whole)
if_end_by marker whole cs false e h = absurd (cc)
if_end_by marker whole cs true e h = (nothing cs e, ok_same marker whole h)

only_spaced : (cs rest : List ℕ) → IsSpaced cs rest → rest ≡ [] → AreSpaces cs
only_spaced cs rest h e =
    let split : cs ≡ h.0 = h.1 ∙ ap (λ ds. h.0 ++ ds) e ∙ append-nil h.0 in subst AreSpaces (sym split) h.2

found_within : (depth : ℕ) (cs : List ℕ) (marker : Marker) → (formula_at depth cs >>= if_end) ≡ Ok marker
    → IsTextOf depth cs marker
found_within depth cs marker h =
    let step = in_steps (formula_at depth cs) if_end marker h in
    let found : Marker × List ℕ = step.middle in
    let left : List ℕ = skip_leading_whitespace found.1 in
    let f = formula_found depth cs found step.first_is in
    let e = if_end_by found.0 marker left (length left == 0) refl step.next_is in
    let spaced : IsSpaced f.rest left = spaced_on f.rest found.1 left f.spaced (spaced_found found.1) in
    (f.rest, subst (λ m. IsFormulaText depth cs m f.rest) e.1 f.is_piece, only_spaced f.rest left spaced e.0)

again_within : (depth : ℕ) (cs : List ℕ) (marker : Marker) → IsTextOf depth cs marker
    → (formula_at depth cs >>= if_end) ≡ Ok marker
again_within depth cs marker h =
    ap (λ read. read >>= if_end) (formula_again depth cs marker h.0 h.1 (before_end h.0 h.2))
    ∙ ap (λ ds. end_if marker (length (skip_leading_whitespace ds) == 0)) (only_spaces h.0 h.2)

pub marker_found : (cs : List ℕ) (marker : Marker) → marker_at cs ≡ Ok marker → IsMarkerText cs marker
unfolding marker_at
marker_found cs marker h = found_within 256 cs marker h

pub marker_again : (cs : List ℕ) (marker : Marker) → IsMarkerText cs marker → marker_at cs ≡ Ok marker
unfolding marker_at
marker_again cs marker h = again_within 256 cs marker h

-- what is written is read
abbrev pub MarkerLaw : Type 0
MarkerLaw = (cs : List ℕ) (marker : Marker) → IsMarkerText cs marker → marker_at cs ≡ Ok marker

pub one_marker : MarkerLaw → (cs : List ℕ) (marker other : Marker) → IsMarkerText cs marker → IsMarkerText cs other
    → marker ≡ other
one_marker law cs marker other h k = ok_same marker other (sym (law cs marker h) ∙ law cs other k)

pub no_marker : MarkerLaw → (cs : List ℕ) (refused : Refused) → marker_at cs ≡ Err refused → (marker : Marker)
    → IsMarkerText cs marker → ⊥
no_marker law cs refused e marker h = (let read = law cs marker h in absurd (cc))
