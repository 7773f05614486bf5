-- The marker behind a front is read where one is written, and only there.
use Rattle.std.proofs.Common.{◌≡◌, ℕ, ◌==◌, Bool, true, false, if◌then◌else◌, List, [], ◌∷◌, ◌++◌, Ok, Err}
use Rattle.std.proofs.Common.{inl, inr}
use Rattle.std.proofs.Common.{refl, ap, sym, subst, ◌∙◌}
use Rattle.std.proofs.lemmas.List.{append-nil}
use Rattle.std.specs.Prelude.{Result}
use Rattle.std.specs.Str.{skip_leading_whitespace}
use Rattle.pep440_specifier.specs.SpecifierText.{AreSpaces}
use Rattle.pep508_marker_parser.specs.SideReading.{Refused, Malformed}
use Rattle.pep508_marker_parser.specs.MarkerReading.{Marker, marker_at}
use Rattle.pep508_marker_parser.specs.MarkerText.{IsMarkerText}
use Rattle.pep508_error.proofs.Tests.{the_same}
use Rattle.pep508_error.proofs.Spaces.{spaces_found, spaces_again, only_spaces}
use Rattle.pep508_requirement.specs.MarkerBehind.{no_marker, marker_behind}
use Rattle.pep508_requirement.specs.RequirementText.{IsBehindText}

-- what is read of a marker is written, and what is written is read
abbrev pub FoundLaw : Type 0
FoundLaw = (cs : List ℕ) (marker : Marker) → marker_at cs ≡ Ok marker → IsMarkerText cs marker

abbrev pub AgainLaw : Type 0
AgainLaw = (cs : List ℕ) (marker : Marker) → IsMarkerText cs marker → marker_at cs ≡ Ok marker

abbrev read_as : Marker → Result Marker Refused
read_as marker = Ok marker

pub marker_same : (marker other : Marker) → read_as marker ≡ Ok other → marker ≡ other
marker_same marker other h = cc

abbrev marker_if : List ℕ → Bool → Result Marker Refused
marker_if cs t = if t then marker_at cs else Err Malformed

mark_found : FoundLaw → (c : ℕ) (cs : List ℕ) (marker : Marker) (t : Bool) → (c == 59) ≡ t
    → marker_if cs t ≡ Ok marker → (c ≡ 59) × IsMarkerText cs marker
mark_found law c cs marker true e h = (the_same c 59 e, law cs marker h)
mark_found law c cs marker false e h = absurd (cc)

found_by : FoundLaw → (rest spaces left : List ℕ) (marker : Marker) → rest ≡ spaces ++ left → AreSpaces spaces
    → marker_behind left ≡ Ok marker → IsBehindText rest marker
found_by law rest spaces [] marker split are_spaces h =
    inl (subst AreSpaces (sym (split ∙ append-nil spaces)) are_spaces, sym (marker_same no_marker marker h))
found_by law rest spaces (c ∷ cs) marker split are_spaces h =
    let mark = mark_found law c cs marker (c == 59) refl h in
    inr (spaces, cs, split ∙ ap (λ d. spaces ++ d ∷ cs) mark.0, are_spaces, mark.1)

pub behind_found : FoundLaw → (rest : List ℕ) (marker : Marker)
    → marker_behind (skip_leading_whitespace rest) ≡ Ok marker → IsBehindText rest marker
behind_found law rest marker h =
    let skipped = spaces_found rest in
    found_by law rest skipped.spaces (skip_leading_whitespace rest) marker skipped.split skipped.are_spaces h

pub behind_again : AgainLaw → (rest : List ℕ) (marker : Marker) → IsBehindText rest marker
    → marker_behind (skip_leading_whitespace rest) ≡ Ok marker
behind_again law rest marker (inl h) = ap marker_behind (only_spaces rest h.0) ∙ ap Ok (sym h.1)
behind_again law rest marker (inr h) =
    ap (λ cs. marker_behind (skip_leading_whitespace cs)) h.2
    ∙ ap marker_behind (spaces_again h.0 (59 ∷ h.1) h.3 refl)
    ∙ law h.1 marker h.4
