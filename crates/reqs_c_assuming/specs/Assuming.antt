-- How a call on lists ends where only the environments and extras count for which a marker holds.
use Rattle.std.specs.Prelude.{◌⊎◌, ℕ, false, List, [], ◌∷◌}
use Rattle.pep508_marker_parser.specs.MarkerReading.{Marker}
use Rattle.pep508_url.specs.Vars.{Variables}
use Rattle.reqtable_assumption.specs.Where.{Condition}
use Rattle.reqs_json.specs.declared.format.Format.{Format}
use Rattle.reqs_io_faults.specs.declared.bounds.Bounds.{Bounds}
use Rattle.reqs_io_faults.specs.Within.{RefusesOr}
use Rattle.reqs_assuming.specs.Comparison.{SameAnswersWhere, SameRefusesWhere, SamePassesWhere}
use Rattle.reqs_assuming.specs.Contradictions.{ConflictsAnswerWhere, ConflictsRefuseWhere, ConflictsPassWhere}
use Rattle.reqs_assuming.specs.Covered.{CoversAnswersWhere, CoversPassesWhere}
use Rattle.reqs_c_reply.specs.Endings.{Ending, EndsIn, NoAnswer}
use Rattle.reqs_c_markers.specs.Markers.{IsMarkerIn, RefusesMarker}
use Rattle.reqs_c_markers.specs.Parts.{no_variables}
use Rattle.reqs_c_lists.specs.Commands.{WithNodes, same_names, covers_names, list_names}
use Rattle.reqs_c_lists.specs.Refusals.{IsToldAt}

-- how a call ends with the condition of the marker in the argument of this number; or the argument is no
-- marker, or memory ran out
abbrev pub WithCondition : ℕ → (Condition → Ending → Type 0) → List ℕ → Ending → Type 0
WithCondition argument Ends bytes ending =
    ((marker : Marker) × IsMarkerIn bytes marker × Ends marker.formula ending)
    ⊎ EndsIn NoAnswer (RefusesMarker argument bytes) ending

-- `reqs same` within bounds where a condition holds
abbrev pub SameEndsUnder : Format → ℕ → Bounds → List (List ℕ) → Variables → Condition → Ending → Type 0
SameEndsUnder format limit bounds inputs vars condition =
    WithNodes (λ nodes. SameAnswersWhere condition bounds nodes format limit vars)
    (λ nodes. RefusesOr (SamePassesWhere condition bounds nodes limit vars)
    (SameRefusesWhere condition bounds limit vars))
    (IsToldAt same_names 0) inputs

abbrev pub SameEndsWhere : Format → ℕ → Bounds → List ℕ → List ℕ → List ℕ → Ending → Type 0
SameEndsWhere format limit bounds left right =
    WithCondition 3 (SameEndsUnder format limit bounds (left ∷ right ∷ []) no_variables)

-- `reqs covers` within bounds where a condition holds
abbrev pub CoversEndsUnder : Format → ℕ → Bounds → List (List ℕ) → Variables → Condition → Ending → Type 0
CoversEndsUnder format limit bounds inputs vars condition =
    WithNodes (λ nodes. CoversAnswersWhere condition bounds nodes format limit vars)
    (λ nodes. RefusesOr (CoversPassesWhere condition bounds nodes limit vars)
    (SameRefusesWhere condition bounds limit vars))
    (IsToldAt covers_names 0) inputs

abbrev pub CoversEndsWhere : Format → ℕ → Bounds → List ℕ → List ℕ → List ℕ → Ending → Type 0
CoversEndsWhere format limit bounds lock requirements =
    WithCondition 3 (CoversEndsUnder format limit bounds (lock ∷ requirements ∷ []) no_variables)

-- `reqs conflicts` within bounds where a condition holds
abbrev pub ConflictsEndUnder : Format → ℕ → Bounds → List (List ℕ) → Variables → Condition → Ending → Type 0
ConflictsEndUnder format limit bounds inputs vars condition =
    WithNodes (λ nodes. ConflictsAnswerWhere condition false bounds nodes format limit vars)
    (λ nodes. RefusesOr (ConflictsPassWhere condition bounds nodes limit vars)
    (ConflictsRefuseWhere condition bounds limit vars))
    (IsToldAt list_names 0) inputs

abbrev pub ConflictsEndWhere : Format → ℕ → Bounds → List ℕ → List ℕ → Ending → Type 0
ConflictsEndWhere format limit bounds requirements =
    WithCondition 2 (ConflictsEndUnder format limit bounds (requirements ∷ []) no_variables)
