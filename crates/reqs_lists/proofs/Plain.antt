-- Answers as values, in which no number is a float.
use Rattle.std.proofs.Common.{◌≡◌, ℕ, List, false, refl}
use Rattle.std.specs.Str.Lines.{lines}
use Rattle.serde_json.specs.Data.{string}
use Rattle.serde_json.specs.Written.{has_float}
use Rattle.pep508_diagram.specs.Diagram.{Diagram}
use Rattle.pep508_diagram.specs.Question.{Question}
use Rattle.pep508_marker_text_laws.specs.MarkerText.{marker_text}
use Rattle.reqtable_conflicts.specs.Contradictions.{ConflictRecord}
use Rattle.reqs_json.proofs.Plain.{plain_items, plain_numbers, plain_texts, plain_or_null}
use Rattle.reqs_lists.specs.Comparison.{difference_value}
use Rattle.reqs_lists.specs.Covered.{uncovered_value}
use Rattle.reqs_lists.specs.Contradictions.{conflict_value, conflicts_value}
use Rattle.reqs_lists.specs.Normal.{normal_value}

pub plain_difference : (name : List ℕ) (diagram : Diagram Question) → has_float (difference_value name diagram) ≡ false
plain_difference name diagram = rw (plain_or_null string (λ text. refl) (marker_text diagram)) refl

pub plain_uncovered : (name : List ℕ) (diagram : Diagram Question) (numbers : List ℕ)
    → has_float (uncovered_value name diagram numbers) ≡ false
plain_uncovered name diagram numbers =
    rw (plain_numbers numbers, plain_or_null string (λ text. refl) (marker_text diagram)) refl

plain_conflict : (found : ConflictRecord) → has_float (conflict_value found) ≡ false
plain_conflict found = rw (plain_numbers found.numbers) refl

pub plain_conflicts : (found : List ConflictRecord) → has_float (conflicts_value found) ≡ false
plain_conflicts found = rw (plain_items conflict_value plain_conflict found) refl

pub plain_normal : (text : List ℕ) → has_float (normal_value text) ≡ false
plain_normal text = rw (plain_texts (lines text)) refl
