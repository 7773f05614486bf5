-- Conflicts of restricted lines are those of the lines in cases that there are where the condition holds.
use Rattle.std.proofs.Common.{◌≡◌, ◌∙◌, ℕ, Bool, true, false, List, [], ◌∷◌, map, length, refl, ap, sym, subst}
use Rattle.std.proofs.Common.{arith}
use Rattle.std.specs.List.{list_any, AllByRecursion}
use Rattle.pep508_diagram.specs.Question.{Valuation}
use Rattle.pep508_requirement_text.specs.FrontReading.{Front}
use Rattle.pep508_cases.specs.Cases.{Marks, same_marks, IsRealised}
use Rattle.pep508_cases.specs.Sets.{marked}
use Rattle.reqtable_answer.specs.Asks.{names_prerelease}
use Rattle.reqtable_requirements.specs.Asks.{applies}
use Rattle.reqtable_requirements.specs.LineReading.{LineRecord}
use Rattle.reqtable_cases.specs.Lines.{line_marks, numbers_of, asked_by}
use Rattle.reqtable_cases.specs.Conflicts.{IsConflict, told_of, AreConflicts}
use Rattle.reqtable_assumption.specs.Where.{Condition, is_met, line_where, lines_where, IsRealisedWhere, AreConflictsWhere}
use Rattle.reqtable_assumption.proofs.Asked.{applies_met, applies_unmet}

-- ---- the lines of a set

module _ {A : Type 0} (of : LineRecord → A) (formula : Condition)
    (stays : (line : LineRecord) → of (line_where formula line) ≡ of line) where
  of_marked : (set : Marks) (lines : List LineRecord)
      → map of (marked set (lines_where formula lines)) ≡ map of (marked set lines)
  of_marked [] lines = refl
  of_marked (b ∷ set) [] = refl
  of_marked (true ∷ set) (line ∷ lines) = λ i. stays line i ∷ of_marked set lines i
  of_marked (false ∷ set) (line ∷ lines) = of_marked set lines

asked_same : (formula : Condition) (set : Marks) (lines : List LineRecord)
    → asked_by set (lines_where formula lines) ≡ asked_by set lines
asked_same formula = of_marked (λ line. line.front) formula (λ line. refl)

numbers_same : (formula : Condition) (set : Marks) (lines : List LineRecord)
    → numbers_of set (lines_where formula lines) ≡ numbers_of set lines
numbers_same formula = of_marked (λ line. line.number) formula (λ line. refl)

told_same : (formula : Condition) (lines : List LineRecord) (sets : List Marks)
    → map (λ set. told_of set (lines_where formula lines)) sets ≡ map (λ set. told_of set lines) sets
told_same formula lines [] = refl
told_same formula lines (set ∷ sets) =
    λ i. (numbers_same formula set lines i, names_prerelease (asked_same formula set lines i)) ∷ told_same formula lines sets i

-- ---- which apply

marks_met : (formula : Condition) (v : Valuation) → is_met formula v ≡ true → (lines : List LineRecord)
    → line_marks (lines_where formula lines) v ≡ line_marks lines v
marks_met formula v is [] = refl
marks_met formula v is (line ∷ lines) = λ i. applies_met formula v is line i ∷ marks_met formula v is lines i

passed_over : (a : Bool) → a ≡ false → (marks : Marks) (line : LineRecord) (lines : List LineRecord)
    → asked_by marks lines ≡ [] → asked_by (a ∷ marks) (line ∷ lines) ≡ []
passed_over true e marks line lines h = absurd (cc)
passed_over false e marks line lines h = h

asked_unmet : (formula : Condition) (v : Valuation) → is_met formula v ≡ false → (lines : List LineRecord)
    → asked_by (line_marks (lines_where formula lines) v) (lines_where formula lines) ≡ []
asked_unmet formula v is [] = refl
asked_unmet formula v is (line ∷ lines) =
    passed_over (applies v (line_where formula line)) (applies_unmet formula v is line)
    (line_marks (lines_where formula lines) v) (line_where formula line) (lines_where formula lines)
    (asked_unmet formula v is lines)

no_conflict : (asks : List Front) → asks ≡ [] → IsConflict asks → ⊥
no_conflict asks e h =
    let none : length asks ≡ 0 = ap length e in
    absurd (omega (arith, none, h.some))

-- a set of a conflict applies only where the condition holds
is_realised_by : (formula : Condition) (lines : List LineRecord) (set : Marks) (v : Valuation)
    → line_marks (lines_where formula lines) v ≡ set → IsConflict (asked_by set (lines_where formula lines))
    → (met : Bool) → is_met formula v ≡ met → IsRealisedWhere formula lines set
is_realised_by formula lines set v e h true is = (v, is, sym (marks_met formula v is lines) ∙ e)
is_realised_by formula lines set v e h false is =
    absurd (no_conflict (asked_by set (lines_where formula lines))
    (ap (λ marks. asked_by marks (lines_where formula lines)) (sym e) ∙ asked_unmet formula v is lines) h)

module _ (formula : Condition) (lines : List LineRecord) where
  abbrev some : List LineRecord
  some = lines_where formula lines

  realised_to : (sets : List Marks) → AllByRecursion (IsRealised (line_marks some)) sets
      → AllByRecursion (λ set. IsConflict (asked_by set some)) sets
      → AllByRecursion (IsRealisedWhere formula lines) sets
  realised_to [] h k = tt
  realised_to (set ∷ sets) h k =
      (is_realised_by formula lines set h.0.0 h.0.1 k.0 (is_met formula h.0.0) refl, realised_to sets h.1 k.1)

  realised_from : (sets : List Marks) → AllByRecursion (IsRealisedWhere formula lines) sets
      → AllByRecursion (IsRealised (line_marks some)) sets
  realised_from [] h = tt
  realised_from (set ∷ sets) h =
      ((h.0.0, marks_met formula h.0.0 h.0.1 lines ∙ h.0.2), realised_from sets h.1)

  conflicts_to : (sets : List Marks) → AllByRecursion (λ set. IsConflict (asked_by set some)) sets
      → AllByRecursion (λ set. IsConflict (asked_by set lines)) sets
  conflicts_to [] h = tt
  conflicts_to (set ∷ sets) h = (subst IsConflict (asked_same formula set lines) h.0, conflicts_to sets h.1)

  conflicts_from : (sets : List Marks) → AllByRecursion (λ set. IsConflict (asked_by set lines)) sets
      → AllByRecursion (λ set. IsConflict (asked_by set some)) sets
  conflicts_from [] h = tt
  conflicts_from (set ∷ sets) h =
      (subst IsConflict (sym (asked_same formula set lines)) h.0, conflicts_from sets h.1)

  -- where the condition holds the restricted lines conflict as the lines do
  alike : (v : Valuation) → is_met formula v ≡ true
      → asked_by (line_marks some v) some ≡ asked_by (line_marks lines v) lines
  alike v is =
      ap (λ marks. asked_by marks some) (marks_met formula v is lines) ∙ asked_same formula (line_marks lines v) lines

  all_from : (sets : List Marks)
      → ((v : Valuation) → is_met formula v ≡ true → IsConflict (asked_by (line_marks lines v) lines)
      → list_any (same_marks (line_marks lines v)) sets ≡ true)
      → (v : Valuation) → IsConflict (asked_by (line_marks some v) some) → (met : Bool) → is_met formula v ≡ met
      → list_any (same_marks (line_marks some v)) sets ≡ true
  all_from sets all v h true is =
      ap (λ marks. list_any (same_marks marks) sets) (marks_met formula v is lines)
      ∙ all v is (subst IsConflict (alike v is) h)
  all_from sets all v h false is =
      absurd (no_conflict (asked_by (line_marks some v) some) (asked_unmet formula v is lines) h)

pub conflicts_to_where : (formula : Condition) (lines : List LineRecord) (found : List (List ℕ × Bool))
    → AreConflicts (lines_where formula lines) found → AreConflictsWhere formula lines found
conflicts_to_where formula lines found h = record {
  sets = h.sets;
  rising = h.rising;
  realised = realised_to formula lines h.sets h.realised h.conflicts;
  conflicts = conflicts_to formula lines h.sets h.conflicts;
  all =
      λ v is k.
      ap (λ marks. list_any (same_marks marks) h.sets) (sym (marks_met formula v is lines))
      ∙ h.all v (subst IsConflict (sym (alike formula lines v is)) k);
  told = h.told ∙ told_same formula lines h.sets;
}

pub conflicts_from_where : (formula : Condition) (lines : List LineRecord) (found : List (List ℕ × Bool))
    → AreConflictsWhere formula lines found → AreConflicts (lines_where formula lines) found
conflicts_from_where formula lines found h = record {
  sets = h.sets;
  rising = h.rising;
  realised = realised_from formula lines h.sets h.realised;
  conflicts = conflicts_from formula lines h.sets h.conflicts;
  all = λ v k. all_from formula lines h.sets h.all v k (is_met formula v) refl;
  told = h.told ∙ sym (told_same formula lines h.sets);
}
