use Rattle.std.proofs.Common.{◌≡◌, ◌∙◌, ◌<◌, ℕ, List, Bool, true, false, length, map, get_or, refl, sym, ap}
use Rattle.std.proofs.Common.{subst}
use mathlib.Core.Bool.{beq}
use Rattle.std.proofs.lemmas.List.{length-map}
use Rattle.std.specs.List.{list_any}
use Rattle.pep508_diagram.specs.Question.{Valuation}
use Rattle.pep508_tree.specs.Meaning.{NodeRecord}
use Rattle.pep508_cases.specs.Cases.{Marks}
use Rattle.reqtable_candidates.specs.Ordered.{placed_seen}
use Rattle.reqtable_answer.specs.Asks.{has_extra}
use Rattle.pep508_cases.specs.Sets.{marked}
use Rattle.reqtable_table.specs.Answers.{kept_marks, kept_asked, IsPlaceIn}
use Rattle.reqtable_table.specs.Casing.{case_record}
use Rattle.reqtable_table.specs.Choosing.{case_asks, outcome_in_order}
use Rattle.reqtable_table.specs.Kept.{KeptLine, KeptCase, KeptPackage}
use Rattle.reqtable_table.specs.KeptLines.{package_record}
use Rattle.reqtable_marker_cache.specs.Settings.{nodes_in, valuation_in}
use Rattle.reqtable_table.proofs.AskedLines.{records}
use Rattle.reqtable_table.proofs.MarkedAsks.{any_mark}
use Rattle.reqtable_table.proofs.Same.{same_package}
use Rattle.reqtable_table.proofs.row.row_of.Goals as goal

pub returns-in_err-mark-clause-same : goal.returns-in_err-mark-clause-same
returns-in_err-mark-clause-same g c = same_package (package_record c.args.kept.now)

pub returns-then-not-contains-clause-same : goal.returns-then-not-contains-clause-same
returns-then-not-contains-clause-same g c = same_package (package_record c.args.kept.now)

pub returns-in_err-place-clause-same : goal.returns-in_err-place-clause-same
returns-in_err-place-clause-same g c = same_package (package_record c.args.kept.now)

pub returns-in_err-name-clause-same : goal.returns-in_err-name-clause-same
returns-in_err-name-clause-same g c = same_package (package_record c.args.kept.now)

pub returns-in_err-extras-clause-same : goal.returns-in_err-extras-clause-same
returns-in_err-extras-clause-same g c = same_package (package_record c.args.kept.now)

is_itself : (b : Bool) → beq b true ≡ b
is_itself true = refl
is_itself false = refl

pub returns-then-not-contains-clause-row : goal.returns-then-not-contains-clause-row
returns-then-not-contains-clause-row g c = λ admits by.
    let nodes = nodes_in c.args.setting.now in
    let v = valuation_in c.args.setting.now in
    let lines = c.args.kept.now.lines.items in
    let marks_are : c.mark.new.marks.items ≡ kept_marks nodes v (records lines) =
    c.in_ok-mark.ensures.marks ∙ ap (λ l. kept_marks nodes v (records l)) c.deref.ensures.value in
    sym (any_mark (λ b. beq b true) is_itself nodes v (records lines))
    ∙ sym (ap (list_any (λ b. beq b true)) (c.deref-2.ensures.value ∙ marks_are))
    ∙ sym c.contains.ensures.value ∙ c.if-not-contains.true

pub returns-in-Ok-clause-row : goal.returns-in-Ok-clause-row
returns-in-Ok-clause-row g c = λ admits by.
    let nodes = nodes_in c.args.setting.now in
    let v = valuation_in c.args.setting.now in
    let lines = c.args.kept.now.lines.items in
    let marks_are : c.mark.new.marks.items ≡ kept_marks nodes v (records lines) =
    c.in_ok-mark.ensures.marks ∙ ap (λ l. kept_marks nodes v (records l)) c.deref.ensures.value in
    let asks : c.deref-5.result.now ≡ c.mark.new.marks.items → c.deref-4.result.now ≡ lines →
    case_asks c.deref-5.result.now (records c.deref-4.result.now) ≡ kept_asked nodes v (records lines) =
    (λ m l i. case_asks ((m ∙ marks_are) i) (records (l i))) in
    record {
      asked =
          sym (any_mark (λ b. beq b true) is_itself nodes v (records lines))
          ∙ sym (ap (list_any (λ b. beq b true)) (c.deref-2.ensures.value ∙ marks_are))
          ∙ sym c.contains.ensures.value ∙ c.if-not-contains.false;
      named = c.in_ok-name.ensures;
      extras_rise = c.in_ok-extras.ensures.rise;
      extras_are = λ extra. c.in_ok-extras.ensures.are extra
          ∙ ap (list_any (has_extra extra)) (asks c.deref-5.ensures.value c.deref-4.ensures.value);
      outcome = c.in-Ok.ensures.outcome admits by
          ∙ (λ i. outcome_in_order admits (case_asks ((c.deref-6.ensures.value ∙ marks_are) i) (records lines))
          (map placed_seen c.args.own.now));
    }

is_place : (nodes : List NodeRecord) (v : Valuation) (kept : KeptPackage) (marks : Marks) (place : ℕ) →
    marks ≡ kept_marks nodes v kept.lines → list_any (λ b. beq b true) marks ≡ true → place < length kept.cases →
    ((other : KeptCase) → (get_or kept.cases place other).numbers ≡ map (λ line. line.number) (marked marks kept.lines)) →
    IsPlaceIn nodes v kept place
is_place nodes v kept marks place are some within numbers = record {
  asked = sym (any_mark (λ b. beq b true) is_itself nodes v kept.lines) ∙ sym (ap (list_any (λ b. beq b true)) are) ∙ some;
  within = within;
  numbers = λ other. numbers other ∙ ap (λ m. map (λ (line : KeptLine). line.number) (marked m kept.lines)) are;
}

pub returns-in-Ok-clause-once : goal.returns-in-Ok-clause-once
returns-in-Ok-clause-once g c = λ known.
    let nodes = nodes_in c.args.setting.now in
    let v = valuation_in c.args.setting.now in
    let kept = package_record c.args.kept.now in
    let marks_are : c.mark.new.marks.items ≡ kept_marks nodes v kept.lines =
    c.in_ok-mark.ensures.marks ∙ ap (λ l. kept_marks nodes v (records l)) c.deref.ensures.value in
    let long = length-map c.args.kept.now.cases.items case_record in
    c.outcome_in.ensures.once (known c.in_ok-place.place
    (is_place nodes v kept c.mark.new.marks.items c.in_ok-place.place marks_are
    (sym (ap (list_any (λ b. beq b true)) c.deref-2.ensures.value) ∙ sym c.contains.ensures.value ∙ c.if-not-contains.false)
    (subst (λ n. c.in_ok-place.place < n) (sym long) c.in_ok-place.ensures.within)
    (λ other. c.in_ok-place.ensures.numbers other
    ∙ ap (λ m. map (λ (line : KeptLine). line.number) (marked m kept.lines)) c.deref-3.ensures.value)))

pub returns-clause-once : goal.returns-clause-once
returns-clause-once g c = λ known.
    let nodes = nodes_in c.args.setting.now in
    let v = valuation_in c.args.setting.now in
    let kept = package_record c.args.kept.now in
    let marks_are : c.mark.new.marks.items ≡ kept_marks nodes v kept.lines =
    c.in_ok-mark.ensures.marks ∙ ap (λ l. kept_marks nodes v (records l)) c.deref.ensures.value in
    let long = length-map c.args.kept.now.cases.items case_record in
    c.outcome_in.ensures.once (known c.in_ok-place.place
    (is_place nodes v kept c.mark.new.marks.items c.in_ok-place.place marks_are
    (sym (ap (list_any (λ b. beq b true)) c.deref-2.ensures.value) ∙ sym c.contains.ensures.value ∙ c.if-not-contains.false)
    (subst (λ n. c.in_ok-place.place < n) (sym long) c.in_ok-place.ensures.within)
    (λ other. c.in_ok-place.ensures.numbers other
    ∙ ap (λ m. map (λ (line : KeptLine). line.number) (marked m kept.lines)) c.deref-3.ensures.value)))
