use Rattle.std.proofs.Common.{◌≡◌, ◌∙◌, ◌<◌, Bool, true, false, map, refl, sym, ap, subst}
use mathlib.Core.Bool.{beq}
use Rattle.std.proofs.lemmas.List.{length-map}
use Rattle.std.specs.List.{list_any}
use Rattle.pep508_cases.specs.Sets.{marked}
use Rattle.reqtable_table.specs.Answers.{kept_marks}
use Rattle.reqtable_table.specs.Casing.{case_record}
use Rattle.reqtable_marker_cache.specs.Settings.{nodes_in, valuation_in}
use Rattle.reqtable_table.proofs.AskedLines.{records}
use Rattle.reqtable_table.proofs.MarkedAsks.{any_mark}
use Rattle.reqtable_table.proofs.active_case.place_in.Goals as goal

is_itself : (b : Bool) → beq b true ≡ b
is_itself true = refl
is_itself false = refl

pub returns-then-not-contains-clause-lies : goal.returns-then-not-contains-clause-lies
returns-then-not-contains-clause-lies c =
    let nodes = nodes_in c.args.setting.now in
    let v = valuation_in c.args.setting.now in
    let lines = c.args.kept.now.lines.items in
    let marks_are : c.mark.new.marks.items ≡ kept_marks nodes v (records lines) =
    c.in_ok-mark.ensures.marks ∙ ap (λ l. kept_marks nodes v (records l)) c.deref.ensures.value in
    sym (any_mark (λ b. beq b true) is_itself nodes v (records lines))
    ∙ sym (ap (list_any (λ b. beq b true)) (c.deref-2.ensures.value ∙ marks_are))
    ∙ sym c.contains.ensures.value ∙ c.if-not-contains.true

pub returns-in-Ok-clause-lies : goal.returns-in-Ok-clause-lies
returns-in-Ok-clause-lies c =
    let nodes = nodes_in c.args.setting.now in
    let v = valuation_in c.args.setting.now in
    let lines = c.args.kept.now.lines.items in
    let marks_are : c.mark.new.marks.items ≡ kept_marks nodes v (records lines) =
    c.in_ok-mark.ensures.marks ∙ ap (λ l. kept_marks nodes v (records l)) c.deref.ensures.value in
    let long = length-map c.args.kept.now.cases.items case_record in
    record {
      asked =
          sym (any_mark (λ b. beq b true) is_itself nodes v (records lines))
          ∙ sym (ap (list_any (λ b. beq b true)) (c.deref-2.ensures.value ∙ marks_are))
          ∙ sym c.contains.ensures.value ∙ c.if-not-contains.false;
      within = subst (λ n. c.in-Ok.place < n) (sym long) c.in-Ok.ensures.within;
      numbers = λ other. c.in-Ok.ensures.numbers other
          ∙ ap (λ m. map (λ line. line.number) (marked m (records lines))) (c.deref-3.ensures.value ∙ marks_are);
    }
