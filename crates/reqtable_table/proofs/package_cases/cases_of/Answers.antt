use Rattle.std.proofs.Common.{◌≡◌, ◌∙◌, ◌++◌, ◌∷◌, ◌+◌, [], map, take, ap, sym, subst}
use Rattle.std.proofs.lemmas.List.{map-append, take_more}
use Rattle.pep508_cases.specs.Seen.{case_seen, cases_seen}
use Rattle.reqtable_table.specs.Casing.{is_naming, case_record, IsCaseBy, IsCaseOfGiven}
use Rattle.reqtable_groups.specs.declared.given.Given.{Given}
use Rattle.reqtable_table.proofs.OfGiven.{of_given}
use Rattle.reqtable_table.proofs.Packages.{zip_pushed}
use Rattle.reqtable_table.proofs.package_cases.cases_of.Goals as goal

pub loop-set-preserved : goal.loop-set-preserved
loop-set-preserved c =
    let sets = c.args.sets.now in
    let i = c.loop-set.set-index in
    let set = c.set-item.result in
    let lines = c.args.lines.now in
    let case = case_record c.in_ok-case_of.field-0 in
    let numbers : c.in_ok-numbers-2.numbers.value.items ≡ map (λ (line : Given). line.number) lines =
    ap (λ v. v.items) c.in_ok-numbers-2.ensures.ok ∙ c.in_ok-numbers.ensures in
    let is : IsCaseOfGiven lines case (case_seen set) =
    of_given lines case (case_seen set)
    (subst (λ ns. IsCaseBy ns (map is_naming lines) case (case_seen set)) numbers
    (subst (λ naming. IsCaseBy c.in_ok-numbers-2.numbers.value.items naming case (case_seen set)) c.in_ok-naming.ensures
    c.in_ok-case_of.ensures)) in
    let next : take (i + 1) sets ≡ take i sets ++ set ∷ [] =
    take_more sets i set c.loop-set-test.true ∙ ap (λ s. take i sets ++ s ∷ []) (sym c.set-item.is) in
    zip_pushed (IsCaseOfGiven c.args.lines.now) (map case_record c.loop-set.cases.items) (map case_record c.push.new.self.items)
    (cases_seen (take i sets)) (cases_seen (take (i + 1) sets)) (case_record c.in_ok-case_of.field-0) (case_seen set)
    (ap (map case_record) c.in_ok-push.ensures.items ∙ map-append case_record c.loop-set.cases.items _)
    (ap cases_seen next ∙ map-append case_seen (take i sets) (set ∷ [])) c.loop-set.invariant is
