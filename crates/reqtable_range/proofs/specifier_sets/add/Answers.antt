use Rattle.std.proofs.Common.{refl, subst}
use Rattle.reqtable_range.specs.declared.specifier_sets.Sorted.{Sorted}
use Rattle.reqtable_range.specs.Sorting.{IsOfKind}
use Rattle.reqtable_range.proofs.ByKind.{simple_sorted, local_sorted, single_sorted}
use Rattle.reqtable_range.proofs.specifier_sets.add.Goals as goal

pub returns-in_ok-push-in-Simple : goal.returns-in_ok-push-in-Simple
returns-in_ok-push-in-Simple c = λ before h.
    let old = c.args.sorted.now in
    let new : Sorted = record { simple = c.push.new.self; local = old.local; single = old.single } in
    let kind = subst (λ kind. IsOfKind kind c.args.member.now) c.in-Simple.is c.in_ok-kind_of.ensures in
    simple_sorted old new c.args.member c.in_ok-push-in-Simple.ensures.items refl refl kind before h

pub returns-in_ok-push-in-Local : goal.returns-in_ok-push-in-Local
returns-in_ok-push-in-Local c = λ before h.
    let old = c.args.sorted.now in
    let new : Sorted = record { simple = old.simple; local = c.push-in-Local.new.self; single = old.single } in
    let kind = subst (λ kind. IsOfKind kind c.args.member.now) c.in-Local.is c.in_ok-kind_of.ensures in
    local_sorted old new c.args.member refl c.in_ok-push-in-Local.ensures.items refl kind before h

pub returns-in_ok-push-in-Single : goal.returns-in_ok-push-in-Single
returns-in_ok-push-in-Single c = λ before h.
    let old = c.args.sorted.now in
    let new : Sorted = record { simple = old.simple; local = old.local; single = c.push-in-Single.new.self } in
    let kind = subst (λ kind. IsOfKind kind c.args.member.now) c.in-Single.is c.in_ok-kind_of.ensures in
    single_sorted old new c.args.member refl refl c.in_ok-push-in-Single.ensures.items kind before h
