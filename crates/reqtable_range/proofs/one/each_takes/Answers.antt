use Rattle.std.proofs.Common.{◌≡◌, ◌∙◌, sym, ap, false}
use Rattle.std.proofs.lemmas.List.{take_all}
use Rattle.std.proofs.lemmas.List.Folds.{list_all_at, list_all-map}
use Rattle.std.specs.List.{list_all}
use Rattle.pep440_specifier.specs.Matching.{takes}
use Rattle.reqtable_range.proofs.one.each_takes.Goals as goal

pub returns-then-not-taken : goal.returns-then-not-taken
returns-then-not-taken c =
    let v = c.args.version.now in
    let members = c.args.members.now in
    let refused : takes v c.member-item.result.now ≡ false = sym c.in_ok-taken.ensures.matching ∙ c.if-not-taken.true in
    sym (list_all-map (takes v) (λ member. member.now) members
    ∙ list_all_at (λ member. takes v member.now) members c.loop-member.member-index c.member-item.result c.loop-member-test.true (rw (← c.member-item.is) refused))

pub returns : goal.returns
returns c =
    let v = c.args.version.now in
    let members = c.args.members.now in
    sym (list_all-map (takes v) (λ member. member.now) members
    ∙ ap (list_all (λ member. takes v member.now)) (sym (take_all c.loop-member.member-index members c.loop-member-test.false))
    ∙ c.loop-member.invariant)
