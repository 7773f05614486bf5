use Rattle.std.proofs.Common.{◌≡◌, ◌∙◌, sym, ap, false}
use Rattle.std.proofs.lemmas.List.{take_all}
use Rattle.std.proofs.lemmas.List.Folds.{list_all_at, list_all-map}
use Rattle.std.specs.List.{list_all}
use Rattle.reqtable_cases.specs.Usable.{is_ranged}
use Rattle.reqtable_cases.proofs.ranges.are_ranged.Goals as goal

pub returns-then-not-ranged : goal.returns-then-not-ranged
returns-then-not-ranged c =
    let members = c.args.members.now in
    let refused : is_ranged c.member-item.result.now ≡ false = sym c.in_ok-ranged.ensures ∙ c.if-not-ranged.true in
    sym (list_all-map is_ranged (λ member. member.now) members
    ∙ list_all_at (λ member. is_ranged member.now) members c.loop-member.member-index c.member-item.result c.loop-member-test.true (rw (← c.member-item.is) refused))

pub returns : goal.returns
returns c =
    let members = c.args.members.now in
    sym (list_all-map is_ranged (λ member. member.now) members
    ∙ ap (list_all (λ member. is_ranged member.now)) (sym (take_all c.loop-member.member-index members c.loop-member-test.false))
    ∙ c.loop-member.invariant)
