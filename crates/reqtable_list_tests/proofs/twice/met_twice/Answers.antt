use Rattle.std.proofs.Common.{◌≡◌, ◌∙◌, ◌&&◌, Bool, true, false, refl}
use Rattle.std.proofs.lemmas.Result.{IfOk-weaker}
use Rattle.version_ranges.specs.Held.{holds_at}
use Rattle.pep440_version.specs.Order.{version_cmp}
use Rattle.reqtable_list_tests.proofs.twice.met_twice.Goals as goal

once_is_enough : (a b c : Bool) → ((a && b) && (a && c)) ≡ (a && b && c)
once_is_enough true b c = refl
once_is_enough false b c = refl

pub returns : goal.returns
returns c =
    IfOk-weaker c.intersection-3.result _ _
    (λ met h point. h point
    ∙ (λ i. c.in_ok-one.ensures point i && c.in_ok-other.ensures point i)
    ∙ once_is_enough (holds_at version_cmp c.args.set.now point) (holds_at version_cmp c.args.first.now point)
    (holds_at version_cmp c.args.second.now point))
    c.intersection-3.ensures
