use Rattle.std.proofs.Common.{◌≡◌, ◌∙◌, IfOk, string_bytes, ap, refl, subst}
use Rattle.pep440_version.specs.Order.{version_cmp}
use Rattle.reqs_c_reply.proofs.Ends.{answered_with}
use Rattle.reqs_c_versions.specs.Versions.{IsOrder, RefusesVersions, order_text}
use Rattle.reqs_c_versions.proofs.version_answers.order.Goals as goal

pub returns-in-Ok : goal.returns-in-Ok
returns-in-Ok c =
    let left = c.args.left.now in
    let right = c.args.right.now in
    answered_with (IsOrder left right) (RefusesVersions left right) c.from_str.result _
    (order_text (version_cmp c.in-Ok.left c.in-Ok.right))
    c.answered.ensures
    (subst (λ says. IfOk c.from_str.result (λ text. string_bytes text ≡ says))
    (c.sign_of.ensures ∙ ap order_text c.cmp.ensures) c.from_str.ensures.ok)
    (record {
      first = c.in-Ok.left;
      second = c.in-Ok.right;
      is_first = c.in-Ok.ensures.left;
      is_second = c.in-Ok.ensures.right;
      says = refl;
    })
