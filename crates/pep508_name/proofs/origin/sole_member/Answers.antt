use Rattle.std.proofs.Common.{ℕ, List, Some, option_and_then, sym, ◌∙◌, ap}
use Rattle.serde_json.specs.View.{view}
use Rattle.pep508_name.specs.Origin.{sole_member}
use Rattle.pep508_name.proofs.Forms.{sole_of_others, sole_of_one}
use Rattle.pep508_name.proofs.origin.sole_member.Goals as goal

pub returns-then-len-ne1 : goal.returns-then-len-ne1
returns-then-len-ne1 c =
    sym (sole_of_others c.in_ok-members.members.now.entries (λ e. c.if-len-ne1.true (c.len.ensures.len ∙ e)))
    ∙ ap (option_and_then sole_member) c.in_ok-members.ensures

pub returns : goal.returns
returns c =
    ap (λ (text : List ℕ). Some (text, view c.in_ok-name.member.now)) c.as_str.ensures.value
    ∙ sym (sole_of_one c.in_ok-members.members.now.entries _ (sym c.len.ensures.len ∙ c.if-len-ne1.false) c.in_ok-name.ensures.first)
    ∙ ap (option_and_then sole_member) c.in_ok-members.ensures
