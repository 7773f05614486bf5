use Rattle.std.proofs.Common.{◌≡◌, ◌∙◌, Option, None, sym, ap}
use Rattle.std.specs.Option.{option_map}
use Rattle.reqtable_answer.proofs.United.{if_ok}
use Rattle.reqtable_compare.specs.declared.refusing.Refused.{Refused}
use Rattle.reqtable_compare.specs.declared.sides.Side.TheVariants.{Left, Right}
use Rattle.reqtable_compare.specs.RefusedLines.{refused_seen, lines_refusal}
use Rattle.reqtable_compare.proofs.Causes.{some_first, none_first}
use Rattle.reqtable_compare.proofs.refusing.first_refusal.Goals as goal

pub returns-in-Some : goal.returns-in-Some
returns-in-Some c =
    sym (some_first Left c.args.left.now (refused_seen c.in-Some.refused)
    (lines_refusal Right c.args.right.now None)
    (sym c.in_ok-refused.ensures ∙ ap (option_map refused_seen) c.in-Some.is))

pub returns-in-None : goal.returns-in-None
returns-in-None c =
    let right = lines_refusal Right c.args.right.now None in
    let none = none_first Left c.args.left.now right
    (sym c.in_ok-refused.ensures ∙ ap (option_map refused_seen) c.in-None.is) in
    let P : Option Refused → Type 0 = λ found. option_map refused_seen found ≡ right in
    let Q : Option Refused → Type 0 = λ found. option_map refused_seen found ≡ lines_refusal Left c.args.left.now right in
    if_ok P Q c.refused_in-in-None.result (λ found h. h ∙ sym none) c.refused_in-in-None.ensures
