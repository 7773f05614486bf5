use Rattle.std.proofs.Common.{◌∙◌, ℕ, List, Bor, Ok, ap, sym, []}
use Rattle.std.proofs.lemmas.Result.{err_from_is_err_and}
use Rattle.pep508_name.specs.Name.{told_name}
use Rattle.reqs_c_algebra.proofs.NameTexts.{one_more, refused}
use Rattle.reqs_c_algebra.proofs.names.names_of_lines.Goals as goal

pub returns-in_err-from_str : goal.returns-in_err-from_str
returns-in_err-from_str c =
    let e : Bor (List ℕ) = record { ref_ptr = (0, 0); now = [] } in
    let p = err_from_is_err_and c.from_residual.result c.from_residual.ensures.1 in
    rw (p.1, p.2) (refused (λ x. x.now) c.args.lines.now c.loop-line.line-index e c.loop-line-test.true
    c.loop-line.names.items c.loop-line.invariant (told_name c.in_err-from_str.field-0.0)
    c.in_err-from_str.ensures.answered)

pub loop-line-preserved : goal.loop-line-preserved
loop-line-preserved c =
    let e : Bor (List ℕ) = record { ref_ptr = (0, 0); now = [] } in
    one_more (λ x. x.now) c.args.lines.now c.loop-line.line-index e c.loop-line-test.true
    c.loop-line.names.items c.loop-line.invariant c.in_ok-from_str.field-0 c.in_ok-from_str.ensures.answered
    ∙ ap (λ l. Ok l) (sym c.in-Ok.ensures.items)
