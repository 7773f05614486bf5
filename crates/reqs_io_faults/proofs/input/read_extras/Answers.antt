use Rattle.std.proofs.Common.{◌∙◌, ℕ, List, Bor, Ok, ap, sym, []}
use Rattle.std.proofs.lemmas.Result.{err_from_is_err_and}
use Rattle.reqs_io_faults.proofs.Extras.{one_more, refused}
use Rattle.reqs_io_faults.proofs.input.read_extras.Goals as goal

pub returns-in_err-read_extra : goal.returns-in_err-read_extra
returns-in_err-read_extra c =
    let e : Bor (List ℕ) = record { ref_ptr = (0, 0); now = [] } in
    let p = err_from_is_err_and c.from_residual.result c.from_residual.ensures.1 in
    rw (p.1, p.2) (refused (λ x. x.now) c.args.extras.now c.loop-extra.extra-index e c.loop-extra-test.true
    c.loop-extra.names.items c.loop-extra.invariant c.in_err-read_extra.field-0.0 c.in_err-read_extra.ensures)

pub loop-extra-preserved : goal.loop-extra-preserved
loop-extra-preserved c =
    let e : Bor (List ℕ) = record { ref_ptr = (0, 0); now = [] } in
    one_more (λ x. x.now) c.args.extras.now c.loop-extra.extra-index e c.loop-extra-test.true
    c.loop-extra.names.items c.loop-extra.invariant c.in_ok-read_extra.field-0 c.in_ok-read_extra.ensures
    ∙ ap (λ l. Ok l) (sym c.in_ok-push.ensures.items)
