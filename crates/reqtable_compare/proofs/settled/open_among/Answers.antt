use Rattle.std.proofs.Common.{◌≡◌, ◌∙◌, ◌++◌, ◌+◌, ℕ, false, List, drop, ap, sym, subst}
use Rattle.std.specs.List.{list_any}
use Rattle.std.specs.Str.{bytes_eq}
use Rattle.reqtable_packages.specs.Packages.{lines_at}
use Rattle.reqtable_packages.proofs.Passing.{texts, Rise, rise_kept, rise_passed, kept, passed}
use Rattle.reqtable_compare.specs.Settled.{AreSettled}
use Rattle.reqtable_compare.proofs.settled.open_among.Goals as goal
use Rattle.reqtable_compare.proofs.settled.open_among.Goals.{then-not-is_settled+in_ok-push}
use Rattle.reqtable_compare.proofs.settled.open_among.Goals.{else-not-is_settled}

pub loop-name-preserved : goal.loop-name-preserved
loop-name-preserved c =
    let names = c.args.names.now in
    let i = c.loop-name.name-index in
    let name = c.name-item.result in
    let before = c.loop-name.unsettled.items in
    let P : List ℕ → Type 0 = λ q. AreSettled c.args.limit (lines_at c.args.ours.now q) (lines_at c.args.theirs.now q) in
    elim c.if-not-is_settled.branch [
      | then-not-is_settled+in_ok-push w ↦
          let items = sym (ap (λ taken. taken.items) w.unsettled-is ∙ w.in_ok-push.ensures.items) in
          record {
            rising = subst (λ taken. Rise (texts taken ++ texts (drop (i + 1) names))) items
                (rise_kept names i name c.loop-name-test.true c.name-item.is before c.loop-name.invariant.rising);
            settled = λ q there.
                subst (λ taken. list_any (bytes_eq q) (texts taken) ≡ false → P q) items
                (kept names i name c.loop-name-test.true c.name-item.is P before c.loop-name.invariant.settled q there);
          }
      | else-not-is_settled w ↦
          let items = sym (ap (λ taken. taken.items) w.unsettled-is) in
          record {
            rising = subst (λ taken. Rise (texts taken ++ texts (drop (i + 1) names))) items
                (rise_passed names i name c.loop-name-test.true c.name-item.is before c.loop-name.invariant.rising);
            settled = λ q there.
                subst (λ taken. list_any (bytes_eq q) (texts taken) ≡ false → P q) items
                (passed names i name c.loop-name-test.true c.name-item.is P before c.loop-name.invariant.settled
                (c.is_settled.ensures w.if-not-is_settled.false) q there);
          }
    ]
