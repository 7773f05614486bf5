use Rattle.std.proofs.Common.{◌≡◌, ℕ, true, false, List, ap}
use Rattle.std.specs.List.{list_any}
use Rattle.std.specs.Str.{bytes_eq}
use Rattle.reqtable_packages.specs.Packages.{lines_at}
use Rattle.reqtable_packages.proofs.Passing.{Rise, texts, if_both}
use Rattle.reqtable_compare.specs.Settled.{AreOpen, AreSettled}
use Rattle.reqtable_compare.proofs.Opening.{are_open}
use Rattle.reqtable_compare.proofs.settled.open_packages.Goals as goal

pub returns : goal.returns
returns c =
    let names = texts c.deref.result.now in
    let ours = lines_at c.in_ok-ours.ours in
    let theirs = lines_at c.in_ok-theirs.theirs in
    if_both (λ taken. Rise (texts taken.items))
    (λ taken. (q : List ℕ) → list_any (bytes_eq q) names ≡ true → list_any (bytes_eq q) (texts taken.items) ≡ false →
    AreSettled c.args.limit (ours q) (theirs q))
    (λ taken. AreOpen c.args.limit c.args.left.now c.args.right.now (texts taken.items)) c.open_among.result
    (λ taken rise settled. are_open c.args.limit c.args.left.now c.args.right.now (texts c.in_ok-names.names.items) names
    (texts taken.items) ours theirs c.in_ok-ours.ensures c.in_ok-theirs.ensures (ap texts c.deref.ensures.value)
    c.in_ok-names.ensures.are rise settled)
    c.open_among.ensures.rising c.open_among.ensures.settled
