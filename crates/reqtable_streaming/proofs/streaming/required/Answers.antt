use Rattle.std.proofs.Common.{◌∙◌, ◌==◌, List, length, ap, sym, subst}
use Rattle.reqtable_answer.specs.Says.{asks_seen}
use Rattle.reqtable_answer.specs.declared.ask.Ask.{Ask}
use Rattle.reqtable_streaming.specs.Packages.{AreNew}
use Rattle.reqtable_streaming.proofs.Counting.{none_required}
use Rattle.reqtable_streaming.proofs.streaming.required.Goals as goal

pub packages_of-requires : goal.packages_of-requires
packages_of-requires c = (
  asks_seen c.deref.result.now,
  record {
    packages = c.in_ok-groups.ensures.packages;
    asks = c.in_ok-groups.ensures.asks;
  },
)

pub returns-then-is_empty-clause-packages : goal.returns-then-is_empty-clause-packages
returns-then-is_empty-clause-packages c =
    let asks = c.args.asks.items in
    subst (AreNew (asks_seen asks)) (sym c.new.ensures.items)
    (none_required asks (c.if-is_empty.ensures ∙ ap (λ (l : List Ask). length l == 0) c.as_slice.ensures.value))

pub returns-clause-packages : goal.returns-clause-packages
returns-clause-packages c =
    let P : List Ask → Type 0 = λ asks. AreNew (asks_seen asks) c.in_ok-packages.packages.items in
    subst P c.deref.ensures.value
    (c.in_ok-packages.ensures (asks_seen c.deref.result.now) (record {
      packages = c.in_ok-groups.ensures.packages;
      asks = c.in_ok-groups.ensures.asks;
    }))
