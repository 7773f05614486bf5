use Rattle.std.proofs.Common.{◌∙◌, inl, inr, refl, sym, ap, subst, rules}
use Rattle.std.specs.List.{list_any}
use Rattle.std.specs.List.Sorted.{IsStrictlySortedBy}
use Rattle.std.specs.Ordering.{nat_cmp}
use Rattle.std.specs.Cmp.Lexicographic.{slice_cmp}
use Rattle.std.specs.Str.{bytes_eq}
use Rattle.reqtable_answer.specs.Says.{asks_seen}
use Rattle.reqtable_answer.proofs.Alike.{same_answer}
use Rattle.reqtable_answer.proofs.Said.{said_alike}
use Rattle.reqtable_streaming.specs.Packages.{HaveBests}
use Rattle.reqtable_streaming.proofs.Counting.{some_required, some_asks}
use Rattle.reqtable_streaming.proofs.streaming.selected.Goals as goal

pub returns-in_err-offer_all-clause-grown : goal.returns-in_err-offer_all-clause-grown
returns-in_err-offer_all-clause-grown g c = λ e.
    let asks = c.args.asks.items in
    let packages = c.in_ok-packages.packages.items in
    elim (c.in_err-offer_all.ensures.grown (search rules)) [
      | inl reached ↦ inl reached
      | inr some ↦ inr (some_asks asks (some_required (asks_seen asks) packages packages c.in_ok-packages.ensures.packages refl some))
    ]

pub returns-in_err-selection-clause-grown : goal.returns-in_err-selection-clause-grown
returns-in_err-selection-clause-grown g c = λ e.
    let asks = c.args.asks.items in
    inr (some_asks asks
    (some_required (asks_seen asks) c.in_ok-packages.packages.items c.offer_all.new.packages.items
    c.in_ok-packages.ensures.packages c.in_ok-offer_all.ensures.names c.in_err-selection.ensures.grown))

pub returns-clause-answered : goal.returns-clause-answered
returns-clause-answered g c =
    let all = asks_seen c.args.asks.items in
    let new = c.in_ok-packages.ensures.packages in
    let names = c.in_ok-offer_all.ensures.names in
    let read = c.in_ok-offer_all.ensures.answered in (
      read.0,
      read.1,
      λ said admits say by.
          let has : HaveBests admits all read.0 c.offer_all.new.packages.items = record {
            rising = subst (IsStrictlySortedBy (slice_cmp nat_cmp)) (sym names) new.rising;
            asked = λ q. ap (list_any (bytes_eq q)) names ∙ new.asked q;
            each = read.2 admits all by new.each;
          } in
          let is = c.in_ok-selection.ensures.selected admits all read.0 has in
          record {
            answer = is.answer;
            is_answer = same_answer admits read.0 all said (said_alike all said say) is.answer is.is_answer;
            are_its_rows = is.are_its_rows;
          },
    )
