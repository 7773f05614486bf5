use Rattle.std.proofs.Common.{◌+◌, map, take, subst, rules}
use Rattle.std.proofs.lemmas.List.{take_all}
use Rattle.std.specs.List.{AllZip}
use Rattle.reqtable_marker_cache.proofs.Holding.{none_known}
use Rattle.reqtable_table.specs.Answers.{LiesIn}
use Rattle.reqtable_table.specs.Cases.{HasItsCases}
use Rattle.reqtable_table.specs.KeptLines.{package_record}
use Rattle.reqtable_marker_cache.specs.Settings.{nodes_in, valuation_in}
use Rattle.reqtable_table.specs.Standing.{HasItsLines}
use Rattle.reqtable_table.proofs.Finding.{all_at, seen_more}
use Rattle.reqtable_table.proofs.Packages.{zip_pushed}
use Rattle.reqtable_table.proofs.active_case.places_of.Goals as goal

pub place_in-requires-clause-lines : goal.place_in-requires-clause-lines
place_in-requires-clause-lines c =
    all_at HasItsLines package_record c.args.packages.now c.loop-kept.kept-index c.kept-item.result c.loop-kept-test.true
    c.kept-item.is c.requires.lines

pub place_in-requires-clause-cases : goal.place_in-requires-clause-cases
place_in-requires-clause-cases c =
    all_at (HasItsCases (nodes_in c.args.setting.now)) package_record c.args.packages.now c.loop-kept.kept-index c.kept-item.result
    c.loop-kept-test.true c.kept-item.is c.requires.cases

pub loop-kept-init : goal.loop-kept-init
loop-kept-init c = record {
  lie = search rules;
  known = none_known (nodes_in c.args.setting.now) (valuation_in c.args.setting.now) c.in_ok-known.known c.in_ok-known.ensures;
}

pub loop-kept-preserved : goal.loop-kept-preserved
loop-kept-preserved c =
    let items = c.args.packages.now in
    let i = c.loop-kept.kept-index in
    let kept = c.kept-item.result in
    record {
      lie = zip_pushed (LiesIn (nodes_in c.args.setting.now) (valuation_in c.args.setting.now)) (map package_record (take i items))
          (map package_record (take (i + 1) items)) c.loop-kept.places.items c.push.new.self.items (package_record kept) c.in_ok-place.place
          (seen_more package_record items i kept c.loop-kept-test.true c.kept-item.is) c.in_ok-push.ensures.items
          c.loop-kept.invariant.lie c.in_ok-place.ensures.lies;
      known = c.place_in.ensures.known;
    }

pub returns : goal.returns
returns c =
    subst (λ l. AllZip (LiesIn (nodes_in c.args.setting.now) (valuation_in c.args.setting.now)) (map package_record l) c.loop-kept.places.items)
    (take_all c.loop-kept.kept-index c.args.packages.now c.loop-kept-test.false) c.loop-kept.invariant.lie
