use Rattle.std.proofs.Common.{◌<◌, ◌+◌, [], List, ℕ, Option, None, length, get_or, take, sym, subst, arith}
use Rattle.std.proofs.lemmas.List.{take_all}
use Rattle.std.specs.List.{AllZip}
use Rattle.reqtable_table.specs.Answers.{LiesIn, SamePackage}
use Rattle.reqtable_table.specs.Kept.{KeptPackage}
use Rattle.reqtable_table.proofs.Placed.{same_back}
use Rattle.reqtable_table.proofs.Same.{all_same, packages_on, have_lines}
use Rattle.reqs_rows.specs.Asked.{nodes_in, valuation_in, candidates_in, format_in}
use Rattle.reqs_rows.proofs.Places.{at_zip, zip_long}
use Rattle.reqs_rows.proofs.Putting.{lies_same, puts_same}
use Rattle.reqs_rows.proofs.Ready.{with_text, no_more}
use Rattle.reqs_rows.proofs.Going.{PutsUpTo, none_put, all_put, row_put, tests_front, tests_more}
use Rattle.reqs_rows.proofs.answering.put_rows.Given as given
use Rattle.reqs_rows.proofs.answering.put_rows.Goals as goal

no_package : KeptPackage
no_package = record { name = []; cases = []; lines = [] }

inside : (table : List KeptPackage) (places : List (Option ℕ)) (i : ℕ) (R : KeptPackage → Option ℕ → Type 0) → AllZip R table places
    → i < length places → i < length table
inside table places i R lie below = let long = zip_long R table places lie in omega (arith, long, below)

inside_too : (now first : List KeptPackage) (i : ℕ) → AllZip SamePackage now first → i < length first → i < length now
inside_too now first i same below = let long = zip_long SamePackage now first same in omega (arith, long, below)

pub loop-index-init : goal.loop-index-init
loop-index-init g c = record {
  same = all_same c.args.run.now.table;
  ready = c.requires.ready;
  put = λ admits by.
      none_put (format_in c.args.asked.now) admits (nodes_in c.args.asked.now) (valuation_in c.args.asked.now)
      (candidates_in c.args.asked.now) c.args.run.now.text.whole;
  tests = omega arith;
}

pub put_row-requires-clause-within : goal.put_row-requires-clause-within
put_row-requires-clause-within g c =
    let v = valuation_in c.args.asked.now in
    let first = c.args.run.now.table in
    let i = c.loop-index.index in
    inside_too c.loop-index.run.table first i c.loop-index.invariant.same
    (inside first c.args.places.now i (LiesIn (nodes_in c.args.asked.now) v) c.requires.lie c.loop-index-test.true)

pub put_row-requires-clause-lines : goal.put_row-requires-clause-lines
put_row-requires-clause-lines g c =
    have_lines c.loop-index.run.table c.args.run.now.table c.loop-index.invariant.same c.requires.lines

pub put_row-requires-clause-ready : goal.put_row-requires-clause-ready
put_row-requires-clause-ready g c =
    let run = c.loop-index.run in
    let text = c.separate.new.pieces in
    with_text _ _ (format_in c.args.asked.now) (nodes_in c.args.asked.now) (candidates_in c.args.asked.now) run text
    (no_more run.text.texts text.texts c.separate.ensures.kept) c.loop-index.invariant.ready

pub put_row-requires-clause-lies : goal.put_row-requires-clause-lies
put_row-requires-clause-lies g c =
    let format = format_in c.args.asked.now in
    let returns = given.F-post g c.args.admission.now in
    let nodes = nodes_in c.args.asked.now in
    let v = valuation_in c.args.asked.now in
    let candidates = candidates_in c.args.asked.now in
    let first = c.args.run.now.table in
    let now = c.loop-index.run.table in
    let i = c.loop-index.index in
    let same = c.loop-index.invariant.same in
    let below = inside first c.args.places.now i (LiesIn nodes v) c.requires.lie c.loop-index-test.true in
    let under = inside_too now first i same below in
    λ other.
    let was = get_or first i other in
    let is = get_or now i other in
    lies_same format returns nodes candidates was is (same_back is was (at_zip SamePackage now first i other other same under)) v
    (get_or c.args.places.now i None) (at_zip (LiesIn nodes v) first c.args.places.now i other None c.requires.lie below)

pub returns-in_err-put_row-clause-kept : goal.returns-in_err-put_row-clause-kept
returns-in_err-put_row-clause-kept g c =
    packages_on c.put_row.new.run.table c.loop-index.run.table c.args.run.now.table c.put_row.ensures.kept
    c.loop-index.invariant.same

pub returns-in_err-put_row-clause-tests : goal.returns-in_err-put_row-clause-tests
returns-in_err-put_row-clause-tests g c =
    let nodes = nodes_in c.args.asked.now in
    let v = valuation_in c.args.asked.now in
    let candidates = candidates_in c.args.asked.now in
    let first = c.args.run.now.table in
    let i = c.loop-index.index in
    let below = inside first c.args.places.now i (LiesIn nodes v) c.requires.lie c.loop-index-test.true in
    tests_front nodes v candidates first c.put_row.new.run.table (i + 1)
    (tests_more nodes v candidates first c.loop-index.run.table c.put_row.new.run.table i no_package c.loop-index.invariant.same
    below c.loop-index.invariant.tests (c.put_row.ensures.tests no_package))

pub returns-in_err-later-clause-tests : goal.returns-in_err-later-clause-tests
returns-in_err-later-clause-tests g c =
    tests_front (nodes_in c.args.asked.now) (valuation_in c.args.asked.now) (candidates_in c.args.asked.now) c.args.run.now.table
    c.loop-index.run.table c.loop-index.index c.loop-index.invariant.tests

pub loop-index-preserved : goal.loop-index-preserved
loop-index-preserved g c =
    let format = format_in c.args.asked.now in
    let returns = given.F-post g c.args.admission.now in
    let nodes = nodes_in c.args.asked.now in
    let v = valuation_in c.args.asked.now in
    let candidates = candidates_in c.args.asked.now in
    let first = c.args.run.now.table in
    let now = c.loop-index.run.table in
    let new = c.put_row.new.run in
    let i = c.loop-index.index in
    let places = c.args.places.now in
    let same = c.loop-index.invariant.same in
    let below = inside first places i (LiesIn nodes v) c.requires.lie c.loop-index-test.true in
    let under = inside_too now first i same below in
    let put = c.in_ok-put_row.ensures in
    let old = c.args.run.now.text.whole in
    record {
      same = packages_on new.table now first c.put_row.ensures.kept same;
      ready = put.ready;
      put = λ admits by.
          subst (λ l. PutsUpTo format admits nodes v candidates (take (i + 1) first) l old new.text.whole)
          (sym c.in_ok-later.ensures.later)
          (row_put format admits nodes v candidates first i no_package below (get_or places i None) c.loop-index.later
          old c.loop-index.run.text.whole c.separate.new.pieces.whole new.text.whole
          (c.loop-index.invariant.put admits by) (at_zip (LiesIn nodes v) first places i no_package None c.requires.lie below)
          c.in_ok-later.ensures.whole
          (puts_same format returns nodes candidates (get_or now i no_package) (get_or first i no_package)
          (at_zip SamePackage now first i no_package no_package same under) admits v c.separate.new.pieces.whole
          new.text.whole (put.put admits no_package by)));
      tests =
          tests_more nodes v candidates first now new.table i no_package same below c.loop-index.invariant.tests
          (c.put_row.ensures.tests no_package);
    }

pub returns-clause-put : goal.returns-clause-put
returns-clause-put g c = λ admits by.
    let format = format_in c.args.asked.now in
    let nodes = nodes_in c.args.asked.now in
    let v = valuation_in c.args.asked.now in
    let candidates = candidates_in c.args.asked.now in
    let first = c.args.run.now.table in
    let old = c.args.run.now.text.whole in
    let new = c.loop-index.run.text.whole in
    let long = zip_long (LiesIn nodes v) first c.args.places.now c.requires.lie in
    let past = c.loop-index-test.false in
    all_put format admits nodes v candidates first c.loop-index.later old new
    (subst (λ t. PutsUpTo format admits nodes v candidates t c.loop-index.later old new)
    (take_all c.loop-index.index first (omega (arith, long, past))) (c.loop-index.invariant.put admits by))

pub returns-clause-tests : goal.returns-clause-tests
returns-clause-tests g c =
    tests_front (nodes_in c.args.asked.now) (valuation_in c.args.asked.now) (candidates_in c.args.asked.now) c.args.run.now.table
    c.loop-index.run.table c.loop-index.index c.loop-index.invariant.tests
