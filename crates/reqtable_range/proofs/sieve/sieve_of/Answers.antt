use Rattle.std.proofs.Common.{◌∙◌, map}
use Rattle.version_ranges.specs.Point.{At}
use Rattle.version_ranges.specs.Held.{holds_at}
use Rattle.pep440_version.specs.Record.{without_local}
use Rattle.pep440_version.specs.Order.{version_cmp}
use Rattle.pep440_specifier_list.specs.Lists.{matches_all}
use Rattle.reqtable_range.specs.Together.{lent}
use Rattle.reqtable_range.proofs.Sieving.{together}
use Rattle.reqtable_range.proofs.sieve.sieve_of.Goals as goal

pub returns : goal.returns
returns c =
    let one = c.in_ok-one.one in
    let single = lent one.single.items in
    record {
      single = single;
      are_single = c.in_ok-one.ensures.are_single;
      take = λ version said.
          c.simple_range_tells_what_all_take.ensures (map (λ list. list.now) c.args.lists.now) one version
          c.in_ok-one.ensures said
          ∙ together (holds_at version_cmp one.simple (At (without_local version)))
          (holds_at version_cmp one.local (At version)) (matches_all single version);
    }
