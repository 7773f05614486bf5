use Rattle.std.proofs.Common.{◌≤◌, ◌+◌, ◌*◌, ℕ, length, map, arith, subst}
use Rattle.std.proofs.Math.Nat.{mul-le-mul_left}
use Rattle.std.specs.List.{list_any}
use Rattle.std.specs.Str.{bytes_eq}
use Rattle.reqtable_requirements.specs.Copies.{IsLineCopy, lines_among}
use Rattle.reqtable_packages.specs.Packages.{said_among}
use Rattle.reqtable_packages.proofs.Among.{stands_among, trees_among, fewer_kept}
use Rattle.reqtable_packages.proofs.Copied.{trees_copied, said_copied}
use Rattle.reqtable_packages.proofs.Standing.{zip_long}
use Rattle.reqtable_packages.proofs.packages.packages_table_within.Goals as goal

pub build_within-requires : goal.build_within-requires
build_within-requires c =
    let nodes = c.args.interner.now.nodes in
    let names = map (λ name. name.now) c.args.names.now in
    record {
      trees = trees_copied nodes c.in_ok-copy.copy (lines_among names c.args.requirements.now) c.in_ok-copy.ensures
          (trees_among nodes names c.args.requirements.now c.requires.trees);
    }

pub returns-clause-built : goal.returns-clause-built
returns-clause-built c vars said h =
    let nodes = c.args.interner.now.nodes in
    let names = map (λ name. name.now) c.args.names.now in
    c.build_within.ensures.built vars (said_among names said)
    (said_copied vars nodes c.in_ok-copy.copy (lines_among names c.args.requirements.now) (said_among names said)
    c.in_ok-copy.ensures (stands_among vars nodes names c.args.requirements.now said h))

pub returns-clause-counts : goal.returns-clause-counts
returns-clause-counts c =
    let names = map (λ name. name.now) c.args.names.now in
    let lines = c.args.requirements.now in
    let some = lines_among names lines in
    let counted : c.build_within.new.interner.conjunctions
    ≤ c.args.interner.now.conjunctions + 2 * (c.args.limit * length some) =
    subst (λ (n : ℕ). c.build_within.new.interner.conjunctions ≤ c.args.interner.now.conjunctions + 2 * (c.args.limit * n))
    (zip_long IsLineCopy c.in_ok-copy.copy some c.in_ok-copy.ensures) c.build_within.ensures.counts in
    let fewer : c.args.limit * length some ≤ c.args.limit * length lines =
    mul-le-mul_left c.args.limit (fewer_kept (λ line. list_any (bytes_eq line.requirement.name) names) lines) in
    omega (arith, counted, fewer)
