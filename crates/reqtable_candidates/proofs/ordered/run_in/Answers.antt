use Rattle.std.proofs.Common.{◌∙◌, is_lt, is_le, map, ap, rules}
use Rattle.std.proofs.lemmas.Fn.{always_returns_same}
use Rattle.reqtable_candidates.specs.Ordered.{placed_seen}
use Rattle.reqtable_candidates.proofs.Runs.{name_against, run_found}
use Rattle.reqtable_candidates.proofs.ordered.run_in.Goals as goal

pub returns : goal.returns
returns c =
    let name = c.args.name.now in
    ap (map placed_seen) c.split_at-2.ensures.front
    ∙ run_found name c.args.placed.now c.split_at.result.1.now c.partition_point-start.result c.partition_point-length.result
    c.requires c.split_at.ensures.back c.partition_point-start.ensures.bound c.partition_point-length.ensures.bound
    (c.partition_point-start.ensures.partitioned (λ x. is_lt (name_against name x)) (always_returns_same _ _ _ (λ a r f k. search rules)))
    (c.partition_point-length.ensures.partitioned (λ x. is_le (name_against name x)) (always_returns_same _ _ _ (λ a r f k. search rules)))
