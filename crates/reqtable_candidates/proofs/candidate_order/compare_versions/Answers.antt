use Rattle.std.proofs.Common.{◌∙◌, nat_cmp, sym}
use Rattle.reqtable_candidates.proofs.Heads.{head_decides}
use Rattle.reqtable_candidates.proofs.candidate_order.compare_versions.Goals as goal

pub returns-then-is_ne : goal.returns-then-is_ne
returns-then-is_ne c =
    let a = c.args.a.now in
    let b = c.args.b.now in
    let head = c.cmp-head.ensures ∙ (λ i. nat_cmp (a.is_head i) (b.is_head i)) in
    sym (head_decides a.placed.candidate.now.version b.placed.candidate.now.version c.cmp-head.result
    (sym head) (sym c.is_ne.ensures ∙ c.if-is_ne.true))
