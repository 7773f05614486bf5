use Rattle.std.proofs.Common.{◌≡◌, ◌∙◌, ◌%◌, ◌<◌, inl, inr, nat_cmp, Less, Equal, Greater, refl, sym, ap, arith}
use Rattle.std.specs.Cmp.{nat_cmp_is}
use Rattle.reqtable_candidates.proofs.Fronts.{front_decides}
use Rattle.reqtable_streaming.proofs.fronts.compare.Goals as goal

pub returns-then-a-b : goal.returns-then-a-b
returns-then-a-b c =
    let a = c.args.a.now in
    let b = c.args.b.now in
    sym (front_decides a.name.now b.name.now Less a.has_bytes b.has_bytes
    (sym (λ i. nat_cmp (a.is_front i) (b.is_front i)) ∙ sym (nat_cmp_is a.front b.front Less c.if-a-b.true)) (inl refl))

pub returns-then-a-b-2 : goal.returns-then-a-b-2
returns-then-a-b-2 c =
    let a = c.args.a.now in
    let b = c.args.b.now in
    let above : b.front < a.front = omega (arith, c.if-a-b-2.true) in
    sym (front_decides a.name.now b.name.now Greater a.has_bytes b.has_bytes
    (sym (λ i. nat_cmp (a.is_front i) (b.is_front i)) ∙ sym (nat_cmp_is a.front b.front Greater above)) (inl refl))

pub returns-then-a-eq0 : goal.returns-then-a-eq0
returns-then-a-eq0 c =
    let a = c.args.a.now in
    let b = c.args.b.now in
    let same : a.front ≡ b.front = omega (arith, c.if-a-b.false, c.if-a-b-2.false) in
    sym (front_decides a.name.now b.name.now Equal a.has_bytes b.has_bytes
    (sym (λ i. nat_cmp (a.is_front i) (b.is_front i)) ∙ sym (nat_cmp_is a.front b.front Equal same))
    (inr (ap (λ n. n % 256) (sym a.is_front) ∙ c.if-a-eq0.true)))
