use Rattle.std.proofs.Common.{Some, map, length, take, eqb, lit<, arith, rules, sym, ap, ◌∙◌}
use Rattle.std.specs.List.{slice_split}
use Rattle.std.proofs.lemmas.Iterator.Consumers.{YieldsList-turn, YieldsList-end}
use Rattle.std.proofs.lemmas.Iterator.Splits.{YieldsList-from_str_split}
use Rattle.std.proofs.lemmas.List.{length_push, take_all}
use Rattle.pep508_url.specs.Paths.{normal_parts}
use Rattle.pep508_url.proofs.PathParts.{part_read, none_left, part_nothing, part_parent, part_kept, popped}
use Rattle.pep508_url.proofs.PathParts.{no_parts, pushed}
use Rattle.pep508_url.proofs.path.kept_parts.Goals as goal

pub loop-part-init : goal.loop-part-init
unfolding normal_parts
loop-part-init c = ap (λ parts. Some (map (λ part. part.now) parts)) (sym c.new-kept.ensures.items)

pub loop-part-preserved-then-changes_nothing : goal.loop-part-preserved-then-changes_nothing
loop-part-preserved-then-changes_nothing c =
    let parts = slice_split (λ b. eqb b 47) c.args.path.now in
    let all = YieldsList-from_str_split {s = c.into_iter-part-iterator.result} 47 c.args.path.now (lit< tt) (cc) (cc) (cc) in
    let at = YieldsList-turn all c.loop-part.yielded _ c.loop-part.yielded_by _ _ c.in-Some.part c.in-Some.is c.next.ensures.steps in
    let read = part_read parts (length c.loop-part.yielded) _ c.in-Some.part.now c.loop-part.invariant at in
    ap (λ n. normal_parts (take n parts)) (length_push c.loop-part.yielded c.in-Some.part) ∙ read
    ∙ part_nothing _ c.in-Some.part.now (sym c.if-changes_nothing.ensures)

pub loop-part-preserved-in-Some-pop : goal.loop-part-preserved-in-Some-pop
loop-part-preserved-in-Some-pop c =
    let parts = slice_split (λ b. eqb b 47) c.args.path.now in
    let all = YieldsList-from_str_split {s = c.into_iter-part-iterator.result} 47 c.args.path.now (lit< tt) (cc) (cc) (cc) in
    let at = YieldsList-turn all c.loop-part.yielded _ c.loop-part.yielded_by _ _ c.in-Some.part c.in-Some.is c.next.ensures.steps in
    let read = part_read parts (length c.loop-part.yielded) _ c.in-Some.part.now c.loop-part.invariant at in
    ap (λ n. normal_parts (take n parts)) (length_push c.loop-part.yielded c.in-Some.part) ∙ read
    ∙ part_parent _ c.in-Some.part.now (sym c.if-changes_nothing.ensures) (sym c.if-eq.ensures)
    ∙ popped c.loop-part.kept.items c.pop.new.self.items _ c.in-Some-pop.ensures.items

pub returns-in_default : goal.returns-in_default
returns-in_default c =
    let parts = slice_split (λ b. eqb b 47) c.args.path.now in
    let all = YieldsList-from_str_split {s = c.into_iter-part-iterator.result} 47 c.args.path.now (lit< tt) (cc) (cc) (cc) in
    let at = YieldsList-turn all c.loop-part.yielded _ c.loop-part.yielded_by _ _ c.in-Some.part c.in-Some.is c.next.ensures.steps in
    sym (none_left parts (length c.loop-part.yielded) _ c.in-Some.part.now c.loop-part.invariant at
    (part_parent _ c.in-Some.part.now (sym c.if-changes_nothing.ensures) (sym c.if-eq.ensures)
    ∙ no_parts c.loop-part.kept.items (first_of (omega arith, omega (arith, c.in_default.ensures.cases.0), search (rules, c.in_default.ensures.cases.0)))))

pub loop-part-preserved : goal.loop-part-preserved
loop-part-preserved c =
    let parts = slice_split (λ b. eqb b 47) c.args.path.now in
    let all = YieldsList-from_str_split {s = c.into_iter-part-iterator.result} 47 c.args.path.now (lit< tt) (cc) (cc) (cc) in
    let at = YieldsList-turn all c.loop-part.yielded _ c.loop-part.yielded_by _ _ c.in-Some.part c.in-Some.is c.next.ensures.steps in
    let read = part_read parts (length c.loop-part.yielded) _ c.in-Some.part.now c.loop-part.invariant at in
    ap (λ n. normal_parts (take n parts)) (length_push c.loop-part.yielded c.in-Some.part) ∙ read
    ∙ part_kept _ c.in-Some.part.now (sym c.if-changes_nothing.ensures) (sym c.if-eq.ensures)
    ∙ ap Some (pushed c.loop-part.kept.items c.in-Some.part c.push.new.self.items c.in_ok-push.ensures.items)

pub returns : goal.returns
returns c =
    let parts = slice_split (λ b. eqb b 47) c.args.path.now in
    let all = YieldsList-from_str_split {s = c.into_iter-part-iterator.result} 47 c.args.path.now (lit< tt) (cc) (cc) (cc) in
    let ended = YieldsList-end all c.loop-part.yielded _ c.loop-part.yielded_by _ _ c.in-None.is c.next.ensures.steps in
    sym c.loop-part.invariant
    ∙ ap normal_parts (take_all (length c.loop-part.yielded) parts (omega (arith, ended.1)))
