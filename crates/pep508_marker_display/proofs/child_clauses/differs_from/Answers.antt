use Rattle.std.proofs.Common.{rules, true, false}
use Rattle.std.specs.Range.Bound.{bound_map}
use Rattle.pep508_clauses.specs.Terms.{clause_of}
use Rattle.pep508_marker_display.specs.Spans.{spans, differs_from}
use Rattle.pep508_marker_display.proofs.Adding.{differs_more, pushed}
use Rattle.pep508_marker_display.proofs.child_clauses.differs_from.Goals as goal

pub loop-lower-preserved : goal.loop-lower-preserved
loop-lower-preserved g c =
    let say = g.S.Says.saying c.args.says.now in
    differs_more say (clause_of c.loop-lower.terms.items) (clause_of c.push.new.self.items)
    (spans c.args.tree true false c.loop-lower.left.now) (spans c.args.tree true false c.in-Some.rest.now)
    (bound_map (λ v. v.now) c.in-Some.lower, bound_map (λ v. v.now) c.in-Some.upper) c.in-Some-value_between.value.now
    (differs_from say (spans c.args.tree true false c.args.later.now)) c.loop-lower.invariant (search rules)
    (search rules)
    (pushed c.loop-lower.terms.items c.push.new.self.items c.in_ok-term.term (say.differs c.in-Some-value_between.value.now)
    c.in_ok-push.ensures.items c.in_ok-term.ensures)
