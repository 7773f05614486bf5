use Rattle.std.proofs.Common.{◌≡◌, ◌∙◌, ℕ, [], ◌∷◌, ◌++◌, length, reverse, ap, sym, arith, rules, true≢false}
use Rattle.std.proofs.lemmas.List.{length-map}
use Rattle.std.specs.List.{filter}
use Rattle.pep508_marker.specs.Expression.{expression_of}
use Rattle.pep508_clauses.specs.Terms.{clause_of, clauses_shown}
use Rattle.pep508_marker_text_laws.specs.Clauses.{clauses_of}
use Rattle.pep508_marker_text_laws.specs.Simplified.{has_some}
use Rattle.pep508_tree.specs.Meaning.{diagram_of}
use Rattle.pep508_marker_display.specs.Steps.{StepRecord, step_of, steps_shown}
use Rattle.pep508_marker_display.specs.Pending.{all_at, waits_shown}
use Rattle.pep508_marker_display.proofs.Walking.{last_shown, walk_begins, next_made, walk_told, work_told}
use Rattle.pep508_marker_display.proofs.Walking.{walk_on, work_on}
use Rattle.pep508_marker_display.proofs.clause_walk.clauses_of.Goals as goal

pub loop-next-init : goal.loop-next-init
loop-next-init c =
    walk_begins c.args.interner.now.nodes c.args.tree (clause_of c.new-path.result.items)
    (waits_shown c.in_ok-waiting.waiting.items) (clauses_shown c.new-clauses.result.items) c.requires
    (search rules) (search rules) (search rules)

pub loop-next-smaller-in-Continue-branch-3 : goal.loop-next-smaller-in-Continue-branch-3
loop-next-smaller-in-Continue-branch-3 c =
    let nodes = c.args.interner.now.nodes in
    let whole = filter has_some (clauses_of (diagram_of nodes c.args.tree)) in
    let path = clause_of c.loop-next.path.items in
    let waiting = waits_shown c.loop-next.waiting.items in
    let rest = waits_shown c.pop.new.self.items in
    let next : ℕ × StepRecord = (c.in-Some.next.depth, step_of c.in-Some.next.step) in
    let found = clauses_shown c.loop-next.clauses.items in
    let taken : waiting ≡ rest ++ next ∷ [] =
    last_shown c.loop-next.waiting.items c.pop.new.self.items c.in-Some.next c.in-Some.ensures.items in
    let on = clause_of c.go_on.new.path.items in
    work_told nodes whole path waiting rest next found c.loop-next.invariant taken on c.in_ok-go_on.ensures

pub loop-next-preserved-in-Continue-branch-3 : goal.loop-next-preserved-in-Continue-branch-3
loop-next-preserved-in-Continue-branch-3 c =
    let nodes = c.args.interner.now.nodes in
    let whole = filter has_some (clauses_of (diagram_of nodes c.args.tree)) in
    let path = clause_of c.loop-next.path.items in
    let waiting = waits_shown c.loop-next.waiting.items in
    let rest = waits_shown c.pop.new.self.items in
    let next : ℕ × StepRecord = (c.in-Some.next.depth, step_of c.in-Some.next.step) in
    let found = clauses_shown c.loop-next.clauses.items in
    let taken : waiting ≡ rest ++ next ∷ [] =
    last_shown c.loop-next.waiting.items c.pop.new.self.items c.in-Some.next c.in-Some.ensures.items in
    let on = clause_of c.go_on.new.path.items in
    walk_told nodes whole path waiting rest next found c.loop-next.invariant taken on c.in_ok-go_on.ensures
    (clauses_shown c.add_clause.new.clauses.items) (c.is_true.ensures.0 c.if-is_true.true)
    (c.in_ok-add_clause.ensures
    ∙ ap (λ terms. found ++ filter has_some (clause_of terms ∷ [])) c.deref.ensures.value)

pub root_steps-requires : goal.root_steps-requires
root_steps-requires c =
    let nodes = c.args.interner.now.nodes in
    let whole = filter has_some (clauses_of (diagram_of nodes c.args.tree)) in
    let path = clause_of c.loop-next.path.items in
    let waiting = waits_shown c.loop-next.waiting.items in
    let rest = waits_shown c.pop.new.self.items in
    let next : ℕ × StepRecord = (c.in-Some.next.depth, step_of c.in-Some.next.step) in
    let found = clauses_shown c.loop-next.clauses.items in
    let taken : waiting ≡ rest ++ next ∷ [] =
    last_shown c.loop-next.waiting.items c.pop.new.self.items c.in-Some.next c.in-Some.ensures.items in
    let on = clause_of c.go_on.new.path.items in
    next_made nodes whole path waiting rest next found c.loop-next.invariant taken on c.in_ok-go_on.ensures

pub loop-next-smaller : goal.loop-next-smaller
loop-next-smaller c =
    let nodes = c.args.interner.now.nodes in
    let whole = filter has_some (clauses_of (diagram_of nodes c.args.tree)) in
    let path = clause_of c.loop-next.path.items in
    let waiting = waits_shown c.loop-next.waiting.items in
    let rest = waits_shown c.pop.new.self.items in
    let next : ℕ × StepRecord = (c.in-Some.next.depth, step_of c.in-Some.next.step) in
    let found = clauses_shown c.loop-next.clauses.items in
    let taken : waiting ≡ rest ++ next ∷ [] =
    last_shown c.loop-next.waiting.items c.pop.new.self.items c.in-Some.next c.in-Some.ensures.items in
    let on = clause_of c.go_on.new.path.items in
    let long : c.len.result ≡ length on =
    omega (arith, c.len.ensures, c.go_on.new.path.ok, length-map c.go_on.new.path.items expression_of) in
    let put : waits_shown c.add_steps.new.waiting.items
    ≡ rest ++ all_at (length on) (reverse (steps_shown c.in_ok-steps.steps.items)) =
    c.in_ok-add_steps.ensures
    ∙ ap (λ n. rest ++ all_at n (reverse (steps_shown c.in_ok-steps.steps.items)))
    long in
    work_on nodes whole path waiting rest next found c.loop-next.invariant taken on c.in_ok-go_on.ensures
    c.are_sound.ensures (steps_shown c.in_ok-steps.steps.items) c.in_ok-steps.ensures
    (waits_shown c.add_steps.new.waiting.items) put

pub loop-next-preserved : goal.loop-next-preserved
loop-next-preserved c =
    let nodes = c.args.interner.now.nodes in
    let whole = filter has_some (clauses_of (diagram_of nodes c.args.tree)) in
    let path = clause_of c.loop-next.path.items in
    let waiting = waits_shown c.loop-next.waiting.items in
    let rest = waits_shown c.pop.new.self.items in
    let next : ℕ × StepRecord = (c.in-Some.next.depth, step_of c.in-Some.next.step) in
    let found = clauses_shown c.loop-next.clauses.items in
    let taken : waiting ≡ rest ++ next ∷ [] =
    last_shown c.loop-next.waiting.items c.pop.new.self.items c.in-Some.next c.in-Some.ensures.items in
    let on = clause_of c.go_on.new.path.items in
    let long : c.len.result ≡ length on =
    omega (arith, c.len.ensures, c.go_on.new.path.ok, length-map c.go_on.new.path.items expression_of) in
    let put : waits_shown c.add_steps.new.waiting.items
    ≡ rest ++ all_at (length on) (reverse (steps_shown c.in_ok-steps.steps.items)) =
    c.in_ok-add_steps.ensures
    ∙ ap (λ n. rest ++ all_at n (reverse (steps_shown c.in_ok-steps.steps.items)))
    long in
    walk_on nodes whole path waiting rest next found c.loop-next.invariant taken on c.in_ok-go_on.ensures
    c.are_sound.ensures (steps_shown c.in_ok-steps.steps.items) c.in_ok-steps.ensures
    (waits_shown c.add_steps.new.waiting.items) put
    (λ e. true≢false (sym (c.is_true.ensures.1 e) ∙ c.if-is_true.false))
