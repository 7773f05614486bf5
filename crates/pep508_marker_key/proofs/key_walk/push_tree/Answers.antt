use Rattle.std.proofs.Common.{◌≡◌, Bool, true, false, not, ◌++◌, ◌∙◌, refl, sym, ap, subst}
use mir.Val.{bool_byte}
use Rattle.version_ranges.specs.Turns.{flips}
use Rattle.pep440_key.specs.Key.{number_bytes}
use Rattle.std.proofs.lemmas.Result.{IfOk-weaker}
use Rattle.pep508_tree.specs.Roots.{root_of}
use Rattle.pep508_marker_key.specs.Walk.{leaf_byte}
use Rattle.pep508_marker_key.specs.Left.{IsAsked}
use Rattle.pep508_marker_key.proofs.Entering.{constant_made, again_made, begun_made, rooted, unrooted, first_made}
use Rattle.pep508_marker_key.proofs.key_walk.push_tree.Goals as goal

sign_byte : (negated result : Bool) → result ≡ negated → bool_byte (not result) ≡ leaf_byte (flips negated true)
sign_byte true true e = refl
sign_byte true false e = absurd (cc)
sign_byte false true e = absurd (cc)
sign_byte false false e = refl

pub returns-in-None : goal.returns-in-None
returns-in-None c =
    let nodes = c.args.interner.now.nodes in
    constant_made nodes c.are_sound.ensures c.args.tree c.requires.made c.args.key.now.items c.push.new.self.items
    c.args.steps.now.items c.args.steps.now.items c.args.numbers.now.trees.items
    (unrooted (root_of nodes c.args.tree) c.in-None.ensures) c.from.result
    (c.from.ensures ∙ sign_byte c.args.tree.negated c.is_negated.result c.is_negated.ensures)
    c.in_ok-push-in-None.ensures.items refl

pub returns-in-Some-number_of : goal.returns-in-Some-number_of
returns-in-Some-number_of c =
    let nodes = c.args.interner.now.nodes in
    let root = rooted (root_of nodes c.args.tree) c.in-Some.first c.in-Some.ensures in
    IfOk-weaker c.push_number.result _ _
    (λ done wrote. again_made nodes c.are_sound.ensures c.args.tree c.requires.made c.args.key.now.items
    c.push_number.new.key.items c.args.steps.now.items c.args.steps.now.items c.args.numbers.now.trees.items
    root.0 root.1 c.in-Some-number_of.number (sym c.in-Some-number_of.ensures)
    (wrote ∙ ap (λ key. key ++ number_bytes c.in-Some-number_of.number) c.in_ok-push.ensures.items) refl)
    c.push_number.ensures

pub push_branch-requires-clause-low : goal.push_branch-requires-clause-low
push_branch-requires-clause-low c =
    first_made c.args.interner.now.nodes c.are_sound.ensures c.args.tree c.in-Some.first c.requires.made
    c.in-Some.ensures

pub returns : goal.returns
returns c =
    let nodes = c.args.interner.now.nodes in
    let root = rooted (root_of nodes c.args.tree) c.in-Some.first c.in-Some.ensures in
    IfOk-weaker c.push_branch.result _ _
    (λ done asked. begun_made nodes c.are_sound.ensures c.args.tree c.requires.made c.args.key.now.items
    c.push_branch.new.key.items c.args.steps.now.items c.push_branch.new.steps.items
    c.args.numbers.now.trees.items root.0 root.1 (sym c.in_default.ensures) c.push-2.new.self.items
    c.in_ok-push-2.ensures.items
    (subst (λ low. IsAsked nodes c.args.tree low 0 c.args.key.now.items c.push_branch.new.key.items
    c.push-2.new.self.items c.push_branch.new.steps.items) (sym root.2) asked))
    c.push_branch.ensures
