use Rattle.std.proofs.Common.{◌≡◌, ◌∙◌, ◌++◌, ◌∷◌, [], List, length, sym, ap, subst, append-nil, append_assoc, arith}
use Rattle.std.proofs.Common.{rules}
use Rattle.std.proofs.lemmas.List.{nil_from_length}
use Rattle.std.specs.List.{AllZip}
use Rattle.std.specs.Vec.Iter.{into_iter_items}
use Rattle.pep508_tree.proofs.Conjoining.{extends_on, tree_kept}
use Rattle.reqtable_requirements.specs.Asks.{AreOfNodes}
use Rattle.reqtable_requirements.specs.declared.requirements.Line.{Line}
use Rattle.reqtable_assumption.specs.Restricted.{IsRestricted}
use Rattle.reqtable_assumption.proofs.Standing.{marker_at, restricted_more}
use Rattle.reqtable_assumption.proofs.assuming.restricted_lines.Goals as goal

pub restricted-requires-clause-line : goal.restricted-requires-clause-line
restricted-requires-clause-line c =
    let old = c.args.interner.now.nodes in
    let done = c.loop-line.yielded in
    let line = c.in-Some.line in
    let rest = into_iter_items c.next.new.self in
    let taken : into_iter_items c.loop-line.line-iterator ≡ line ∷ rest = search rules in
    let whole : done ++ line ∷ rest ≡ c.args.lines.items =
    ap (λ rest. done ++ rest) (sym taken) ∙ c.loop-line.invariant.split in
    tree_kept old c.loop-line.interner.nodes c.loop-line.invariant.keeps line.requirement.marker
    (marker_at old done line rest (subst (AreOfNodes old) (sym whole) c.requires.lines))

pub restricted-requires-clause-tree : goal.restricted-requires-clause-tree
restricted-requires-clause-tree c =
    tree_kept c.args.interner.now.nodes c.loop-line.interner.nodes c.loop-line.invariant.keeps c.args.condition
    c.requires.tree

pub loop-line-preserved : goal.loop-line-preserved
loop-line-preserved c =
    let done = c.loop-line.yielded in
    let line = c.in-Some.line in
    let old = c.args.interner.now.nodes in
    let now = c.loop-line.interner.nodes in
    let new = c.restricted.new.interner.nodes in
    let condition = c.args.condition in
    let rest = into_iter_items c.next.new.self in
    let taken : into_iter_items c.loop-line.line-iterator ≡ line ∷ rest = search rules in
    let split : (done ++ line ∷ []) ++ rest ≡ c.args.lines.items =
    append_assoc done (line ∷ []) rest ∙ ap (λ rest. done ++ rest) (sym taken) ∙ c.loop-line.invariant.split in
    let whole : done ++ line ∷ rest ≡ c.args.lines.items =
    ap (λ rest. done ++ rest) (sym taken) ∙ c.loop-line.invariant.split in
    let marker = marker_at old done line rest (subst (AreOfNodes old) (sym whole) c.requires.lines) in
    let P : List Line → Type 0 = λ lines. AllZip (IsRestricted old new condition) lines (done ++ line ∷ []) in
    record {
      split = split;
      counted = omega (arith, c.loop-line.invariant.counted, c.in-Some.ensures.steps.1, ap length taken);
      keeps = extends_on old now new c.loop-line.invariant.keeps c.in_ok-restricted.ensures.keeps;
      made =
          subst P (sym c.in_ok-push.ensures.items)
          (restricted_more old now new condition c.loop-line.invariant.keeps c.in_ok-restricted.ensures.keeps c.requires.tree
          c.loop-line.made.items done c.in_ok-restricted.restricted line c.loop-line.invariant.made marker
          c.in_ok-restricted.ensures.made);
    }

pub returns-clause-each : goal.returns-clause-each
returns-clause-each c =
    let done = c.loop-line.yielded in
    let left = into_iter_items c.loop-line.line-iterator in
    let none : left ≡ [] =
    nil_from_length left (omega (arith, c.loop-line.invariant.counted, c.in-None.ensures.steps.0)) in
    let all : done ≡ c.args.lines.items =
    sym (append-nil done) ∙ ap (λ rest. done ++ rest) (sym none) ∙ c.loop-line.invariant.split in
    let P : List Line → Type 0 =
    AllZip (IsRestricted c.args.interner.now.nodes c.loop-line.interner.nodes c.args.condition) c.loop-line.made.items in
    subst P all c.loop-line.invariant.made
