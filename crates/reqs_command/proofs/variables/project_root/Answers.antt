use Rattle.std.proofs.Common.{◌∙◌, ℕ, List, Bor, [], sym}
use Rattle.reqs_command.proofs.Roots.{found, passed, none_left}
use Rattle.reqs_command.proofs.variables.project_root.Goals as goal

pub returns-then-is_root-clause-root : goal.returns-then-is_root-clause-root
returns-then-is_root-clause-root c =
    let e : Bor (List ℕ) = record { ref_ptr = (0, 0); now = [] } in
    found (λ pair. (pair.0.now, pair.1.now)) c.args.pairs.now c.loop-name.name-index (e, e) c.loop-name-test.true
    (sym c.is_root.ensures ∙ c.if-is_root.true) c.loop-name.invariant

pub loop-name-preserved : goal.loop-name-preserved
loop-name-preserved c =
    let e : Bor (List ℕ) = record { ref_ptr = (0, 0); now = [] } in
    passed (λ pair. (pair.0.now, pair.1.now)) c.args.pairs.now c.loop-name.name-index (e, e) c.loop-name-test.true
    (sym c.is_root.ensures ∙ c.if-is_root.false) c.loop-name.invariant

pub returns-clause-root : goal.returns-clause-root
returns-clause-root c =
    none_left (λ pair. (pair.0.now, pair.1.now)) c.args.pairs.now c.loop-name.name-index c.loop-name-test.false c.loop-name.invariant
