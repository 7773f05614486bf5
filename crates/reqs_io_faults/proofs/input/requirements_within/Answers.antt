use Rattle.std.proofs.Common.{ℕ, List, Err, subst}
use Rattle.reqtable_requirements.specs.Within.{ReadsWithin}
use Rattle.reqs_io_faults.proofs.Unbounded.{lines_refused}
use Rattle.reqs_io_faults.proofs.input.requirements_within.Goals as goal

pub returns-in-Err-clause-lines : goal.returns-in-Err-clause-lines
returns-in-Err-clause-lines c =
    let vars = c.args.vars.now in
    let nodes = c.parse_within-read.new.interner.nodes in
    let P : List ℕ → Type 0 = λ bytes. ReadsWithin vars c.args.most nodes bytes (Err c.in-Err.stopped) in
    rw c.of_requirements.ensures
    (lines_refused vars c.args.input c.args.most nodes c.args.bytes.now.items c.in-Err.stopped
    (subst P c.deref.ensures.value c.in-Err.ensures.answered))
