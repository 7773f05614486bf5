use Rattle.std.proofs.Common.{◌≡◌, refl, Result, Ok, Err, OnOk, String, Global}
use Rattle.std.specs.String.{string_bytes}
use Rattle.std.specs.declared.alloc.AllocError.{AllocError}
use denote.Param.Members.{Called}
use Rattle.pep508_marker.proofs.reporters.ClosureReporterReporter.report.Goals as goal

-- what holds of a call's answer holds of `Ok` where that is the answer
of_answer : (answered : Result (Unit {0}) AllocError → Type 0) (r : Result (Unit {0}) AllocError) → answered r
    → OnOk r (answered (Ok tt))
of_answer answered (Ok unit) h = h
of_answer answered (Err e) h = tt

pub returns-clause-taken : goal.returns-clause-taken
returns-clause-taken g c =
    of_answer
    (λ r. (x : String Global) × (string_bytes x ≡ string_bytes c.args.text)
    × Called g.F.FnMut c.args.self.now.closure (c.args.kind, (x, tt)) r c.closure.new.self)
    c.closure.result
    (c.args.text, refl, c.closure.ensures)
