use Rattle.std.proofs.Common.{sym}
use Rattle.reqs_c_versions.proofs.VersionTexts.{no_text, same_version}
use Rattle.reqs_c_versions.proofs.version_answers.read_version.Goals as goal

pub returns-in-Ok : goal.returns-in-Ok
returns-in-Ok c = rw (same_version _ _ c.in-Ok.ensures.cases.1 c.in-Ok.ensures.cases.0) c.version_of_text.ensures

pub returns-in-Err : goal.returns-in-Err
returns-in-Err c = sym (no_text _ c.in-Err.ensures.cases.0)
