use Rattle.std.proofs.Common.{refl}
use Rattle.pep440_version.specs.Print.{version_text}
use Rattle.reqs_c_reply.proofs.Ends.{answered_with}
use Rattle.reqs_c_versions.specs.Versions.{IsNormalText, RefusesVersion}
use Rattle.reqs_c_versions.proofs.version_answers.normal_text.Goals as goal

pub returns-in-Ok : goal.returns-in-Ok
returns-in-Ok c =
    let bytes = c.args.bytes.now in
    let version = c.in-Ok.version in
    answered_with (IsNormalText bytes) (RefusesVersion 1 bytes) c.to_string.result _ (version_text version)
    c.answered.ensures c.to_string.ensures.ok (record {
      version = version;
      is_version = c.in-Ok.ensures.version;
      is_text = refl;
    })
