use Rattle.std.proofs.Common.{inr, refl}
use Rattle.pep440_version.specs.ErrorPrints.{version_error_text}
use Rattle.reqs_c_reply.specs.Endings.{NoAnswer}
use Rattle.reqs_c_reply.proofs.Ends.{refused_with}
use Rattle.reqs_c_versions.specs.Versions.{RefusesVersion}
use Rattle.reqs_c_versions.proofs.VersionTexts.{no_version}
use Rattle.reqs_c_versions.proofs.version_answers.no_version.Goals as goal

pub returns-in_default : goal.returns-in_default
returns-in_default c =
    let bytes = c.args.bytes.now in
    let error = c.args.error.now in
    refused_with NoAnswer (RefusesVersion c.args.input bytes) _ c.to_string.result _ (version_error_text error)
    c.refused.ensures c.to_string.ensures.ok
    (rw c.span.ensures (inr (no_version c.args.input bytes bytes error c.requires.is_text refl c.in_default.not-Memory c.requires.tells)))
