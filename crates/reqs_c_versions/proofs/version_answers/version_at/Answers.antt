use Rattle.reqs_c_versions.proofs.VersionTexts.{in_text}
use Rattle.reqs_c_versions.proofs.version_answers.version_at.Goals as goal

pub returns-in-Ok-clause-version : goal.returns-in-Ok-clause-version
returns-in-Ok-clause-version c =
    in_text c.args.bytes.now _ c.in-Ok.version c.in_ok-text.ensures.is_text c.in_ok-text.ensures.text
    c.in-Ok.ensures.answered
