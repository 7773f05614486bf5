use Rattle.std.proofs.Common.{rules}
use Rattle.pep508_url.specs.UrlFaults.{url_error_text}
use Rattle.pep508_error.specs.Errors.{error_text}
use Rattle.reqs_io_faults.specs.FaultText.{input_words, requirement_front}
use Rattle.reqs_io_faults.proofs.Texts.{written_behind}
use Rattle.reqs_io_faults.proofs.display.write_requirement.Goals as goal

pub returns : goal.returns
returns g c =
    written_behind _ _ _ _ c.write_front.result _ (requirement_front (input_words c.args.input) c.args.number c.args.error.now)
    (error_text url_error_text c.args.error.now) c.write_front.ensures (search rules) c.write.ensures.writes
