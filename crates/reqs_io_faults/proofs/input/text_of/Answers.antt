use Rattle.std.proofs.Common.{◌∙◌, ap}
use Rattle.std.proofs.lemmas.Str.{is_utf8-from_IsUtf8}
use Rattle.reqs_io_faults.specs.declared.fault.RunFault.TheVariants.{NotText}
use Rattle.reqs_io_faults.proofs.Texts.{is_utf8-false}
use Rattle.reqs_io_faults.proofs.input.text_of.Goals as goal

pub returns-in-Ok : goal.returns-in-Ok
returns-in-Ok c = record {
  text = (c.in-Ok.ensures.cases.0, is_utf8-from_IsUtf8 _ c.in-Ok.ensures.cases.1);
  fault = tt;
}

pub returns-in-Err : goal.returns-in-Err
returns-in-Err c = record {
  text = tt;
  fault = (ap (NotText c.args.input) (c.valid_up_to.ensures ∙ c.in-Err.ensures.valid_len), is_utf8-false _ c.in-Err.ensures.cases.0);
}
