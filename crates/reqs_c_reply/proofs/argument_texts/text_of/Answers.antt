use Rattle.std.proofs.lemmas.Str.{is_utf8-from_IsUtf8}
use Rattle.reqs_c_reply.proofs.Ends.{is_utf8-false}
use Rattle.reqs_c_reply.proofs.argument_texts.text_of.Goals as goal

pub not_text-requires-clause-no_text : goal.not_text-requires-clause-no_text
not_text-requires-clause-no_text c = is_utf8-false _ c.in-Err.ensures.cases.0

pub returns-in-Ok-clause-is_text : goal.returns-in-Ok-clause-is_text
returns-in-Ok-clause-is_text c = is_utf8-from_IsUtf8 _ c.in-Ok.ensures.cases.1
