use Rattle.std.proofs.Common.{[], sym, append-nil}
use Rattle.reqs_answers.proofs.frames.put_foot.Goals as goal

pub returns-in-Text-clause-grow : goal.returns-in-Text-clause-grow
returns-in-Text-clause-grow c = ([], sym (append-nil c.args.text.now.texts))
