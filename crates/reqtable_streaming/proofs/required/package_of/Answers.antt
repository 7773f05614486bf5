use Rattle.reqtable_answer.proofs.ByPackage.{first_named}
use Rattle.reqtable_streaming.proofs.required.package_of.Goals as goal

pub returns-clause-name : goal.returns-clause-name
returns-clause-name c = λ q all. first_named q c.args.asks.now c.index-asks-0.result c.requires all
