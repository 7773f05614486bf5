use Rattle.pep440_key.proofs.NumberOrder.{number_ordered}
use Rattle.pep440_key.proofs.KeyOrder.{component_ordered}
use Rattle.pep440_key.proofs.laws.numbers_and_texts_compare.Goals as goal

pub returns : goal.returns
returns c = record { numbers = number_ordered; texts = component_ordered }
