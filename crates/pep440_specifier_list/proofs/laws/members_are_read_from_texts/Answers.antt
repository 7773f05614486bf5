use Rattle.pep440_specifier_list.proofs.Members.{members_read}
use Rattle.pep440_specifier_list.proofs.laws.members_are_read_from_texts.Goals as goal

pub returns : goal.returns
returns c = members_read
