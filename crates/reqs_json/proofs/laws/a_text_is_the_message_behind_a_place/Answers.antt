use Rattle.reqs_json.proofs.Said.{behind_place}
use Rattle.reqs_json.proofs.laws.a_text_is_the_message_behind_a_place.Goals as goal

pub returns : goal.returns
returns c = behind_place
