use Rattle.std.proofs.Common.{sym}
use Rattle.pep508_reading_back.specs.Lines.{IsPieceOf}
use Rattle.pep508_reading_back.proofs.Told.{marked_told, diagram_told, pieces_told}
use Rattle.pep508_reading_back.proofs.laws.a_read_marker_asks_what_texts_say.Goals as goal

pub returns : goal.returns
returns c = λ text front marker d utf8 is canonical short says.
    pieces_told text d
    (diagram_told (IsPieceOf text) marker.formula d canonical short (λ v. sym (says v))
    (marked_told text utf8 front marker is))
