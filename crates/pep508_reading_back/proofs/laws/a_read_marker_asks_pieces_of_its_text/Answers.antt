use Rattle.std.proofs.Common.{sym}
use Rattle.pep508_reading_back.specs.Lines.{IsPieceOf}
use Rattle.pep508_reading_back.proofs.Told.{marked_told, diagram_told}
use Rattle.pep508_reading_back.proofs.laws.a_read_marker_asks_pieces_of_its_text.Goals as goal

pub returns : goal.returns
returns c = λ text front marker d utf8 is canonical short says.
    diagram_told (IsPieceOf text) marker.formula d canonical short (λ v. sym (says v))
    (marked_told text utf8 front marker is)
