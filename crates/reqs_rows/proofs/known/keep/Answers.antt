use Rattle.std.proofs.Common.{◌∙◌, Some, None, inl, inr, sym, arith}
use Rattle.std.proofs.lemmas.List.{get_or-set_same}
use Rattle.reqs_rows.proofs.Places.{set_or}
use Rattle.reqs_rows.proofs.known.keep.Goals as goal

pub returns-clause-kept : goal.returns-clause-kept
returns-clause-kept c =
    get_or-set_same c.pad.new.pieces.items c.args.place (Some c.args.piece) None (omega (arith, c.in_ok-pad.ensures.within, c.pad.new.pieces.ok.0))

pub returns-clause-known : goal.returns-clause-known
returns-clause-known c = λ at found e.
    elim (set_or c.pad.new.pieces.items c.args.place at c.args.piece found e) [
      | inl both ↦ inl both
      | inr before ↦ inr (sym (c.in_ok-pad.ensures.same at) ∙ before)
    ]
