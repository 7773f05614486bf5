use Rattle.std.proofs.Common.{◌∙◌, IfSome, sym, subst}
use Rattle.std.proofs.lemmas.Result.{IfOk-weaker}
use Rattle.std.specs.List.{list_all}
use Rattle.reqtable_answer.specs.Asks.{ask_takes}
use Rattle.reqtable_range.specs.Sifting.{sieve_holds}
use Rattle.reqtable_table.specs.Choosing.{case_asks}
use Rattle.reqtable_table.specs.Sieving.{HoldsTaken, Knows}
use Rattle.reqtable_table.proofs.AskedLines.{records}
use Rattle.reqtable_table.proofs.Sifted.{not_held}
use Rattle.reqtable_table.proofs.sieving.is_sifted_out.Goals as goal
use Rattle.reqtable_table.proofs.sieving.is_sifted_out.Goals.{then-asking-eq-MANY+in_ok-sieve+in-Some-1}
use Rattle.reqtable_table.proofs.sieving.is_sifted_out.Goals.{then-asking-eq-MANY+in_ok-sieve+in-None-1}
use Rattle.reqtable_table.proofs.sieving.is_sifted_out.Goals.{else-asking-eq-MANY}

pub returns-in-Some-clause-rejected : goal.returns-in-Some-clause-rejected
returns-in-Some-clause-rejected c =
    let version = c.args.version.now in
    let asks = case_asks c.args.marks.now (records c.args.lines.now) in
    let knows : Knows asks c.if-asking-eq-MANY.asking =
    elim c.if-asking-eq-MANY.branch [
      | then-asking-eq-MANY+in_ok-sieve+in-Some-1 w ↦ subst (Knows asks) (sym w.asking-is) w.in_ok-sieve.ensures
      | then-asking-eq-MANY+in_ok-sieve+in-None-1 w ↦ subst (Knows asks) (sym w.asking-is) w.in_ok-sieve.ensures
      | else-asking-eq-MANY w ↦ subst (Knows asks) (sym w.asking-is) c.requires.knows
    ] in
    let holds = subst (λ sieve. IfSome sieve (HoldsTaken asks)) c.in-Some.is knows in
    IfOk-weaker c.rejects.result _ _
    (λ rejected is t. not_held (sieve_holds c.in-Some.sieve version) (list_all (ask_takes version) asks)
    (holds version c.requires.said) (sym is ∙ t))
    c.rejects.ensures
