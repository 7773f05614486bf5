-- What a refusal tells.
use Rattle.std.proofs.Common.{◌≡◌, Err, sym, subst}
use Rattle.std.specs.Prelude.{Result}
use Rattle.pep508_error.specs.declared.refusal.RefusalKind.{RefusalKind}
use Rattle.pep508_comparison_parser.specs.SideReading.{Refused}
use Rattle.pep508_comparison_parser.specs.Outcome.{Fits, Tells}

pub refused_tells : {Y : Type 0} (kind made : RefusalKind) (refused : Refused) (reading : Result Y Refused)
    → kind ≡ made → Fits made refused → reading ≡ Err refused → Tells kind reading
refused_tells kind made refused reading e h r =
    subst (λ x. Tells kind x) (sym r) (subst (λ k. Fits k refused) (sym e) h)
