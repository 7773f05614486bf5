use Rattle.std.proofs.Common.{◌∙◌, sym}
use Rattle.reqtable_range.proofs.Sieving.{first_lacks, second_tells}
use Rattle.reqtable_range.proofs.sieve.Sieve.rejects.Goals as goal

pub returns-then-not-public : goal.returns-then-not-public
returns-then-not-public c = first_lacks _ _ (sym c.in_ok-public.ensures ∙ c.if-not-public.true)

pub returns : goal.returns
returns c = second_tells _ _ c.contains.result (sym c.in_ok-public.ensures ∙ c.if-not-public.false) c.contains.ensures
