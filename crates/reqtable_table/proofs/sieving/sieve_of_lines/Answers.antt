use Rattle.std.proofs.Common.{◌∙◌, map, sym, ap}
use Rattle.std.proofs.lemmas.Result.{IfOk-weaker}
use Rattle.pep440_specifier_list.specs.Lists.{matches_all}
use Rattle.pep440_range.proofs.Lists.{both_true}
use Rattle.reqtable_range.specs.Sifting.{sieve_holds}
use Rattle.reqtable_range.specs.Together.{all_take}
use Rattle.reqtable_table.proofs.sieving.sieve_of_lines.Goals as goal

pub returns : goal.returns
returns c =
    IfOk-weaker c.sieve_of.result _ _
    (λ sieve sifts version said taken.
    let all =
    ap (λ lists. all_take (map (λ list. list.now) lists) version) c.deref.ensures.value
    ∙ c.in_ok-lists.ensures version taken in
    (both_true (sieve_holds sieve version) (matches_all sifts.single version) (sym (sifts.take version said) ∙ all)).0)
    c.sieve_of.ensures
