use Rattle.reqtable_conflicts.proofs.Taken.{each_somewhere, each_takes, each_has_nothing}
use Rattle.reqtable_conflicts.proofs.laws.a_listed_conflict_takes_no_plain_version.Goals as goal

pub returns : goal.returns
returns c =
    let built = c.a_read_specifier_is_built.ensures.built in
    let ends = c.a_read_specifier_is_built.ensures.ends in
    record {
      somewhere = each_somewhere built ends;
      takes = each_takes built ends;
      answered = each_has_nothing built ends;
    }
