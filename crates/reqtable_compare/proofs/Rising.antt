-- The extras of each case are in the order of their bytes.
use Rattle.std.proofs.Common.{List, [], ◌∷◌, Option, Some, None, sym, subst}
use Rattle.std.specs.List.{AllZip, AllByRecursion}
use Rattle.reqtable_requirements.specs.declared.requirements.Line.{Line}
use Rattle.reqtable_table.specs.Kept.{KeptLine, KeptCase}
use Rattle.reqtable_compare.specs.Summed.{SummaryRecord}
use Rattle.reqtable_compare.specs.Totals.{IsSummed, AreSummed}
use Rattle.reqtable_compare.specs.Pairs.{ExtrasRise}
use Rattle.reqtable_compare.proofs.Summaries.{none_rise}

all_rise : (lines : List Line) (kept : List KeptLine) (summaries : List SummaryRecord) (cases : List KeptCase) →
    AllZip (IsSummed lines kept) summaries cases → AllByRecursion ExtrasRise summaries
all_rise lines kept [] cases h = tt
all_rise lines kept (s ∷ summaries) [] h = absurd h
all_rise lines kept (s ∷ summaries) (case ∷ cases) h = (h.0.rising, all_rise lines kept summaries cases h.1)

pub extras_rise : (lines : List Line) (kept : List KeptLine) (found : Option (List KeptCase))
    (summaries : List SummaryRecord) → AreSummed lines kept found summaries → AllByRecursion ExtrasRise summaries
extras_rise lines kept None summaries h = subst (AllByRecursion ExtrasRise) (sym h) (none_rise, tt)
extras_rise lines kept (Some cases) summaries h = all_rise lines kept summaries cases h
