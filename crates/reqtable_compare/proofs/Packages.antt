-- What holds of the summaries of each of a table's packages holds of those under a name.
use Rattle.std.proofs.Common.{◌≡◌, ℕ, Bool, true, false, cond, List, [], ◌∷◌, Option, Some}
use Rattle.std.specs.Prelude.{find}
use Rattle.std.specs.List.{AllZip, AllByRecursion}
use Rattle.std.specs.Option.{option_map}
use Rattle.std.specs.Str.{bytes_eq}
use Rattle.pep508_tree.specs.Meaning.{NodeRecord}
use Rattle.reqtable_requirements.specs.declared.requirements.Line.{Line}
use Rattle.reqtable_table.specs.Cases.{HasItsCases, cases_under}
use Rattle.reqtable_table.specs.Kept.{KeptLine, KeptPackage}
use Rattle.reqtable_compare.specs.Summed.{SummaryRecord}
use Rattle.reqtable_compare.specs.Totals.{IsSummed, AreSummed, no_lines}

abbrev under : List ℕ → KeptPackage → Bool
under name kept = bytes_eq name kept.name

module _ (P : List SummaryRecord → Type 0) (nodes : List NodeRecord) (lines : List Line)
    (own : List KeptLine) (nothing : (summaries : List SummaryRecord) → summaries ≡ no_lines ∷ [] → P summaries)
    (each : (kept : KeptPackage) (summaries : List SummaryRecord) → HasItsCases nodes kept →
    AllZip (IsSummed lines own) summaries kept.cases → P summaries) where
  summed_by : (kept : KeptPackage) (found : Option KeptPackage) (summaries : List SummaryRecord) (b : Bool) →
      HasItsCases nodes kept →
      AreSummed lines own (option_map (λ (p : KeptPackage). p.cases) (cond b (Some kept) found)) summaries →
      (AreSummed lines own (option_map (λ (p : KeptPackage). p.cases) found) summaries → P summaries) → P summaries
  summed_by kept found summaries true has sums below = each kept summaries has sums
  summed_by kept found summaries false has sums below = below sums

  pub summed_under : (name : List ℕ) (table : List KeptPackage) (summaries : List SummaryRecord) →
      AllByRecursion (HasItsCases nodes) table → AreSummed lines own (cases_under name table) summaries → P summaries
  summed_under name [] summaries has sums = nothing summaries sums
  summed_under name (kept ∷ table) summaries has sums =
      summed_by kept (find (under name) table) summaries (under name kept) has.0 sums
      (summed_under name table summaries has.1)
