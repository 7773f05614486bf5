-- The trees of entries are of a table's nodes.
use Rattle.std.proofs.Common.{ℕ, Bool, true, false, cond, List, [], ◌∷◌, map, filter, Option, Some, None}
use Rattle.std.proofs.Common.{sym, subst}
use Rattle.std.specs.List.{AllByRecursion, AllZip, flat_map}
use Rattle.version_ranges.specs.Point.{Point}
use Rattle.version_ranges.proofs.Membership.{all_append}
use Rattle.pep440_version.specs.Record.{VersionRecord}
use Rattle.pep508_tree.specs.Meaning.{NodeRecord, IsTree}
use Rattle.reqtable_table.specs.Cases.{HasItsCases}
use Rattle.reqtable_compare.specs.Differences.{Listed}
use Rattle.reqtable_compare.specs.Pairs.{AreOfTrees}
use Rattle.reqtable_compare.specs.Summed.{SummaryRecord}
use Rattle.reqtable_compare.proofs.Trees.{trees_under as summed_trees}
use Rattle.reqtable_key.specs.Entries.{EntryRecord, AreOfPackages, AreOwn, entry_by, entry_if, is_under, own_entries}
use Rattle.reqtable_key.specs.Entries.{trees_under}

module _ (nodes : List NodeRecord) where
  abbrev Made : EntryRecord → Type 0
  Made e = IsTree nodes e.1

  by_range : (name : List ℕ) (s : SummaryRecord) (range : Option (List (Point VersionRecord))) → IsTree nodes s.tree →
      AllByRecursion Made (entry_by name s range)
  by_range name s None made = tt
  by_range name s (Some range) made = (made, tt)

  by_lines : (name : List ℕ) (s : SummaryRecord) (some : Bool) → IsTree nodes s.tree →
      AllByRecursion Made (entry_if name s some)
  by_lines name s true made = by_range name s s.range made
  by_lines name s false made = tt

  own_made : (name : List ℕ) (ss : List SummaryRecord) → AreOfTrees nodes ss →
      AllByRecursion Made (flat_map (own_entries name) ss)
  own_made name [] all = tt
  own_made name (s ∷ ss) all =
      all_append Made (own_entries name s) (flat_map (own_entries name) ss) (by_lines name s s.some all.0)
      (own_made name ss all.1)

  parts_made : (side : Listed) (names : List (List ℕ)) (parts : List (List EntryRecord)) →
      AllByRecursion (HasItsCases nodes) side.table → AllZip (AreOwn side) names parts →
      AllByRecursion Made (flat_map (λ part. part) parts)
  parts_made side [] [] has each = tt
  parts_made side [] (p ∷ parts) has each = absurd each
  parts_made side (n ∷ names) [] has each = absurd each
  parts_made side (n ∷ names) (p ∷ parts) has each =
      let own = each.0 in
      all_append Made p (flat_map (λ (part : List EntryRecord). part) parts)
      (subst (AllByRecursion Made) (sym own.are)
      (own_made n own.summaries (summed_trees nodes side.lines n side.table own.summaries has own.sums)))
      (parts_made side names parts has each.1)

  kept_by : (b : Bool) (e : EntryRecord) (es : List EntryRecord) → Made e →
      AllByRecursion (IsTree nodes) (map (λ x. x.1) es) →
      AllByRecursion (IsTree nodes) (map (λ (x : EntryRecord). x.1) (cond b (e ∷ es) es))
  kept_by true e es one all = (one, all)
  kept_by false e es one all = all

  all_under : (q : List ℕ) (es : List EntryRecord) → AllByRecursion Made es →
      AllByRecursion (IsTree nodes) (trees_under q es)
  all_under q [] all = tt
  all_under q (e ∷ es) all = kept_by (is_under q e) e (filter (is_under q) es) all.0 (all_under q es all.1)

  pub trees_made : (side : Listed) (names : List (List ℕ)) (entries : List EntryRecord) →
      AllByRecursion (HasItsCases nodes) side.table → AreOfPackages side names entries → (q : List ℕ) →
      AllByRecursion (IsTree nodes) (trees_under q entries)
  trees_made side names entries has of q =
      all_under q entries (subst (AllByRecursion Made) (sym of.are) (parts_made side names of.parts has of.each))
