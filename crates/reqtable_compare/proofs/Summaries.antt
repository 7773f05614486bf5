-- The summaries of a table's cases are those of its lines.
use Rattle.std.proofs.Common.{◌≡◌, ◌∙◌, ◌||◌, ℕ, Bool, true, false, cond, List, [], ◌∷◌, map, filter}
use Rattle.std.proofs.Common.{refl, sym, ap, subst, arith, Option}
use Rattle.std.specs.List.{list_any, AllZip, AllByRecursion}
use Rattle.std.specs.List.Sorted.{IsStrictlySortedBy}
use Rattle.std.specs.Ordering.{nat_cmp}
use Rattle.std.specs.Cmp.Lexicographic.{slice_cmp}
use Rattle.std.specs.Str.{bytes_eq}
use Rattle.version_ranges.specs.Point.{Point, BelowAll}
use Rattle.pep440_version.specs.Record.{VersionRecord}
use Rattle.pep508_diagram.specs.Question.{Valuation}
use Rattle.pep508_tree.specs.Tree.{Tree, always}
use Rattle.pep508_tree.specs.Meaning.{NodeRecord}
use Rattle.pep508_tree.proofs.Disjoint.{always_holds}
use Rattle.pep508_cases.specs.Cases.{Marks, marks_cmp}
use Rattle.reqtable_answer.specs.Asks.{has_extra, is_of}
use Rattle.reqtable_requirements.specs.Asks.{lines_of}
use Rattle.reqtable_requirements.specs.LineReading.{LineRecord}
use Rattle.reqtable_requirements.specs.declared.requirements.Line.{Line}
use Rattle.pep508_cases.specs.Sets.{marked}
use Rattle.reqtable_cases.specs.Lines.{asked_by}
use Rattle.reqtable_cases.specs.Usable.{IsRangeOf}
use Rattle.reqtable_table.specs.Cases.{IsCaseOfLines, AreCasesOf}
use Rattle.reqtable_table.specs.Kept.{KeptLine, KeptCase}
use Rattle.reqtable_table.specs.Numbered.{asks_at}
use Rattle.reqtable_compare.specs.Numbered.{extras_at}
use Rattle.reqtable_compare.specs.Summed.{SummaryRecord, some_asks, IsOfSet, AreSummaries}
use Rattle.reqtable_compare.specs.Totals.{some_numbers, IsSummed, no_lines}
use Rattle.reqtable_compare.proofs.ByNumber.{HasExtras}
use Rattle.reqtable_compare.proofs.Comparable.{AreComparable, case_usable}

kept_by : (P : LineRecord → Type 0) (b : Bool) (line : LineRecord) (rest : List LineRecord) → P line →
    AllByRecursion P rest → AllByRecursion P (cond b (line ∷ rest) rest)
kept_by P true line rest one all = (one, all)
kept_by P false line rest one all = all

kept : (P : LineRecord → Type 0) (test : LineRecord → Bool) (lines : List LineRecord) → AllByRecursion P lines →
    AllByRecursion P (filter test lines)
kept P test [] all = tt
kept P test (line ∷ lines) all =
    kept_by P (test line) line (filter test lines) all.0 (kept P test lines all.1)

marked_all : (P : LineRecord → Type 0) (marks : Marks) (lines : List LineRecord) → AllByRecursion P lines →
    AllByRecursion P (marked marks lines)
marked_all P [] lines all = tt
marked_all P (b ∷ marks) [] all = tt
marked_all P (true ∷ marks) (line ∷ lines) all = (all.0, marked_all P marks lines all.1)
marked_all P (false ∷ marks) (line ∷ lines) all = marked_all P marks lines all.1

any_extras : (lines : List Line) (rs : List LineRecord) (e : List ℕ) → AllByRecursion (HasExtras lines) rs →
    list_any (list_any (bytes_eq e)) (map (extras_at lines) (map (λ r. r.number) rs))
    ≡ list_any (has_extra e) (map (λ r. r.front) rs)
any_extras lines [] e all = refl
any_extras lines (r ∷ rs) e all =
    let rest = any_extras lines rs e all.1 in
    λ i. list_any (bytes_eq e) (all.0 i) || rest i

some_same : (rs : List LineRecord) → some_numbers (map (λ r. r.number) rs) ≡ some_asks (map (λ r. r.front) rs)
some_same [] = refl
some_same (r ∷ rs) = refl

-- the range that a table makes of a case is that of what the case's lines require
abbrev pub AreRanged : List KeptLine → List LineRecord → Type 0
AreRanged kept lines = (case : KeptCase) (set : Marks × Tree) (range : Option (List (Point VersionRecord))) →
    IsCaseOfLines lines case set → IsRangeOf (asks_at case.numbers kept) range → IsRangeOf (asked_by set.0 lines) range

of_set : (lines : List Line) (kept : List KeptLine) (name : List ℕ) (said : List LineRecord) (s : SummaryRecord)
    (case : KeptCase) (set : Marks × Tree) → AllByRecursion (HasExtras lines) said → AreComparable said →
    AreRanged kept (lines_of name said) → IsSummed lines kept s case → IsCaseOfLines (lines_of name said) case set →
    IsOfSet (lines_of name said) s set
of_set lines table_lines name said s case set extras comparable ranged sum of =
    let own = marked set.0 (lines_of name said) in
    let own_extras = marked_all (HasExtras lines) set.0 (lines_of name said)
    (kept (HasExtras lines) (λ line. is_of name line.front) said extras) in
    record {
      asks = record {
        some = sum.some ∙ ap some_numbers of.numbers ∙ some_same own;
        rising = sum.rising;
        extras = λ e. sum.extras e
            ∙ ap (λ ns. list_any (list_any (bytes_eq e)) (map (extras_at lines) ns)) of.numbers
            ∙ any_extras lines own e own_extras;
        usable = case_usable set.0 name said comparable;
        range = λ there. ranged case set s.range of sum.range;
        prerelease = sum.prerelease ∙ of.prerelease;
      };
      tree = sum.tree ∙ of.tree;
    }

each_set : (lines : List Line) (own : List KeptLine) (name : List ℕ) (said : List LineRecord)
    (summaries : List SummaryRecord) (cases : List KeptCase) (sets : List (Marks × Tree)) →
    AllByRecursion (HasExtras lines) said → AreComparable said → AreRanged own (lines_of name said) →
    AllZip (IsSummed lines own) summaries cases →
    AllZip (IsCaseOfLines (lines_of name said)) cases sets → AllZip (IsOfSet (lines_of name said)) summaries sets
each_set lines own name said [] [] [] extras comparable ranged sums of = tt
each_set lines own name said [] [] (set ∷ sets) extras comparable ranged sums of = absurd of
each_set lines own name said [] (case ∷ cases) sets extras comparable ranged sums of = absurd sums
each_set lines own name said (s ∷ summaries) [] sets extras comparable ranged sums of = absurd sums
each_set lines own name said (s ∷ summaries) (case ∷ cases) [] extras comparable ranged sums of = absurd of
each_set lines own name said (s ∷ summaries) (case ∷ cases) (set ∷ sets) extras comparable ranged sums of = (
  of_set lines own name said s case set extras comparable ranged sums.0 of.0,
  each_set lines own name said summaries cases sets extras comparable ranged sums.1 of.1,
)

anywhere : Valuation
anywhere = record { version = λ k. BelowAll; text = λ k. BelowAll; flag = λ f. false }

one_rises : IsStrictlySortedBy marks_cmp ([] ∷ [])
unfolding IsStrictlySortedBy
one_rises = (tt, tt)

pub none_rise : IsStrictlySortedBy (slice_cmp nat_cmp) []
unfolding IsStrictlySortedBy
none_rise = tt

nothing_summed : (nodes : List NodeRecord) → AreSummaries nodes [] (no_lines ∷ [])
nothing_summed nodes = record {
  sets = ([], always) ∷ [];
  are = record {
    rising = one_rises;
    each = (record { realised = (anywhere, refl); made = omega arith; means = λ v. always_holds nodes v }, tt);
    all = λ v. refl;
  };
  each = (
    record {
      asks = record {
        some = refl;
        rising = none_rise;
        extras = λ e. refl;
        usable = refl;
        range = λ there. absurd (cc);
        prerelease = refl;
      };
      tree = refl;
    },
    tt,
  );
}

pub no_summaries : (nodes : List NodeRecord) (lines : List LineRecord) (summaries : List SummaryRecord) →
    lines ≡ [] → summaries ≡ no_lines ∷ [] → AreSummaries nodes lines summaries
no_summaries nodes lines summaries empty is =
    subst (λ l. AreSummaries nodes l summaries) (sym empty)
    (subst (AreSummaries nodes []) (sym is) (nothing_summed nodes))

pub some_summaries : (nodes : List NodeRecord) (lines : List Line) (own : List KeptLine) (name : List ℕ)
    (said : List LineRecord) (summaries : List SummaryRecord) (cases : List KeptCase) →
    AllByRecursion (HasExtras lines) said → AreComparable said → AreRanged own (lines_of name said) →
    AllZip (IsSummed lines own) summaries cases → AreCasesOf nodes (lines_of name said) cases →
    AreSummaries nodes (lines_of name said) summaries
some_summaries nodes lines own name said summaries cases extras comparable ranged sums of = record {
  sets = of.sets;
  are = of.are;
  each = each_set lines own name said summaries cases of.sets extras comparable ranged sums of.each;
}
