-- A case that requires the same as one that fits all others fits them all.
use Rattle.std.proofs.Common.{◌≡◌, ◌∙◌, inl, inr, true, List, [], ◌∷◌, Option, Some, None}
use Rattle.std.proofs.Common.{sym, subst, true≢false, MatchOption, IfSome}
use Rattle.std.specs.List.{list_any}
use Rattle.std.specs.Str.{bytes_eq}
use Rattle.version_ranges.specs.Point.{Point}
use Rattle.pep440_version.specs.Record.{VersionRecord}
use Rattle.pep508_tree.specs.Meaning.{NodeRecord}
use Rattle.reqtable_compare.specs.declared.sides.Relation.{Relation}
use Rattle.reqtable_compare.specs.declared.sides.Relation.TheVariants as relations
use Rattle.reqtable_compare.specs.Summed.{SummaryRecord, SameRange, BothAlike, Alike, WithinRange}
use Rattle.reqtable_compare.specs.Summed.{Covering, Fit}
use Rattle.reqtable_compare.specs.Pairs.{PassesAll, FitsAll}

same_range_on : (a b c : Option (List (Point VersionRecord))) → SameRange a b → SameRange b c → SameRange a c
same_range_on (Some a) (Some b) (Some c) one other = λ p. one p ∙ other p
same_range_on (Some a) (Some b) None one other = other
same_range_on (Some a) None c one other = absurd one
same_range_on None b c one other = one

within_on : (a b c : Option (List (Point VersionRecord))) → SameRange a b → WithinRange b c → WithinRange a c
within_on (Some a) (Some b) (Some c) one other = λ p held. other p (sym (one p) ∙ held)
within_on (Some a) (Some b) None one other = other
within_on (Some a) None c one other = absurd one
within_on None b c one other = one

both_on : (a b c : SummaryRecord) → BothAlike a b → BothAlike b c → BothAlike a c
both_on a b c one other = record {
  some = one.some;
  other = other.other;
  extras = one.extras ∙ other.extras;
  range = same_range_on a.range b.range c.range one.range other.range;
  prerelease = one.prerelease ∙ other.prerelease;
}

alike_on : (a b c : SummaryRecord) → Alike a b → Alike b c → Alike a c
alike_on a b c (inl one) (inl other) = inl (one.0, other.1)
alike_on a b c (inl one) (inr other) = absurd (true≢false (sym other.some ∙ one.1))
alike_on a b c (inr one) (inl other) = absurd (true≢false (sym one.other ∙ other.0))
alike_on a b c (inr one) (inr other) = inr (both_on a b c one other)

covering_on : (a b c : SummaryRecord) → Alike a b → Covering b c → Covering a c
covering_on a b c like (inl none) = inl none
covering_on a b c (inl one) (inr other) = absurd (true≢false (sym other.some ∙ one.1))
covering_on a b c (inr one) (inr other) = inr (record {
  some = one.some;
  extras = λ extra wanted. subst (λ extras. list_any (bytes_eq extra) extras ≡ true) (sym one.extras)
      (other.extras extra wanted);
  range = within_on a.range b.range c.range one.range other.range;
})

fit_on : (relation : Relation) (a b c : SummaryRecord) → Alike a b → Fit relation b c → Fit relation a c
fit_on relations.Alike a b c like fit = alike_on a b c like fit
fit_on relations.Covering a b c like fit = covering_on a b c like fit

pub fits_like : (relation : Relation) (right : List SummaryRecord) (a b : SummaryRecord) → Alike a b →
    FitsAll relation right b → FitsAll relation right a
fits_like relation [] a b like fits = tt
fits_like relation (c ∷ right) a b like fits = (fit_on relation a b c like fits.0, fits_like relation right a b like fits.1)

pub fits_pass : (relation : Relation) (nodes : List NodeRecord) (right : List SummaryRecord) (a : SummaryRecord) →
    FitsAll relation right a → PassesAll relation nodes right a
fits_pass relation nodes [] a fits = tt
fits_pass relation nodes (c ∷ right) a fits = (inl fits.0, fits_pass relation nodes right a fits.1)

-- where there is one that fits all others
pub fits_as : {R : Type 0} (seen : R → SummaryRecord) (relation : Relation) (right : List SummaryRecord) (a : SummaryRecord)
    (fitting : Option R) → MatchOption fitting ⊥ (λ other. Alike a (seen other)) →
    IfSome fitting (λ other. FitsAll relation right (seen other)) → FitsAll relation right a
fits_as seen relation right a None like fits = absurd like
fits_as seen relation right a (Some other) like fits = fits_like relation right a (seen other) like fits
