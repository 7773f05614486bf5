-- What comparing two lists answers, from what is known of their lines and their tables.
use Rattle.std.proofs.Common.{◌≡◌, ◌∙◌, ℕ, List, [], ◌∷◌, Option, Some, None, Result, Ok, refl, sym, ap}
use Rattle.std.proofs.Common.{subst}
use Rattle.std.specs.Option.{option_map}
use Rattle.std.specs.List.{AllZip, AllByRecursion}
use Rattle.pep508_url.specs.Vars.{Variables}
use Rattle.pep508_tree.specs.Meaning.{NodeRecord, Extends}
use Rattle.pep508_tree.proofs.Conjoining.{extends_itself}
use Rattle.reqtable_requirements.specs.LineReading.{LineRecord}
use Rattle.reqtable_requirements.specs.Requirements.{StandsFor}
use Rattle.reqtable_requirements.specs.declared.requirements.Line.{Line}
use Rattle.reqtable_requirements.proofs.Lasting.{lines_kept}
use Rattle.reqtable_table.specs.Cases.{Builds, HasItsCases}
use Rattle.reqtable_table.specs.Kept.{KeptPackage}
use Rattle.reqtable_table.proofs.Packages.{has_kept}
use Rattle.reqtable_compare.specs.declared.sides.Relation.{Relation}
use Rattle.reqtable_compare.specs.declared.sides.Same.{Same}
use Rattle.reqtable_compare.specs.declared.sides.SameError.{SameError}
use Rattle.reqtable_compare.specs.declared.sides.Side.TheVariants.{Left, Right}
use Rattle.reqtable_compare.specs.Related.{Relates}
use Rattle.reqtable_compare.specs.declared.comparing.Place.{Place}
use Rattle.reqtable_compare.specs.declared.refusing.Refused.{Refused}
use Rattle.reqtable_compare.specs.Differences.{ComparesTables, FindsPlace, IsFirstPlace, listed, place_seen}
use Rattle.reqtable_compare.specs.Refusals.{line_refusal, refusal_in}
use Rattle.reqtable_compare.specs.RefusedLines.{lines_refusal, refused_seen}
use Rattle.reqtable_packages.specs.Packages.{said_among}
use Rattle.reqtable_packages.proofs.Among.{none_too_many}
use Rattle.reqtable_compare.specs.Settled.{AreOpen}
use Rattle.reqtable_compare.proofs.ByNumber.{Rise}
use Rattle.reqtable_compare.proofs.Causes.{refusal_said}
use Rattle.reqtable_compare.proofs.Comparable.{both_comparable}
use Rattle.reqtable_compare.proofs.Outside.{outside}
use Rattle.reqtable_compare.proofs.Whole.{compares, side_of}

-- ---- what lasts while nodes are added

pub all_have_kept : (old new : List NodeRecord) (table : List KeptPackage) → Extends old new →
    AllByRecursion (HasItsCases old) table → AllByRecursion (HasItsCases new) table
all_have_kept old new [] keeps h = tt
all_have_kept old new (kept ∷ table) keeps h =
    (has_kept old new kept keeps h.0, all_have_kept old new table keeps h.1)

-- ---- lines that are in the way

pub refusal_of : (vars : Variables) (nodes : List NodeRecord) (left right : List Line) (said others : List LineRecord) →
    AllZip (StandsFor vars nodes) left said → AllZip (StandsFor vars nodes) right others →
    lines_refusal Left left (lines_refusal Right right None) ≡ line_refusal said others
refusal_of vars nodes left right said others h h' =
    refusal_said vars nodes Left left said (lines_refusal Right right None) h
    ∙ ap (refusal_in Left said) (refusal_said vars nodes Right right others None h')

refused_by : (l l' r r' : List Line) (found x : Option Refused) → l ≡ l' → r ≡ r' → found ≡ x →
    option_map refused_seen found ≡ lines_refusal Left l (lines_refusal Right r None) →
    lines_refusal Left l' (lines_refusal Right r' None) ≡ option_map refused_seen x
refused_by l l' r r' found x el er ef h =
    sym (λ i. lines_refusal Left (el i) (lines_refusal Right (er i) None)) ∙ sym h ∙ ap (option_map refused_seen) ef

pub refused_is : (l l' r r' : List Line) (found : Option Refused) (x : Refused) → l ≡ l' → r ≡ r' → found ≡ Some x →
    option_map refused_seen found ≡ lines_refusal Left l (lines_refusal Right r None) →
    lines_refusal Left l' (lines_refusal Right r' None) ≡ Some (refused_seen x)
refused_is l l' r r' found x = refused_by l l' r r' found (Some x)

none_is : (found : Option Refused) → ((x : Refused) → found ≡ Some x → ⊥) → found ≡ None
none_is None never = refl
none_is (Some x) never = absurd (never x refl)

pub none_refused : (l l' r r' : List Line) (found : Option Refused) → l ≡ l' → r ≡ r' →
    ((x : Refused) → found ≡ Some x → ⊥) →
    option_map refused_seen found ≡ lines_refusal Left l (lines_refusal Right r None) →
    lines_refusal Left l' (lines_refusal Right r' None) ≡ None
none_refused l l' r r' found el er never h = refused_by l l' r r' found None el er (none_is found never) h

-- ---- the place that was found

pub place_found : (relation : Relation) (nodes : List NodeRecord) (l l' r r' : List Line) (lt rt : List KeptPackage) (ns ns' : List (List ℕ))
    (found : Option Place) (place : Place) → l ≡ l' → r ≡ r' → ns ≡ ns' → found ≡ Some place →
    FindsPlace relation nodes (listed l lt) (listed r rt) ns (option_map place_seen found) →
    IsFirstPlace relation nodes (listed l' lt) (listed r' rt) ns' (place_seen place)
place_found relation nodes l l' r r' lt rt ns ns' found place el er en ef h =
    subst (λ x. IsFirstPlace relation nodes (listed x lt) (listed r' rt) ns' (place_seen place)) el
    (subst (λ x. IsFirstPlace relation nodes (listed l lt) (listed x rt) ns' (place_seen place)) er
    (subst (λ x. IsFirstPlace relation nodes (listed l lt) (listed r rt) x (place_seen place)) en
    (subst (λ f. FindsPlace relation nodes (listed l lt) (listed r rt) ns (option_map place_seen f)) ef h)))

-- ---- two tables

pub answered : (relation : Relation) (vars : Variables) (old one two new : List NodeRecord) (limit : ℕ) (names : List (List ℕ))
    (left right : List Line) (ours theirs : List KeptPackage) (said others : List LineRecord)
    (result : Result Same SameError) → AllZip (StandsFor vars old) left said → AllZip (StandsFor vars old) right others →
    Rise left → Rise right → lines_refusal Left left (lines_refusal Right right None) ≡ None →
    AreOpen limit left right names → Extends old one → Extends one two →
    Builds limit one (said_among names said) (Ok ours) →
    Builds limit two (said_among names others) (Ok theirs) →
    ComparesTables relation two new (listed left ours) (listed right theirs) names result →
    Relates relation limit new said others result
answered relation vars old one two new limit names left right ours theirs said others result h h' rise rise' none are_open keeps more
    built built' is =
    let none' = sym (refusal_of vars old left right said others h h') ∙ none in
    let comparable = both_comparable said others none' in
    let away = outside vars old limit left right said others names h h' are_open in
    compares relation two limit names (listed left ours) (listed right theirs) said others
    (side_of vars old one two limit names left ours said h rise comparable.0 built more)
    (side_of vars one two two limit names right theirs others (lines_kept vars old one keeps right others h') rise'
    comparable.1 built' (extends_itself two))
    away new result are_open.rising
    (record {
      lines = none';
      ours = none_too_many limit names said away.few built.2;
      theirs = none_too_many limit names others away.few_others built'.2;
    })
    is

-- ---- the open packages

pub open_at : (limit : ℕ) (l l' r r' : List Line) (ns ns' : List (List ℕ)) → l ≡ l' → r ≡ r' → ns ≡ ns' →
    AreOpen limit l r ns → AreOpen limit l' r' ns'
open_at limit l l' r r' ns ns' el er en h =
    subst (λ x. AreOpen limit x r' ns') el
    (subst (λ x. AreOpen limit l x ns') er (subst (AreOpen limit l r) en h))
