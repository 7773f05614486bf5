-- The regions of groups, written one after another.
use Rattle.std.proofs.Common.{◌≡◌, ◌∙◌, ◌||◌, ◌&&◌, not, Bool, true, false, ℕ, List, [], ◌∷◌, ◌++◌, map, refl, sym, ap, subst, Bor, Vec}
use Rattle.std.proofs.lemmas.List.{map-append}
use Rattle.std.specs.BTreeMap.{BTreeMap}
use Rattle.std.specs.List.{list_any, AllByRecursion}
use Rattle.std.specs.List.Sorted.{IsStrictlySortedBy}
use Rattle.std.specs.Ordering.{nat_cmp}
use Rattle.std.specs.Cmp.Lexicographic.{slice_cmp}
use Rattle.std.specs.Str.{bytes_eq}
use Rattle.pep508_diagram.specs.Question.{Valuation}
use Rattle.pep508_tree.specs.Tree.{Tree}
use Rattle.pep508_tree.specs.Meaning.{NodeRecord, Extends, IsTree, holds}
use Rattle.pep508_conjunctions.specs.Sources.{all_hold}
use Rattle.pep508_tree.proofs.Conjoining.{extends_itself, tree_kept}
use Rattle.pep508_tree.proofs.Diagrams.{holds_kept}
use Rattle.reqtable_answer.specs.Groups.{has_group}
use Rattle.reqtable_key.specs.Entries.{AppendsRegion, AreWritten, IsRegionOf, WritesRegions, any_holds, trees_at}
use Rattle.reqtable_key.specs.Keys.{Region, region_bytes}
use Rattle.reqtable_key.proofs.Listed.{listed_is, one_more}

any_kept : (old new : List NodeRecord) (trees : List Tree) (v : Valuation) → Extends old new →
    AllByRecursion (IsTree old) trees → any_holds new trees v ≡ any_holds old trees v
any_kept old new [] v keeps all = refl
any_kept old new (t ∷ trees) v keeps all =
    let first = holds_kept old new keeps t all.0 v in
    let rest = any_kept old new trees v keeps all.1 in
    λ i. first i || rest i

by_first : (h a r : Bool) → not a ≡ r → not (not h && a) ≡ (h || r)
by_first true a r e = refl
by_first false a r e = e

-- one of some trees holds where not all their negations do
pub not_all : (nodes : List NodeRecord) (trees : List Tree) (v : Valuation) →
    not (all_hold nodes true trees v) ≡ any_holds nodes trees v
not_all nodes [] v = refl
not_all nodes (t ∷ trees) v =
    by_first (holds nodes t v) (all_hold nodes true trees v) (any_holds nodes trees v) (not_all nodes trees v)

pub trees_kept : (old new : List NodeRecord) (trees : List Tree) → Extends old new → AllByRecursion (IsTree old) trees →
    AllByRecursion (IsTree new) trees
trees_kept old new [] keeps all = tt
trees_kept old new (t ∷ trees) keeps all = (tree_kept old new keeps t all.0, trees_kept old new trees keeps all.1)

all_more : {A : Type 0} (P : A → Type 0) (xs : List A) (x : A) → AllByRecursion P xs → P x →
    AllByRecursion P (xs ++ x ∷ [])
all_more P [] x h one = (one, tt)
all_more P (y ∷ xs) x h one = (h.0, all_more P xs x h.1 one)

module _ {Y : Type 0} (old : List NodeRecord) (groups : BTreeMap (Bor (List ℕ)) (Vec Tree Y)) where
  abbrev Entries : Type 0
  Entries = List (Bor (List ℕ) × Vec Tree Y)

  abbrev bytes_in : Bor (List ℕ) × Vec Tree Y → List ℕ
  bytes_in e = e.0.now

  pub none_written : AreWritten old old groups [] []
  none_written = record { keeps = extends_itself old; regions = []; under = refl; each = tt; is = refl }

  pub one_written : (mid new : List NodeRecord) (entries : Entries) (entry : Bor (List ℕ) × Vec Tree Y)
      (trees : List Tree) (key more : List ℕ) → AreWritten old mid groups entries key → Extends old new →
      AppendsRegion mid entry.0.now trees key more → trees_at groups entry.0.now ≡ trees →
      AllByRecursion (IsTree old) trees → AreWritten old new groups (entries ++ entry ∷ []) more
  one_written mid new entries entry trees key more far keeps one at all = record {
    keeps = keeps;
    regions = far.regions ++ one.region ∷ [];
    under =
        map-append (λ (r : Region). r.0) far.regions (one.region ∷ [])
        ∙ (λ i. far.under i ++ one.under i ∷ [])
        ∙ sym (map-append bytes_in entries (entry ∷ []));
    each = all_more (IsRegionOf old groups) far.regions one.region far.each (
      one.canonical,
      λ v. one.means v ∙ any_kept old mid trees v far.keeps all
          ∙ ap (λ ts. any_holds old ts v) (sym at ∙ ap (trees_at groups) (sym one.under)),
    );
    is =
        one.appended ∙ ap (λ l. l ++ 1 ∷ region_bytes one.region) far.is
        ∙ sym (one_more region_bytes far.regions one.region);
  }

  pub all_written : (new : List NodeRecord) (entries : Entries) (key : List ℕ) →
      IsStrictlySortedBy (slice_cmp nat_cmp) (map bytes_in entries) →
      ((q : List ℕ) → list_any (bytes_eq q) (map bytes_in entries) ≡ has_group groups q) →
      AreWritten old new groups entries key → WritesRegions old groups (key ++ 0 ∷ [])
  all_written new entries key rise all far = record {
    regions = far.regions;
    rising = subst (IsStrictlySortedBy (slice_cmp nat_cmp)) (sym far.under) rise;
    all = λ q. ap (list_any (bytes_eq q)) far.under ∙ all q;
    each = far.each;
    is = ap (λ l. l ++ 0 ∷ []) far.is ∙ listed_is region_bytes far.regions;
  }
