-- Where the regions of groups hold.
use Rattle.std.proofs.Common.{◌≡◌, ◌∙◌, ◌&&◌, ◌||◌, ℕ, Bool, true, false, cond, List, [], ◌∷◌, map, filter}
use Rattle.std.proofs.Common.{refl, sym, ap, true≢false, Bor, Vec}
use Rattle.std.specs.BTreeMap.{BTreeMap}
use Rattle.std.specs.List.{list_any, AllByRecursion}
use Rattle.std.specs.Str.{bytes_eq}
use Rattle.pep508_diagram.specs.Question.{Valuation, truth}
use Rattle.pep508_tree.specs.Tree.{Tree}
use Rattle.pep508_tree.specs.Meaning.{NodeRecord, holds}
use Rattle.reqtable_answer.proofs.Tests.{same_bytes}
use Rattle.reqtable_key.specs.Entries.{EntryRecord, is_under, trees_under, trees_at, any_holds, IsRegionOf}
use Rattle.reqtable_key.specs.Keys.{Region, is_there}

-- an entry with these bytes holds
abbrev pub is_at : List NodeRecord → List ℕ → Valuation → EntryRecord → Bool
is_at nodes b v e = is_under b e && holds nodes e.1 v

-- ---- entries

kept_by : (nodes : List NodeRecord) (v : Valuation) (e : EntryRecord) (under : Bool) (kept : List EntryRecord) →
    list_any (λ t. holds nodes t v) (map (λ x. x.1) (cond under (e ∷ kept) kept))
    ≡ ((under && holds nodes e.1 v) || list_any (λ t. holds nodes t v) (map (λ x. x.1) kept))
kept_by nodes v e true kept = refl
kept_by nodes v e false kept = refl

pub any_under : (nodes : List NodeRecord) (b : List ℕ) (v : Valuation) (es : List EntryRecord) →
    any_holds nodes (trees_under b es) v ≡ list_any (is_at nodes b v) es
any_under nodes b v [] = refl
any_under nodes b v (e ∷ es) =
    kept_by nodes v e (is_under b e) (filter (is_under b) es)
    ∙ ap (λ r. is_at nodes b v e || r) (any_under nodes b v es)

under_by : (u h r s : Bool) → ((u && h) || r) ≡ true → (r ≡ true → s ≡ true) → (u || s) ≡ true
under_by true h r s e f = refl
under_by false h r s e f = f e

pub under_there : (nodes : List NodeRecord) (b : List ℕ) (v : Valuation) (es : List EntryRecord) →
    list_any (is_at nodes b v) es ≡ true → list_any (is_under b) es ≡ true
under_there nodes b v [] h = absurd (true≢false (sym h))
under_there nodes b v (e ∷ es) h =
    under_by (is_under b e) (holds nodes e.1 v) (list_any (is_at nodes b v) es) (list_any (is_under b) es) h
    (under_there nodes b v es)

-- ---- regions

module _ {Y : Type 0} (nodes : List NodeRecord) (groups : BTreeMap (Bor (List ℕ)) (Vec Tree Y)) where
  absorbed : (p q : Bool) → (p || (q && p)) ≡ p
  absorbed true q = refl
  absorbed false true = refl
  absorbed false false = refl

  there_by : (b : List ℕ) (v : Valuation) (r : Region) (rs : List Region) (same : Bool) → bytes_eq b r.0 ≡ same →
      IsRegionOf nodes groups r →
      is_there rs b v ≡ (list_any (bytes_eq b) (map (λ s. s.0) rs) && any_holds nodes (trees_at groups b) v) →
      ((same && truth r.1 v) || is_there rs b v)
      ≡ ((same || list_any (bytes_eq b) (map (λ s. s.0) rs)) && any_holds nodes (trees_at groups b) v)
  there_by b v r rs true e one rest =
      let is : r.0 ≡ b = sym (same_bytes b r.0 e) in
      let means = one.1 v ∙ ap (λ c. any_holds nodes (trees_at groups c) v) is in
      (λ i. means i || rest i)
      ∙ absorbed (any_holds nodes (trees_at groups b) v) (list_any (bytes_eq b) (map (λ s. s.0) rs))
  there_by b v r rs false e one rest = rest

  pub there_is : (b : List ℕ) (v : Valuation) (rs : List Region) → AllByRecursion (IsRegionOf nodes groups) rs →
      is_there rs b v ≡ (list_any (bytes_eq b) (map (λ s. s.0) rs) && any_holds nodes (trees_at groups b) v)
  there_is b v [] all = refl
  there_is b v (r ∷ rs) all = there_by b v r rs (bytes_eq b r.0) refl all.0 (there_is b v rs all.1)

both_true : (p q : Bool) → (p && q) ≡ true → (p ≡ true) × (q ≡ true)
both_true true q e = (refl, e)
both_true false q e = absurd (true≢false (sym e))

-- a region holds exactly where an entry with its bytes does
pub there_at : {Y : Type 0} (nodes : List NodeRecord) (groups : BTreeMap (Bor (List ℕ)) (Vec Tree Y))
    (es : List EntryRecord) (rs : List Region) → AllByRecursion (IsRegionOf nodes groups) rs →
    ((q : List ℕ) → trees_at groups q ≡ trees_under q es) →
    ((q : List ℕ) → list_any (bytes_eq q) (map (λ s. s.0) rs) ≡ list_any (is_under q) es) →
    (b : List ℕ) (v : Valuation) → is_there rs b v ≡ list_any (is_at nodes b v) es
there_at nodes groups es rs all trees heads b v =
    there_is nodes groups b v rs all
    ∙ (λ i. heads b i && any_holds nodes (trees b i) v)
    ∙ ap (λ h. list_any (is_under b) es && h) (any_under nodes b v es)
    ∙ whole (list_any (is_under b) es) (list_any (is_at nodes b v) es) (under_there nodes b v es)
  where
    whole : (p q : Bool) → (q ≡ true → p ≡ true) → (p && q) ≡ q
    whole true q f = refl
    whole false true f = f refl
    whole false false f = refl
