-- Branches of a key of versions or of texts, and flags, as diagrams of markers.
use Rattle.std.proofs.Common.{◌≡◌, ℕ, ◌==◌, true, List, [], ◌∷◌, refl, ap, ◌∙◌}
use Rattle.std.specs.Ordering.{ordering_then, is_eq}
use Rattle.std.specs.Cmp.{unsigned_Decides}
use Rattle.std.specs.Cmp.Lexicographic.{slice_cmp, nat_list_cmp_total}
use Rattle.std.specs.declared.cmp.Ordering.TheVariants.{Less}
use Rattle.version_ranges.specs.Boundaries.{boundary_cmp}
use Rattle.pep440_text.specs.Record.{VersionRecord}
use Rattle.pep440_version.specs.Order.{version_cmp}
use Rattle.pep508_marker.specs.declared.keys.MarkerValueString.{MarkerValueString}
use Rattle.pep508_marker.specs.Keys.{text_key_rank}
use Rattle.pep508_diagram.specs.declared.branch.Branch.{Branch}
use Rattle.pep508_diagram.specs.declared.variable.VersionVariable.{VersionVariable}
use Rattle.pep508_diagram.specs.declared.variable.Flag.{Flag}
use Rattle.pep508_diagram.specs.Text.{text_cmp}
use Rattle.pep508_diagram.specs.Diagram.{Diagram, Leaf, Test, RootAbove}
use Rattle.pep508_diagram.specs.Branches.{RisingBranches, branch_at, AllBranches}
use Rattle.pep508_diagram.specs.Chains.{chain}
use Rattle.pep508_diagram.specs.Children.{RootBehind, NeighboursApart, AreSameBranches}
use Rattle.pep508_diagram.specs.Question.{Question, VersionBelow, TextBelow, IsSet, Valuation, version_rank}
use Rattle.pep508_diagram.specs.Question.{text_rank, flag_place, place_of, version_boundaries}
use Rattle.pep508_diagram.specs.Question.{text_boundaries, question_cmp, shares_variable, answer, marker}
use Rattle.pep508_diagram.specs.Question.{truth, AreOne, IsCanonical}
use Rattle.pep508_diagram.proofs.Pairing.{weaker_branches}
use Rattle.pep508_diagram.proofs.Places.{less_from, texts_same}
use Rattle.version_ranges.specs.HashingLaws.{then_equal}
use Rattle.pep508_diagram.proofs.Questions.{asks, versions_order, texts_order, versions_share, texts_share}
use Rattle.pep508_diagram.proofs.Questions.{places_share, no_mixed, version_keys, text_keys, flags_shared}
use Rattle.pep508_diagram.proofs.Keyed.{IsKey, IsAboveAll, truth_chain, canonical_test, canonical_chain}
use Rattle.pep508_diagram.proofs.Keyed.{chain_one}
pub use Rattle.pep508_diagram.proofs.Branching.{all_children, branch_at_child, branch_at_below, branch_at_own}
pub use Rattle.pep508_diagram.proofs.Branching.{child_point}
pub use Rattle.pep508_diagram.proofs.Turns.{turns_held, turns_rise, turns_differ}

pub versions_key : (key : VersionVariable) → IsKey marker version_cmp (VersionBelow key) (λ v. v.version key)
unfolding answer
versions_key key =
    let same : (version_rank key == version_rank key) ≡ true =
    (unsigned_Decides (version_rank key) (version_rank key)).1 refl in
    record {
      order = λ b c. versions_order key key b c same;
      shared = λ b c. versions_share key key b c ∙ same;
      answers = λ v b. refl;
    }

pub texts_key : (key : MarkerValueString) → IsKey marker text_cmp (TextBelow key) (λ v. v.text key)
unfolding answer
texts_key key =
    let same : (text_key_rank key == text_key_rank key) ≡ true =
    (unsigned_Decides (text_key_rank key) (text_key_rank key)).1 refl in
    record {
      order = λ b c. texts_order key key b c same;
      shared = λ b c. texts_share key key b c ∙ same;
      answers = λ v b. refl;
    }

-- ---- roots

-- a diagram that begins behind a question's place begins above the question
pub behind_above : (q : Question) (d : Diagram Question) → RootBehind (place_of q) d → RootAbove marker q d
unfolding question_cmp shares_variable
behind_above q (Leaf b) behind = tt
behind_above q (Test r low high) behind = (
  ap (λ o. ordering_then o (ordering_then
      (slice_cmp (boundary_cmp version_cmp) (version_boundaries q) (version_boundaries r))
      (slice_cmp (boundary_cmp text_cmp) (text_boundaries q) (text_boundaries r)))) behind,
  ap is_eq behind,
)

pub above_behind : (q : Question) (d : Diagram Question) → RootAbove marker q d → RootBehind (place_of q) d
unfolding question_cmp shares_variable
above_behind q (Leaf b) above = tt
above_behind q (Test r low high) above =
    less_from (text_cmp (place_of q) (place_of r))
    (ordering_then (slice_cmp (boundary_cmp version_cmp) (version_boundaries q) (version_boundaries r))
    (slice_cmp (boundary_cmp text_cmp) (text_boundaries q) (text_boundaries r))) above.0 above.1

-- what begins behind one place begins behind each earlier one
pub behind_earlier : (place other : List ℕ) (d : Diagram Question) → text_cmp place other ≡ Less →
    RootBehind other d → RootBehind place d
behind_earlier place other (Leaf b) less behind = tt
behind_earlier place other (Test r low high) less behind =
    nat_list_cmp_total.trans place other (place_of r) less behind

-- diagrams that are one begin at one place
pub one_place : (q r : Question) (low high other_low other_high : Diagram Question) →
    AreOne (Test q low high) (Test r other_low other_high) → place_of q ≡ place_of r
unfolding question_cmp
one_place q r low high other_low other_high a =
    texts_same (place_of q) (place_of r) (then_equal (text_cmp (place_of q) (place_of r))
    (ordering_then (slice_cmp (boundary_cmp version_cmp) (version_boundaries q) (version_boundaries r))
    (slice_cmp (boundary_cmp text_cmp) (text_boundaries q) (text_boundaries r))) a.0).0

-- ---- flags

-- a flag's question over two canonical diagrams behind it that differ
pub canonical_flag : (flag : Flag) (set unset : Diagram Question) → IsCanonical set → IsCanonical unset →
    RootBehind (flag_place flag) set → RootBehind (flag_place flag) unset → (AreOne set unset → ⊥) →
    IsCanonical (Test (IsSet flag) set unset)
canonical_flag flag set unset c d behind unset_behind apart =
    canonical_test marker asks (IsSet flag) set unset c d (behind_above (IsSet flag) set behind)
    (behind_above (IsSet flag) unset unset_behind) apart

pub one_flags : (flag other : Flag) (set unset other_set other_unset : Diagram Question) →
    AreOne (Test (IsSet flag) set unset) (Test (IsSet other) other_set other_unset) → flag ≡ other
one_flags flag other set unset other_set other_unset a =
    flags_shared flag other (places_share (IsSet flag) (IsSet other) a.0)

module _ {C : Type 0} (at : C → Diagram Question) where
  -- ---- keys of versions

  module _ (key : VersionVariable) (first : C) (later : List (Branch VersionRecord C)) where
    -- a chain says what stands at the key's point
    pub truth_chain_versions : (v : Valuation) → truth (chain (VersionBelow key) at first later) v
        ≡ truth (at (branch_at version_cmp first later (v.version key))) v
    truth_chain_versions v = truth_chain version_cmp (versions_key key) at first later v

    above_versions : AllBranches (λ c. RootBehind (version_rank key ∷ []) (at c)) first later →
        AllBranches (λ c. IsAboveAll marker (VersionBelow key) (at c)) first later
    above_versions behind =
        weaker_branches (λ c. RootBehind (version_rank key ∷ []) (at c))
        (λ c. IsAboveAll marker (VersionBelow key) (at c))
        (λ c h b. behind_above (VersionBelow key b) (at c) h) first later behind

    -- rising branches of canonical diagrams behind the key, neighbours of which differ
    pub canonical_chain_versions : RisingBranches version_cmp later →
        AllBranches (λ c. IsCanonical (at c)) first later →
        AllBranches (λ c. RootBehind (version_rank key ∷ []) (at c)) first later →
        NeighboursApart marker at first later →
        IsCanonical (chain (VersionBelow key) at first later)
    canonical_chain_versions rising canonical behind apart =
        canonical_chain asks version_cmp (versions_key key) at first later rising canonical
        (above_versions behind) apart

    -- a chain begins at its key
    pub root_chain_versions : (place : List ℕ) → (later ≡ [] → ⊥) →
        text_cmp place (version_rank key ∷ []) ≡ Less →
        RootBehind place (chain (VersionBelow key) at first later)
    root_chain_versions place some less =
        elim later as (λ l. (l ≡ [] → ⊥) → RootBehind place (chain (VersionBelow key) at first l)) [
          | [] ↦ λ none. absurd (none refl)
          | branch ∷ l ↦ λ none. less
        ] some

    -- two chains of one key that are one have the same branches
    pub chain_one_versions : (other_first : C) (other_later : List (Branch VersionRecord C)) →
        AllBranches (λ c. RootBehind (version_rank key ∷ []) (at c)) first later →
        AllBranches (λ c. RootBehind (version_rank key ∷ []) (at c)) other_first other_later →
        AreOne (chain (VersionBelow key) at first later)
        (chain (VersionBelow key) at other_first other_later) →
        AreSameBranches marker at version_cmp first later other_first other_later
    chain_one_versions other_first other_later behind other_behind a =
        chain_one asks version_cmp (versions_key key) at first later other_first other_later
        (above_versions behind)
        (weaker_branches (λ c. RootBehind (version_rank key ∷ []) (at c))
        (λ c. IsAboveAll marker (VersionBelow key) (at c))
        (λ c h b. behind_above (VersionBelow key b) (at c) h) other_first other_later other_behind) a

  -- ---- keys of texts

  module _ (key : MarkerValueString) (first : C) (later : List (Branch (List ℕ) C)) where
    pub truth_chain_texts : (v : Valuation) → truth (chain (TextBelow key) at first later) v
        ≡ truth (at (branch_at text_cmp first later (v.text key))) v
    truth_chain_texts v = truth_chain text_cmp (texts_key key) at first later v

    above_texts : AllBranches (λ c. RootBehind (text_rank key ∷ []) (at c)) first later →
        AllBranches (λ c. IsAboveAll marker (TextBelow key) (at c)) first later
    above_texts behind =
        weaker_branches (λ c. RootBehind (text_rank key ∷ []) (at c))
        (λ c. IsAboveAll marker (TextBelow key) (at c))
        (λ c h b. behind_above (TextBelow key b) (at c) h) first later behind

    pub canonical_chain_texts : RisingBranches text_cmp later →
        AllBranches (λ c. IsCanonical (at c)) first later →
        AllBranches (λ c. RootBehind (text_rank key ∷ []) (at c)) first later →
        NeighboursApart marker at first later →
        IsCanonical (chain (TextBelow key) at first later)
    canonical_chain_texts rising canonical behind apart =
        canonical_chain asks text_cmp (texts_key key) at first later rising canonical (above_texts behind)
        apart

    pub root_chain_texts : (place : List ℕ) → (later ≡ [] → ⊥) → text_cmp place (text_rank key ∷ []) ≡ Less →
        RootBehind place (chain (TextBelow key) at first later)
    root_chain_texts place some less =
        elim later as (λ l. (l ≡ [] → ⊥) → RootBehind place (chain (TextBelow key) at first l)) [
          | [] ↦ λ none. absurd (none refl)
          | branch ∷ l ↦ λ none. less
        ] some

    pub chain_one_texts : (other_first : C) (other_later : List (Branch (List ℕ) C)) →
        AllBranches (λ c. RootBehind (text_rank key ∷ []) (at c)) first later →
        AllBranches (λ c. RootBehind (text_rank key ∷ []) (at c)) other_first other_later →
        AreOne (chain (TextBelow key) at first later) (chain (TextBelow key) at other_first other_later) →
        AreSameBranches marker at text_cmp first later other_first other_later
    chain_one_texts other_first other_later behind other_behind a =
        chain_one asks text_cmp (texts_key key) at first later other_first other_later (above_texts behind)
        (weaker_branches (λ c. RootBehind (text_rank key ∷ []) (at c))
        (λ c. IsAboveAll marker (TextBelow key) (at c))
        (λ c h b. behind_above (TextBelow key b) (at c) h) other_first other_later other_behind) a

  -- ---- chains of different keys

  pub one_version_keys : (key other : VersionVariable) (first : C) (later : List (Branch VersionRecord C))
      (other_first : C) (other_later : List (Branch VersionRecord C)) → (later ≡ [] → ⊥) →
      (other_later ≡ [] → ⊥) →
      AreOne (chain (VersionBelow key) at first later) (chain (VersionBelow other) at other_first other_later)
      → key ≡ other
  one_version_keys key other first [] other_first m some other_some a = absurd (some refl)
  one_version_keys key other first (b ∷ l) other_first [] some other_some a = absurd (other_some refl)
  one_version_keys key other first (b ∷ l) other_first (c ∷ m) some other_some a =
      version_keys key other b.boundary c.boundary
      (places_share (VersionBelow key b.boundary) (VersionBelow other c.boundary) a.0)

  pub one_text_keys : (key other : MarkerValueString) (first : C) (later : List (Branch (List ℕ) C))
      (other_first : C) (other_later : List (Branch (List ℕ) C)) → (later ≡ [] → ⊥) → (other_later ≡ [] → ⊥) →
      AreOne (chain (TextBelow key) at first later) (chain (TextBelow other) at other_first other_later) →
      key ≡ other
  one_text_keys key other first [] other_first m some other_some a = absurd (some refl)
  one_text_keys key other first (b ∷ l) other_first [] some other_some a = absurd (other_some refl)
  one_text_keys key other first (b ∷ l) other_first (c ∷ m) some other_some a =
      text_keys key other b.boundary c.boundary
      (places_share (TextBelow key b.boundary) (TextBelow other c.boundary) a.0)

  pub versions_not_texts : (key : VersionVariable) (other : MarkerValueString) (first : C)
      (later : List (Branch VersionRecord C)) (other_first : C) (other_later : List (Branch (List ℕ) C)) →
      (later ≡ [] → ⊥) → (other_later ≡ [] → ⊥) →
      AreOne (chain (VersionBelow key) at first later) (chain (TextBelow other) at other_first other_later) →
      ⊥
  versions_not_texts key other first [] other_first m some other_some a = some refl
  versions_not_texts key other first (b ∷ l) other_first [] some other_some a = other_some refl
  versions_not_texts key other first (b ∷ l) other_first (c ∷ m) some other_some a =
      no_mixed (VersionBelow key b.boundary) (TextBelow other c.boundary) tt
      (places_share (VersionBelow key b.boundary) (TextBelow other c.boundary) a.0)

  pub versions_not_flag : (key : VersionVariable) (flag : Flag) (first : C)
      (later : List (Branch VersionRecord C))
      (set unset : Diagram Question) → (later ≡ [] → ⊥) →
      AreOne (chain (VersionBelow key) at first later) (Test (IsSet flag) set unset) → ⊥
  versions_not_flag key flag first [] set unset some a = some refl
  versions_not_flag key flag first (b ∷ l) set unset some a =
      no_mixed (VersionBelow key b.boundary) (IsSet flag) tt
      (places_share (VersionBelow key b.boundary) (IsSet flag) a.0)

  pub texts_not_flag : (key : MarkerValueString) (flag : Flag) (first : C) (later : List (Branch (List ℕ) C))
      (set unset : Diagram Question) → (later ≡ [] → ⊥) →
      AreOne (chain (TextBelow key) at first later) (Test (IsSet flag) set unset) → ⊥
  texts_not_flag key flag first [] set unset some a = some refl
  texts_not_flag key flag first (b ∷ l) set unset some a =
      no_mixed (TextBelow key b.boundary) (IsSet flag) tt
      (places_share (TextBelow key b.boundary) (IsSet flag) a.0)
