-- Each child of a node stands at some valuation, which can be one that differs in the node's variable alone.
use Rattle.std.proofs.Common.{◌≡◌, inl, inr, ℕ, ◌<◌, Bool, true, false, cond, List, [], ◌∷◌, refl, ap, sym}
use Rattle.std.proofs.Common.{◌∙◌}
use Rattle.std.specs.Ordering.{is_eq}
use Rattle.std.specs.Cmp.{unsigned_Decides, tied_itself}
use Rattle.std.specs.Cmp.Lexicographic.{nat_list_cmp_total}
use Rattle.version_ranges.specs.declared.boundary.Boundary.{Boundary}
use Rattle.version_ranges.specs.Point.{Point}
use Rattle.pep440_version.specs.OrderLaws.{version_cmp_total}
use Rattle.pep440_text.specs.Record.{VersionRecord}
use Rattle.pep440_version.specs.Order.{version_cmp}
use Rattle.pep508_marker.specs.declared.keys.MarkerValueString.{MarkerValueString}
use Rattle.pep508_marker.specs.Keys.{text_key_rank}
use Rattle.pep508_diagram.specs.declared.variable.VersionVariable.{VersionVariable}
use Rattle.pep508_diagram.specs.declared.variable.Flag.{Flag}
use Rattle.pep508_diagram.specs.Text.{text_cmp}
use Rattle.pep508_diagram.specs.Branches.{branch_at}
use Rattle.pep508_diagram.specs.Question.{VersionBelow, TextBelow, IsSet, Valuation, version_rank, flag_place}
use Rattle.pep508_diagram.specs.Question.{flag_rank, flag_text, lies_below, with_version, with_text}
use Rattle.pep508_diagram.specs.Question.{with_flag}
use Rattle.pep508_diagram.specs.Question.{shares_variable, answer, marker}
use Rattle.pep508_diagram.proofs.Moved.{DiffersAt}
use Rattle.pep508_diagram.proofs.Questions.{before_differs, versions_share, texts_share}
use Rattle.pep508_diagram.proofs.Chains.{child_point}
use Rattle.pep508_tree.specs.Tree.{Tree}
use Rattle.pep508_tree.specs.Meaning.{NodeOf, NodeRecord, Versions, Texts, Flagged, holds, IsTree}
use Rattle.pep508_tree.specs.Nodes.{IsChildIn, IsRising, Above, AreSound, chosen, node_place}
use Rattle.pep508_tree.proofs.Meanings.{unmoved}

-- ---- valuations with one variable given

pub version_differs : (v : Valuation) (key : VersionVariable) (p : Point VersionRecord)
    (b : Boundary VersionRecord) → DiffersAt marker (VersionBelow key b) v (with_version v key p)
unfolding answer
version_differs v key p b (VersionBelow j c) free =
    ap (λ same. lies_below version_cmp (cond same p (v.version j)) c) (sym (versions_share key j b c) ∙ free)
version_differs v key p b (TextBelow j c) free = refl
version_differs v key p b (IsSet flag) free = refl

pub text_differs : (v : Valuation) (key : MarkerValueString) (p : Point (List ℕ)) (b : Boundary (List ℕ)) →
    DiffersAt marker (TextBelow key b) v (with_text v key p)
unfolding answer
text_differs v key p b (VersionBelow j c) free = refl
text_differs v key p b (TextBelow j c) free =
    ap (λ same. lies_below text_cmp (cond same p (v.text j)) c) (sym (texts_share key j b c) ∙ free)
text_differs v key p b (IsSet flag) free = refl

pub flag_differs : (v : Valuation) (flag : Flag) (set : Bool) →
    DiffersAt marker (IsSet flag) v (with_flag v flag set)
unfolding answer shares_variable
flag_differs v flag set (VersionBelow j c) free = refl
flag_differs v flag set (TextBelow j c) free = refl
flag_differs v flag set (IsSet other) free = ap (λ same. cond same set (v.flag other)) free

pub version_given : (v : Valuation) (key : VersionVariable) (p : Point VersionRecord) →
    (with_version v key p).version key ≡ p
version_given v key p =
    ap (λ same. cond same p (v.version key)) ((unsigned_Decides (version_rank key) (version_rank key)).1 refl)

pub text_given : (v : Valuation) (key : MarkerValueString) (p : Point (List ℕ)) → (with_text v key p).text key ≡ p
text_given v key p =
    ap (λ same. cond same p (v.text key)) ((unsigned_Decides (text_key_rank key) (text_key_rank key)).1 refl)

pub flag_given : (v : Valuation) (flag : Flag) (set : Bool) → (with_flag v flag set).flag flag ≡ set
flag_given v flag set =
    ap (λ same. cond same set (v.flag flag)) (ap is_eq (tied_itself nat_list_cmp_total (flag_place flag)))

-- a flag of a later kind stays
flag_kept : (v : Valuation) (flag other : Flag) (set : Bool) → flag_rank flag < flag_rank other →
    (with_flag v flag set).flag other ≡ v.flag other
flag_kept v flag other set low =
    ap (λ same. cond same set (v.flag other))
    (before_differs (flag_rank flag) (flag_rank other) (text_cmp (flag_text flag) (flag_text other)) low)

-- ---- children

-- a flag of a later kind than the one that the node asks for, if it asks for one
abbrev pub IsLaterFlag : {C : Type 0} → NodeOf C → Flag → Type 0
IsLaterFlag (Versions key first later) other = Unit {0}
IsLaterFlag (Texts key first later) other = Unit {0}
IsLaterFlag (Flagged flag set unset) other = flag_rank flag < flag_rank other

module _ (nodes : List NodeRecord) (sound : AreSound nodes) (v : Valuation) where
  -- a valuation at which the child stands in the node, and at which all trees behind the node's variable hold
  -- and all flags of later kinds are as at v
  pub record StandsAt {C : Type 0} (n : NodeOf C) (c : C) (w : Valuation) : Type 0 where
    pub stands : chosen n w ≡ c
    pub still : (t : Tree) → IsTree nodes t → Above nodes (node_place n) t → holds nodes t w ≡ holds nodes t v
    pub flags : (other : Flag) → IsLaterFlag n other → w.flag other ≡ v.flag other

  flag_moved : {C : Type 0} (flag : Flag) (set unset : C) (side : Bool) (c : C) → cond side set unset ≡ c →
      (w : Valuation) × StandsAt (Flagged flag set unset) c w
  flag_moved flag set unset side c is = (
    with_flag v flag side,
    record {
      stands = ap (λ b. cond b set unset) (flag_given v flag side) ∙ is;
      still = λ t made above.
          unmoved nodes sound (IsSet flag) t made above v (with_flag v flag side)
          (flag_differs v flag side);
      flags = λ other later. flag_kept v flag other side later;
    },
  )

  pub moved_to : {C : Type 0} (n : NodeOf C) → IsRising n → (c : C) → IsChildIn c n →
      (w : Valuation) × StandsAt n c w
  moved_to (Versions key first []) rising c is =
      (v, record { stands = sym is; still = λ t made above. refl; flags = λ other later. refl })
  moved_to (Versions key first (branch ∷ later)) rising c is =
      let point = child_point version_cmp_total first (branch ∷ later) c rising is in
      let w = with_version v key point.0 in (
        w,
        record {
          stands = ap (branch_at version_cmp first (branch ∷ later)) (version_given v key point.0) ∙ point.1;
          still = λ t made above.
              unmoved nodes sound (VersionBelow key branch.boundary) t made above v w
              (version_differs v key point.0 branch.boundary);
          flags = λ other later. refl;
        },
      )
  moved_to (Texts key first []) rising c is =
      (v, record { stands = sym is; still = λ t made above. refl; flags = λ other later. refl })
  moved_to (Texts key first (branch ∷ later)) rising c is =
      let point = child_point nat_list_cmp_total first (branch ∷ later) c rising is in
      let w = with_text v key point.0 in (
        w,
        record {
          stands = ap (branch_at text_cmp first (branch ∷ later)) (text_given v key point.0) ∙ point.1;
          still = λ t made above.
              unmoved nodes sound (TextBelow key branch.boundary) t made above v w
              (text_differs v key point.0 branch.boundary);
          flags = λ other later. refl;
        },
      )
  moved_to (Flagged flag set unset) rising c (inl is) = flag_moved flag set unset true c (sym is)
  moved_to (Flagged flag set unset) rising c (inr is) = flag_moved flag set unset false c (sym is)
