-- Pairs of what stands in two nodes of one variable.
use Rattle.std.proofs.Common.{◌≡◌, ℕ, List, refl, ap, sym, subst, arith, Equal, nat_cmp}
use Rattle.pep440_text.specs.Record.{VersionRecord}
use Rattle.pep440_version.specs.Order.{version_cmp}
use Rattle.version_ranges.specs.Point.{Point}
use Rattle.pep508_marker.specs.declared.keys.MarkerValueString.{MarkerValueString}
use Rattle.pep508_diagram.specs.declared.branch.Branch.{Branch}
use Rattle.pep508_diagram.specs.declared.variable.VersionVariable.{VersionVariable}
use Rattle.pep508_diagram.specs.Text.{text_cmp}
use Rattle.pep508_diagram.specs.Branches.{RisingBranches, branch_at, AllBranches}
use Rattle.pep508_diagram.specs.Chains.{IsChild}
use Rattle.pep508_diagram.specs.declared.variable.Flag.{Flag}
use Rattle.pep508_diagram.specs.Question.{version_rank, text_rank, flag_rank}
use Rattle.pep508_diagram.proofs.Places.{numbers_same, texts_same, versions_same, text_keys_same, flags_same}
use Rattle.pep508_diagram.proofs.Places.{version_rank_below, rank_below, flag_rank_from}
use Rattle.version_ranges.specs.HashingLaws.{then_equal}
use Rattle.pep508_tree.specs.Tree.{Tree}
use Rattle.pep508_tree.specs.Meaning.{NodeRecord, Versions, Texts, Flagged}
use Rattle.pep508_tree.specs.Nodes.{counterpart, Paired, node_rank, node_text, node_place, first_child}
use Rattle.pep508_tree.specs.Nodes.{second_child, version_branches, text_branches}

pub versions_paired : (a : NodeRecord) (key : VersionVariable) (own : Tree)
    (later : List (Branch VersionRecord Tree))
    (first : Tree) (versions : List (Branch VersionRecord Tree)) (texts : List (Branch (List ℕ) Tree))
    (second : Tree)
    (pairs : List (Branch VersionRecord (Tree × Tree))) → Versions key own later ≡ a →
    ((p : Point VersionRecord) → branch_at version_cmp (own, first) pairs p
    ≡ (branch_at version_cmp own later p, branch_at version_cmp first versions p)) →
    RisingBranches version_cmp pairs →
    AllBranches (λ pair. IsChild pair.0 own later × IsChild pair.1 first versions) (own, first) pairs →
    Paired a (counterpart a first versions texts second) (Versions key (own, first) pairs)
versions_paired a key own later first versions texts second pairs e points rises children =
    subst (λ (n : NodeRecord). Paired n (counterpart n first versions texts second)
    (Versions key (own, first) pairs)) e
    (record { place_is = refl; rises = rises; chosen_is = λ v. points (v.version key); children = children })

pub texts_paired : (a : NodeRecord) (key : MarkerValueString) (own : Tree)
    (later : List (Branch (List ℕ) Tree))
    (first : Tree) (versions : List (Branch VersionRecord Tree)) (texts : List (Branch (List ℕ) Tree))
    (second : Tree)
    (pairs : List (Branch (List ℕ) (Tree × Tree))) → Texts key own later ≡ a →
    ((p : Point (List ℕ)) → branch_at text_cmp (own, first) pairs p
    ≡ (branch_at text_cmp own later p, branch_at text_cmp first texts p)) →
    RisingBranches text_cmp pairs →
    AllBranches (λ pair. IsChild pair.0 own later × IsChild pair.1 first texts) (own, first) pairs →
    Paired a (counterpart a first versions texts second) (Texts key (own, first) pairs)
texts_paired a key own later first versions texts second pairs e points rises children =
    subst (λ (n : NodeRecord). Paired n (counterpart n first versions texts second)
    (Texts key (own, first) pairs)) e
    (record { place_is = refl; rises = rises; chosen_is = λ v. points (v.text key); children = children })

-- ---- nodes of one variable

version_text : (k : VersionVariable) (j : MarkerValueString) → version_rank k ≡ text_rank j → ⊥
version_text k j e = omega (arith, version_rank_below k)

version_flag : (k : VersionVariable) (f : Flag) → version_rank k ≡ flag_rank f → ⊥
version_flag k f e = omega (arith, version_rank_below k, flag_rank_from f)

text_flag : (k : MarkerValueString) (f : Flag) → text_rank k ≡ flag_rank f → ⊥
text_flag k f e = omega (arith, rank_below k, flag_rank_from f)

counterpart_by : (a b : NodeRecord) → node_rank a ≡ node_rank b → node_text a ≡ node_text b →
    counterpart a (first_child b) (version_branches b) (text_branches b) (second_child b) ≡ b
counterpart_by (Versions key f l) (Versions other g m) e t = ap (λ k. Versions k g m)
    (versions_same key other e)
counterpart_by (Versions key f l) (Texts other g m) e t = absurd (version_text key other e)
counterpart_by (Versions key f l) (Flagged flag s u) e t = absurd (version_flag key flag e)
counterpart_by (Texts key f l) (Versions other g m) e t = absurd (version_text other key (sym e))
counterpart_by (Texts key f l) (Texts other g m) e t =
    ap (λ k. Texts k g m) (text_keys_same key other (omega arith))
counterpart_by (Texts key f l) (Flagged flag s u) e t = absurd (text_flag key flag e)
counterpart_by (Flagged flag s u) (Versions other g m) e t = absurd (version_flag other flag (sym e))
counterpart_by (Flagged flag s u) (Texts other g m) e t = absurd (text_flag other flag (sym e))
counterpart_by (Flagged flag s u) (Flagged other x y) e t = ap (λ f. Flagged f x y)
    (flags_same flag other e t)

-- a node, with its children taken out and put back
pub counterpart_same : (a b : NodeRecord) → text_cmp (node_place a) (node_place b) ≡ Equal →
    counterpart a (first_child b) (version_branches b) (text_branches b) (second_child b) ≡ b
counterpart_same a b e =
    let parts = then_equal (nat_cmp (node_rank a) (node_rank b)) (text_cmp (node_text a) (node_text b)) e in
    counterpart_by a b (numbers_same (node_rank a) (node_rank b) parts.0)
    (texts_same (node_text a) (node_text b) parts.1)
