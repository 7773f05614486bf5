-- Pairs of what stands in two diagrams, for each answer about a variable.
use Rattle.std.proofs.Common.{◌≡◌, inl, inr, ℕ, Bool, true, false, cond, List, refl, ap, sym, subst}
use Rattle.std.proofs.Common.{arith, Equal, nat_cmp}
use Rattle.version_ranges.specs.HashingLaws.{then_equal}
use Rattle.version_ranges.specs.Point.{Point}
use Rattle.pep440_text.specs.Record.{VersionRecord}
use Rattle.pep440_version.specs.Order.{version_cmp}
use Rattle.pep508_marker.specs.declared.keys.MarkerValueString.{MarkerValueString}
use Rattle.pep508_diagram.specs.declared.branch.Branch.{Branch}
use Rattle.pep508_diagram.specs.declared.variable.VersionVariable.{VersionVariable}
use Rattle.pep508_diagram.specs.declared.variable.Flag.{Flag}
use Rattle.pep508_diagram.specs.Text.{text_cmp}
use Rattle.pep508_diagram.specs.Branches.{RisingBranches, branch_at, AllBranches}
use Rattle.pep508_diagram.specs.Chains.{IsChild}
use Rattle.pep508_diagram.specs.Question.{version_rank, text_rank, flag_rank}
use Rattle.pep508_diagram.proofs.Places.{numbers_same, texts_same, versions_same, text_keys_same, flags_same}
use Rattle.pep508_diagram.proofs.Places.{version_rank_below, rank_below, flag_rank_from}
use Rattle.pep508_tree.specs.Meaning.{NodeOf, Versions, Texts, Flagged}
use Rattle.pep508_tree.specs.Nodes.{IsChildIn, chosen, node_place, node_rank, node_text, first_child, second_child}
use Rattle.pep508_tree.specs.Nodes.{version_branches, text_branches}
use Rattle.pep508_leaf_diagram.specs.declared.child.Child.{Child}
use Rattle.pep508_leaf_diagram.specs.Pairing.{ArePaired, PairedNodes, under}

pub versions_paired : (key : VersionVariable) (f : Child) (l : List (Branch VersionRecord Child)) (g : Child)
    (m : List (Branch VersionRecord Child)) (pairs : List (Branch VersionRecord (Child × Child))) →
    ((p : Point VersionRecord) → branch_at version_cmp (f, g) pairs p
    ≡ (branch_at version_cmp f l p, branch_at version_cmp g m p)) → RisingBranches version_cmp pairs →
    AllBranches (λ pair. IsChild pair.0 f l × IsChild pair.1 g m) (f, g) pairs →
    PairedNodes (Versions key f l) (Versions key g m) (Versions key (f, g) pairs)
versions_paired key f l g m pairs points rises children =
    record { place_is = refl; rises = rises; chosen_is = λ v. points (v.version key); children = children }

pub texts_paired : (key : MarkerValueString) (f : Child) (l : List (Branch (List ℕ) Child)) (g : Child)
    (m : List (Branch (List ℕ) Child)) (pairs : List (Branch (List ℕ) (Child × Child))) →
    ((p : Point (List ℕ)) → branch_at text_cmp (f, g) pairs p
    ≡ (branch_at text_cmp f l p, branch_at text_cmp g m p)) → RisingBranches text_cmp pairs →
    AllBranches (λ pair. IsChild pair.0 f l × IsChild pair.1 g m) (f, g) pairs →
    PairedNodes (Texts key f l) (Texts key g m) (Texts key (f, g) pairs)
texts_paired key f l g m pairs points rises children =
    record { place_is = refl; rises = rises; chosen_is = λ v. points (v.text key); children = children }

both_at : (b : Bool) (s u t w : Child) → ◌≡◌ {A = Child × Child} (cond b (s, t) (u, w)) (cond b s u, cond b t w)
both_at true s u t w = refl
both_at false s u t w = refl

first_at : (b : Bool) (t w c : Child) → ◌≡◌ {A = Child × Child} (cond b (c, t) (c, w)) (c, cond b t w)
first_at true t w c = refl
first_at false t w c = refl

second_at : (b : Bool) (s u c : Child) → ◌≡◌ {A = Child × Child} (cond b (s, c) (u, c)) (cond b s u, c)
second_at true s u c = refl
second_at false s u c = refl

pub flags_paired : (flag : Flag) (s u t w : Child) →
    PairedNodes (Flagged flag s u) (Flagged flag t w) (Flagged flag (s, t) (u, w))
flags_paired flag s u t w = record {
  place_is = refl;
  rises = tt;
  chosen_is = λ v. both_at (v.flag flag) s u t w;
  children = ((inl refl, inl refl), (inr refl, inr refl));
}

pub flags_first : (flag : Flag) (c t w : Child) → ArePaired (node_place (Flagged flag t w)) (λ v. c)
    (chosen (Flagged flag t w)) (λ d. d ≡ c) (λ d. IsChildIn d (Flagged flag t w)) (Flagged flag (c, t) (c, w))
flags_first flag c t w = record {
  place_is = refl;
  rises = tt;
  chosen_is = λ v. first_at (v.flag flag) t w c;
  children = ((refl, inl refl), (refl, inr refl));
}

pub flags_second : (flag : Flag) (s u c : Child) → ArePaired (node_place (Flagged flag s u))
    (chosen (Flagged flag s u)) (λ v. c) (λ d. IsChildIn d (Flagged flag s u)) (λ d. d ≡ c) (Flagged flag (s, c) (u, c))
flags_second flag s u c = record {
  place_is = refl;
  rises = tt;
  chosen_is = λ v. second_at (v.flag flag) s u c;
  children = ((inl refl, refl), (inr refl, refl));
}

-- ---- nodes of one variable

version_text : (k : VersionVariable) (j : MarkerValueString) → version_rank k ≡ text_rank j → ⊥
version_text k j e = omega (arith, version_rank_below k)

version_flag : (k : VersionVariable) (f : Flag) → version_rank k ≡ flag_rank f → ⊥
version_flag k f e = omega (arith, version_rank_below k, flag_rank_from f)

text_flag : (k : MarkerValueString) (f : Flag) → text_rank k ≡ flag_rank f → ⊥
text_flag k f e = omega (arith, rank_below k, flag_rank_from f)

same_rank : (n m : NodeOf Child) → text_cmp (node_place n) (node_place m) ≡ Equal →
    (node_rank n ≡ node_rank m) × (node_text n ≡ node_text m)
same_rank n m e =
    let parts = then_equal (nat_cmp (node_rank n) (node_rank m)) (text_cmp (node_text n) (node_text m)) e in
    (numbers_same (node_rank n) (node_rank m) parts.0, texts_same (node_text n) (node_text m) parts.1)

-- the children of a node under the variable of another one
abbrev pub put_under : NodeOf Child → NodeOf Child → NodeOf Child
put_under n m = under n (first_child m) (version_branches m) (text_branches m) (second_child m)

under_by : (n m : NodeOf Child) → node_rank n ≡ node_rank m → node_text n ≡ node_text m → put_under n m ≡ m
under_by (Versions key f l) (Versions other g m) e t = ap (λ k. Versions k g m) (versions_same key other e)
under_by (Versions key f l) (Texts other g m) e t = absurd (version_text key other e)
under_by (Versions key f l) (Flagged flag s u) e t = absurd (version_flag key flag e)
under_by (Texts key f l) (Versions other g m) e t = absurd (version_text other key (sym e))
under_by (Texts key f l) (Texts other g m) e t = ap (λ k. Texts k g m) (text_keys_same key other (omega arith))
under_by (Texts key f l) (Flagged flag s u) e t = absurd (text_flag key flag e)
under_by (Flagged flag s u) (Versions other g m) e t = absurd (version_flag other flag (sym e))
under_by (Flagged flag s u) (Texts other g m) e t = absurd (text_flag other flag (sym e))
under_by (Flagged flag s u) (Flagged other x y) e t = ap (λ f. Flagged f x y) (flags_same flag other e t)

pub under_same : (n m : NodeOf Child) → text_cmp (node_place n) (node_place m) ≡ Equal → put_under n m ≡ m
under_same n m e = let parts = same_rank n m e in under_by n m parts.0 parts.1

pub paired_under : (n m : NodeOf Child) (pairs : NodeOf (Child × Child)) →
    text_cmp (node_place n) (node_place m) ≡ Equal → PairedNodes n (put_under n m) pairs → PairedNodes n m pairs
paired_under n m pairs e p = subst (λ other. PairedNodes n other pairs) (under_same n m e) p
