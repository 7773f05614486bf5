-- The clauses of a canonical diagram that asks something have a comparison.
use Rattle.std.proofs.Common.{◌≡◌, ◌⊎◌, ℕ, ◌==◌, Bool, true, false, not, cond, List, [], ◌∷◌, map, inl, inr}
use Rattle.std.proofs.Common.{refl, sym, subst, ◌∙◌, true≢false}
use Rattle.std.proofs.lemmas.Bool.{cases_Bool, false≢true}
use Rattle.std.specs.List.{filter, flat_map}
use Rattle.version_ranges.specs.declared.boundary.Boundary.{Boundary}
use Rattle.version_ranges.specs.Turns.{flips}
use Rattle.pep440_text.specs.Record.{VersionRecord}
use Rattle.pep508_marker.specs.declared.keys.MarkerValueString.{MarkerValueString}
use Rattle.pep508_marker.specs.Expression.{ExpressionRecord}
use Rattle.pep508_marker.specs.Keys.{text_key_rank}
use Rattle.pep508_diagram.specs.declared.branch.Branch.{Branch}
use Rattle.pep508_diagram.specs.declared.variable.VersionVariable.{VersionVariable}
use Rattle.pep508_diagram.specs.declared.variable.Flag.{Flag}
use Rattle.pep508_diagram.specs.Diagram.{Diagram, Leaf, Test, front_by}
use Rattle.pep508_diagram.specs.Question.{Question, VersionBelow, TextBelow, IsSet, version_rank}
use Rattle.pep508_diagram.specs.Question.{shares_variable, marker, AreOne, IsCanonical}
use Rattle.pep508_diagram.proofs.Alike.{alike_itself, alike_back}
use Rattle.pep508_diagram.proofs.Questions.{asks, versions_share, texts_share, mixed_apart}
use Rattle.pep508_marker_text_laws.specs.Clauses.{Part, same_part, group_clauses, grouped_clauses, versions_from}
use Rattle.pep508_marker_text_laws.specs.Clauses.{texts_from, walk_of, clauses_of}
use Rattle.pep508_marker_text_laws.specs.Groups.{firsts, standing, turning, points_where}
use Rattle.pep508_marker_text_laws.specs.SameDiagrams.{same_diagram}
use Rattle.pep508_marker_text_laws.specs.Saying.{Clause, Saying, set_clauses}
use Rattle.pep508_marker_text_laws.specs.Simplified.{has_some}
use Rattle.pep508_marker_text_laws.specs.Terms.{version_saying, text_saying, set_term, unset_term}
use Rattle.pep508_marker_text_laws.proofs.SameDiagrams.{same_are_one, same_itself}
use Rattle.pep508_marker_text_laws.proofs.Walks.{walk_diagram}
use Rattle.pep508_reading_back.proofs.WritableSimplified.{IsSome, any_some}
use Rattle.pep508_reading_back.proofs.WritableSets.{HasTerm, term_behind, term_in_front, followed_term}
use Rattle.pep508_reading_back.proofs.WritableSets.{set_term_some, first_turn}

-- ---- groups

module _ {T : Type 0} (say : Saying T) (first : Part) (branch : Branch T Part) (later : List (Branch T Part))
  where
    -- the clauses of a part that stands at the first boundary's one side alone
    group_term : (part : Part) → flips (same_part part first) (same_part part branch.child) ≡ true →
        IsSome part.clauses → HasTerm (group_clauses say first (branch ∷ later) part)
    group_term part turns some =
        let test = same_part part in
        followed_term part.clauses (set_clauses say (points_where test first (branch ∷ later))) some
        (subst (λ set. HasTerm (set_clauses say set)) (sym (first_turn test first branch later turns))
        (set_term_some say (test first) branch.boundary (turning test (test branch.child) later)))

    -- what stands first has clauses
    first_group : same_part first branch.child ≡ false → IsSome first.clauses →
        HasTerm (grouped_clauses say first (branch ∷ later))
    first_group apart some =
        let others = filter (λ part. not (same_part first part))
        (firsts same_part (standing branch.child later)) in
        let turns : flips (same_part first first) (same_part first branch.child) ≡ true =
        λ i. flips (same_itself first.diagram i) (apart i) in
        term_in_front (group_clauses say first (branch ∷ later) first)
        (flat_map (group_clauses say first (branch ∷ later)) others) (group_term first turns some)

    -- what stands next has clauses
    next_group : same_part first branch.child ≡ false → same_part branch.child first ≡ false →
        IsSome branch.child.clauses → HasTerm (grouped_clauses say first (branch ∷ later))
    next_group apart back some =
        let group = group_clauses say first (branch ∷ later) in
        let next = branch.child in
        let more = filter (λ part. not (same_part first part))
        (filter (λ part. not (same_part next part)) (firsts same_part (map (λ b. b.child) later))) in
        let turns : flips (same_part next first) (same_part next next) ≡ true =
        λ i. flips (back i) (same_itself next.diagram i) in
        term_behind (group first)
        (flat_map group (cond (not (same_part first next)) (next ∷ more) more))
        (subst (λ same. HasTerm (flat_map group (cond (not same) (next ∷ more) more))) (sym apart)
        (term_in_front (group next) (flat_map group more) (group_term next turns some)))

-- ---- parts of diagrams

-- a diagram has clauses, unless it never holds
abbrev IsFull : Diagram Question → Type 0
IsFull d = IsSome (clauses_of d) ⊎ (d ≡ Leaf false)

abbrev IsFullBelow : Diagram Question → Type 0
IsFullBelow (Leaf b) = Unit {0}
IsFullBelow (Test q low high) = IsFull low

front_full : (q : Question) (d : Diagram Question) → IsFull d → IsFullBelow d → IsFull (front_by marker q d)
front_full q (Leaf b) h k = h
front_full q (Test r low high) h k = front_one (shares_variable q r)
  where
    front_one : (shared : Bool) → IsFull (cond shared low (Test r low high))
    front_one true = k
    front_one false = h

-- the branch behind a question stands at its boundary, and has the part of what follows there
record Follows {T : Type 0} (boundary : Boundary T) (front : Diagram Question) (later : List (Branch T Part))
    : Type 0 where
  more : List (Branch T Part)
  is : later ≡ record { boundary = boundary; child = (walk_of front).part } ∷ more

-- by whether the next question is of the same variable
follows : {T : Type 0} (boundary : Boundary T) (low d : Diagram Question) (more : List (Branch T Part))
    (shared same : Bool) → shared ≡ same →
    Follows boundary (cond shared low d)
    (cond same (record { boundary = boundary; child = (walk_of low).part } ∷ more)
    (record { boundary = boundary; child = (walk_of d).part } ∷ []))
follows boundary low d more true true e = record { more = more; is = refl }
follows boundary low d more false false e = record { more = []; is = refl }
follows boundary low d more true false e = absurd (true≢false e)
follows boundary low d more false true e = absurd (false≢true e)

alone : {T : Type 0} (boundary : Boundary T) (low d : Diagram Question) (shared : Bool) → shared ≡ false →
    Follows boundary (cond shared low d) (record { boundary = boundary; child = (walk_of d).part } ∷ [])
alone boundary low d true e = absurd (true≢false e)
alone boundary low d false e = record { more = []; is = refl }

versions_follow : (key : VersionVariable) (b : Boundary VersionRecord) (high : Diagram Question) →
    Follows b (front_by marker (VersionBelow key b) high)
    (versions_from key b (walk_of high) (walk_of high).edges)
versions_follow key b (Leaf c) = record { more = []; is = refl }
versions_follow key b (Test (VersionBelow other c) low high) =
    follows b low (Test (VersionBelow other c) low high)
    (versions_from other c (walk_of high) (walk_of high).edges)
    (shares_variable (VersionBelow key b) (VersionBelow other c)) (version_rank key == version_rank other)
    (versions_share key other b c)
versions_follow key b (Test (TextBelow other c) low high) =
    alone b low (Test (TextBelow other c) low high) (shares_variable (VersionBelow key b) (TextBelow other c))
    (mixed_apart (VersionBelow key b) (TextBelow other c) tt)
versions_follow key b (Test (IsSet flag) low high) =
    alone b low (Test (IsSet flag) low high) (shares_variable (VersionBelow key b) (IsSet flag))
    (mixed_apart (VersionBelow key b) (IsSet flag) tt)

texts_follow : (key : MarkerValueString) (b : Boundary (List ℕ)) (high : Diagram Question) →
    Follows b (front_by marker (TextBelow key b) high) (texts_from key b (walk_of high) (walk_of high).edges)
texts_follow key b (Leaf c) = record { more = []; is = refl }
texts_follow key b (Test (TextBelow other c) low high) =
    follows b low (Test (TextBelow other c) low high)
    (texts_from other c (walk_of high) (walk_of high).edges)
    (shares_variable (TextBelow key b) (TextBelow other c)) (text_key_rank key == text_key_rank other)
    (texts_share key other b c)
texts_follow key b (Test (VersionBelow other c) low high) =
    alone b low (Test (VersionBelow other c) low high)
    (shares_variable (TextBelow key b) (VersionBelow other c))
    (mixed_apart (TextBelow key b) (VersionBelow other c) tt)
texts_follow key b (Test (IsSet flag) low high) =
    alone b low (Test (IsSet flag) low high) (shares_variable (TextBelow key b) (IsSet flag))
    (mixed_apart (TextBelow key b) (IsSet flag) tt)

-- ---- edges

parts_apart : (d e : Diagram Question) → (AreOne d e → ⊥) →
    same_part (walk_of d).part (walk_of e).part ≡ false
parts_apart d e apart = elim (cases_Bool (same_part (walk_of d).part (walk_of e).part)) [
  | inl same ↦
      let one : same_diagram d e ≡ true =
      sym (λ i. same_diagram (walk_diagram d i) (walk_diagram e i)) ∙ same in
      absurd (apart (same_are_one d e one))
  | inr differ ↦ differ
]

-- edges from a diagram to another one that differs
edges_term : {T : Type 0} (say : Saying T) (boundary : Boundary T) (low front : Diagram Question)
    (later : List (Branch T Part)) → Follows boundary front later → (AreOne low front → ⊥) → IsFull low →
    IsFull front → HasTerm (grouped_clauses say (walk_of low).part later)
edges_term say boundary low front later f apart (inl some) k =
    subst (λ branches. HasTerm (grouped_clauses say (walk_of low).part branches)) (sym f.is)
    (first_group say (walk_of low).part (record { boundary = boundary; child = (walk_of front).part }) f.more
    (parts_apart low front apart) some)
edges_term say boundary low front later f apart (inr never) (inl some) =
    subst (λ branches. HasTerm (grouped_clauses say (walk_of low).part branches)) (sym f.is)
    (next_group say (walk_of low).part (record { boundary = boundary; child = (walk_of front).part }) f.more
    (parts_apart low front apart) (parts_apart front low (λ one. apart (alike_back asks front low one))) some)
edges_term say boundary low front later f apart (inr never) (inr neither) =
    absurd (apart (subst (λ d. AreOne low d) (never ∙ sym neither) (alike_itself asks low)))

-- ---- flags

headed_term : (term : ExpressionRecord) (clauses : List Clause) → IsSome clauses →
    HasTerm (map (λ clause. term ∷ clause) clauses)
headed_term term [] h = absurd (false≢true h)
headed_term term (clause ∷ clauses) h = refl

flags_term : (flag : Flag) (low high : Diagram Question) → IsFull low → IsFull high →
    (AreOne low (front_by marker (IsSet flag) high) → ⊥) → HasTerm (clauses_of (Test (IsSet flag) low high))
flags_term flag low high (inl some) k apart =
    term_in_front (map (λ clause. set_term flag ∷ clause) (clauses_of low))
    (map (λ clause. unset_term flag ∷ clause) (clauses_of high))
    (headed_term (set_term flag) (clauses_of low) some)
flags_term flag low high (inr never) (inl some) apart =
    term_behind (map (λ clause. set_term flag ∷ clause) (clauses_of low))
    (map (λ clause. unset_term flag ∷ clause) (clauses_of high))
    (headed_term (unset_term flag) (clauses_of high) some)
flags_term flag low high (inr never) (inr neither) apart =
    absurd (subst (λ d. AreOne d (Leaf false) → ⊥) never
    (subst (λ d. AreOne low (front_by marker (IsSet flag) d) → ⊥) neither apart) refl)

-- ---- diagrams

test_term : (q : Question) (low high : Diagram Question) → IsCanonical (Test q low high) → IsFull low →
    IsFull high → IsFullBelow high → HasTerm (clauses_of (Test q low high))
test_term (VersionBelow key b) low high c l h k =
    edges_term (version_saying key) b low (front_by marker (VersionBelow key b) high)
    (versions_from key b (walk_of high) (walk_of high).edges) (versions_follow key b high) c.4 l
    (front_full (VersionBelow key b) high h k)
test_term (TextBelow key b) low high c l h k =
    edges_term (text_saying key) b low (front_by marker (TextBelow key b) high)
    (texts_from key b (walk_of high) (walk_of high).edges) (texts_follow key b high) c.4 l
    (front_full (TextBelow key b) high h k)
test_term (IsSet flag) low high c l h k = flags_term flag low high l h c.4

all_full : (d : Diagram Question) → IsCanonical d → IsFull d × IsFullBelow d
all_full (Leaf true) c = (inl refl, tt)
all_full (Leaf false) c = (inr refl, tt)
all_full (Test q low high) c =
    let l = all_full low c.0 in
    let h = all_full high c.1 in
    (inl (any_some has_some (clauses_of (Test q low high)) (test_term q low high c l.0 h.0 h.1)), l.0)

pub some_term : (q : Question) (low high : Diagram Question) → IsCanonical (Test q low high) →
    HasTerm (clauses_of (Test q low high))
some_term q low high c =
    let l = all_full low c.0 in
    let h = all_full high c.1 in
    test_term q low high c l.0 h.0 h.1
