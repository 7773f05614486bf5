-- Groups of what stands between boundaries, before and after each thing is shown as another one.
use Rattle.std.proofs.Common.{◌≡◌, Bool, true, false, not, cond, List, [], ◌∷◌, map, refl, ap, ◌∙◌}
use Rattle.std.specs.List.{AllByRecursion, filter}
use Rattle.version_ranges.specs.Boundaries.{turns_of}
use Rattle.version_ranges.specs.Turns.{flips}
use Rattle.pep508_diagram.specs.declared.branch.Branch.{Branch}
use Rattle.pep508_diagram.specs.Branches.{AllBranches}
use Rattle.pep508_marker_text_laws.specs.Groups.{firsts, standing, turning, points_where}
use Rattle.pep508_marker_text_laws.proofs.Where.{firsts_all}

-- the branch with its child shown
abbrev pub shown_branch : {T A B : Type 0} → (A → B) → Branch T A → Branch T B
shown_branch show branch = record { boundary = branch.boundary; child = show branch.child }

first_of : {T A : Type 0} (P : A → Type 0) (c : A) (later : List (Branch T A)) → AllBranches P c later → P c
first_of P c [] h = h
first_of P c (branch ∷ later) h = h.0

children_shown : {T A B : Type 0} (show : A → B) (later : List (Branch T A)) →
    map (λ branch. branch.child) (map (shown_branch show) later) ≡ map show (map (λ branch. branch.child) later)
children_shown show [] = refl
children_shown show (branch ∷ later) = ap (λ cs. show branch.child ∷ cs) (children_shown show later)

pub standing_shown : {T : Type 0} {A B : Type 0} (show : A → B) (first : A) (later : List (Branch T A)) →
    standing (show first) (map (shown_branch show) later) ≡ map show (standing first later)
standing_shown show first later = ap (λ cs. show first ∷ cs) (children_shown show later)

module _ {A B : Type 0} (show : A → B) (same : A → A → Bool) (other : B → B → Bool) (P : A → Type 0)
    (alike : (x y : A) → P x → P y → other (show x) (show y) ≡ same x y) where
  cond_shown : (b : Bool) (xs ys : List A) → cond b (map show xs) (map show ys) ≡ map show (cond b xs ys)
  cond_shown true xs ys = refl
  cond_shown false xs ys = refl

  filter_shown : (x : A) → P x → (ys : List A) → AllByRecursion P ys →
      filter (λ z. not (other (show x) z)) (map show ys) ≡ map show (filter (λ z. not (same x z)) ys)
  filter_shown x p [] ps = refl
  filter_shown x p (y ∷ ys) ps =
      (λ i. cond (not (alike x y p ps.0 i)) (show y ∷ filter_shown x p ys ps.1 i) (filter_shown x p ys ps.1 i))
      ∙ cond_shown (not (same x y)) (y ∷ filter (λ z. not (same x z)) ys) (filter (λ z. not (same x z)) ys)

  pub firsts_shown : (xs : List A) → AllByRecursion P xs →
      firsts other (map show xs) ≡ map show (firsts same xs)
  firsts_shown [] ps = refl
  firsts_shown (x ∷ xs) ps =
      ap (λ zs. show x ∷ zs)
      (ap (filter (λ z. not (other (show x) z))) (firsts_shown xs ps.1)
      ∙ filter_shown x ps.0 (firsts same xs) (firsts_all P same xs ps.1))

  module _ {T : Type 0} (x : A) (p : P x) where
    turning_shown : (held shown_held : Bool) → shown_held ≡ held → (first : A) (later : List (Branch T A)) →
        AllBranches P first later →
        turning (other (show x)) shown_held (map (shown_branch show) later) ≡ turning (same x) held later
    turning_shown held shown_held e first [] ps = refl
    turning_shown held shown_held e first (branch ∷ later) ps =
        let is = alike x branch.child p (first_of P branch.child later ps.1) in
        let here = turning_shown (same x branch.child) (other (show x) (show branch.child)) is branch.child later ps.1 in
        let beyond = turning_shown held shown_held e branch.child later ps.1 in λ i.
        cond (flips (e i) (is i)) (branch.boundary ∷ here i) (beyond i)

    pub points_shown : (first : A) (later : List (Branch T A)) → AllBranches P first later →
        points_where (other (show x)) (show first) (map (shown_branch show) later)
        ≡ points_where (same x) first later
    points_shown first later ps =
        let is = alike x first p (first_of P first later ps) in
        λ i. turns_of (is i)
        (turning_shown (same x first) (other (show x) (show first)) is first later ps i)
