-- A walk over steps that wait, each behind the terms of a path.
use Rattle.std.proofs.Common.{◌≡◌, ℕ, zero, suc, ◌+◌, ◌<◌, ◌≤◌, List, [], ◌∷◌, ◌++◌, map, take, reverse}
use Rattle.std.proofs.Common.{length, length-append}
use Rattle.std.proofs.Common.{refl, sym, ap, ap₂, subst, ◌∙◌, append_assoc, append-nil, arith}
use Rattle.std.proofs.Math.Seq.{take-length}
use Rattle.std.proofs.lemmas.List.{map-append, reverse-append, take-append-le, length-take-le}
use Rattle.std.specs.List.{AllByRecursion, filter}
use Rattle.pep508_marker_text_laws.specs.Clauses.{clauses_of}
use Rattle.pep508_marker_text_laws.specs.Saying.{Clause}
use Rattle.pep508_marker_text_laws.specs.Simplified.{has_some}
use Rattle.pep508_tree.specs.Tree.{Tree, always}
use Rattle.pep508_tree.specs.Meaning.{NodeRecord, diagram_of, IsTree}
use Rattle.pep508_tree.specs.Nodes.{AreSound}
use Rattle.pep508_tree.specs.Roots.{root_of}
use Rattle.pep508_marker_display.specs.declared.clause_walk.Pending.{Pending}
use Rattle.pep508_marker_display.specs.Steps.{StepRecord, step_of, root_steps, clauses_by, behind}
use Rattle.pep508_marker_display.specs.Pending.{all_at, waits_shown}
use Rattle.pep508_marker_display.proofs.Adding.{behind_both, behind_append, behind_nothing}
use Rattle.pep508_marker_display.proofs.Stepping.{AllLead, always_clauses, steps_fall, steps_lead}

-- ---- lists

take_within : {A : Type 0} (m n : ℕ) (xs : List A) → m ≤ n → take m (take n xs) ≡ take m xs
take_within zero n xs less = refl
take_within (suc m) zero xs less = absurd (omega arith)
take_within (suc m) (suc n) [] less = refl
take_within (suc m) (suc n) (x ∷ xs) less = ap (λ ys. x ∷ ys) (take_within m n xs (omega arith))

module _ {C : Type 0} (P : C → Type 0) where
  pub all_append : (xs ys : List C) → AllByRecursion P xs → AllByRecursion P ys → AllByRecursion P (xs ++ ys)
  all_append [] ys p q = q
  all_append (x ∷ xs) ys p q = (p.0, all_append xs ys p.1 q)

  pub all_before : (xs : List C) (x : C) → AllByRecursion P (xs ++ x ∷ []) → AllByRecursion P xs × P x
  all_before [] x all = (tt, all.0)
  all_before (y ∷ xs) x all = let later = all_before xs x all.1 in ((all.0, later.0), later.1)

  all_reverse : (xs : List C) → AllByRecursion P xs → AllByRecursion P (reverse xs)
  all_reverse [] all = tt
  all_reverse (x ∷ xs) all =
      subst (AllByRecursion P) (sym (reverse-append (x ∷ []) xs))
      (all_append (reverse xs) (x ∷ []) (all_reverse xs all.1) (all.0, tt))

pub all_weaker : {C : Type 0} (P Q : C → Type 0) → ((x : C) → P x → Q x) → (xs : List C) → AllByRecursion P xs →
    AllByRecursion Q xs
all_weaker P Q so [] p = tt
all_weaker P Q so (x ∷ xs) p = (so x p.0, all_weaker P Q so xs p.1)

all_of_depth : (P : ℕ × StepRecord → Type 0) (depth : ℕ) (steps : List StepRecord) →
    AllByRecursion (λ step. P (depth, step)) steps → AllByRecursion P (all_at depth steps)
all_of_depth P depth [] all = tt
all_of_depth P depth (step ∷ steps) all = (all.0, all_of_depth P depth steps all.1)

all_so : {C : Type 0} (P : C → Type 0) → ((x : C) → P x) → (xs : List C) → AllByRecursion P xs
all_so P so [] = tt
all_so P so (x ∷ xs) = (so x, all_so P so xs)

-- ---- depths: none above those that come later

abbrev pub Nested : List (ℕ × StepRecord) → Type 0
Nested [] = Unit {0}
Nested (w ∷ ws) = AllByRecursion (λ later. w.0 ≤ later.0) ws × Nested ws

nested_before : (ws : List (ℕ × StepRecord)) (w : ℕ × StepRecord) → Nested (ws ++ w ∷ []) →
    Nested ws × AllByRecursion (λ v. v.0 ≤ w.0) ws
nested_before [] w nested = (tt, tt)
nested_before (v ∷ ws) w nested =
    let here = all_before (λ later. v.0 ≤ later.0) ws w nested.0 in
    let later = nested_before ws w nested.1 in ((here.0, later.0), (here.1, later.1))

nested_level : (depth : ℕ) (steps : List StepRecord) → Nested (all_at depth steps)
nested_level depth [] = tt
nested_level depth (step ∷ steps) = (
  all_of_depth (λ later. depth ≤ later.0) depth steps (all_so (λ s. depth ≤ depth) (λ s. omega arith) steps),
  nested_level depth steps,
)

nested_more : (ws : List (ℕ × StepRecord)) (depth : ℕ) (steps : List StepRecord) → Nested ws →
    AllByRecursion (λ w. w.0 ≤ depth) ws → Nested (ws ++ all_at depth steps)
nested_more [] depth steps nested within = nested_level depth steps
nested_more (w ∷ ws) depth steps nested within = (
  all_append (λ later. w.0 ≤ later.0) ws (all_at depth steps) nested.0
      (all_of_depth (λ later. w.0 ≤ later.0) depth steps (all_so (λ s. w.0 ≤ depth) (λ s. within.0) steps)),
  nested_more ws depth steps nested.1 within.1,
)

-- ---- steps that are taken from the end of a list

pub one_moved : (depth : ℕ) (before after : List (ℕ × StepRecord)) (left rest : List StepRecord)
    (step : StepRecord) → left ≡ rest ++ step ∷ [] → after ≡ before ++ (depth, step) ∷ [] →
    after ++ all_at depth (reverse rest) ≡ before ++ all_at depth (reverse left)
one_moved depth before after left rest step taken put =
    ap (λ ws. ws ++ all_at depth (reverse rest)) put
    ∙ append_assoc before ((depth, step) ∷ []) (all_at depth (reverse rest))
    ∙ ap (λ steps. before ++ all_at depth steps)
    (sym (reverse-append rest (step ∷ [])) ∙ ap reverse (sym taken))

pub last_shown : (whole rest : List Pending) (last : Pending) → whole ≡ rest ++ last ∷ [] →
    waits_shown whole ≡ waits_shown rest ++ (last.depth, step_of last.step) ∷ []
last_shown whole rest last e =
    ap waits_shown e ∙ map-append (λ (p : Pending). (p.depth, step_of p.step)) rest (last ∷ [])

module _ (nodes : List NodeRecord) where
  -- ---- the clauses that waiting steps lead to

  abbrev clauses_at : Tree → List Clause
  clauses_at tree = clauses_of (diagram_of nodes tree)

  -- behind the terms of a path; those of the last step first
  abbrev pub awaited : Clause → List (ℕ × StepRecord) → List Clause
  awaited path [] = []
  awaited path (w ∷ ws) = awaited path ws ++ behind (take w.0 path ++ w.1.clause) (clauses_at w.1.tree)

  awaited_append : (path : Clause) (ws more : List (ℕ × StepRecord)) →
      awaited path (ws ++ more) ≡ awaited path more ++ awaited path ws
  awaited_append path [] more = sym (append-nil (awaited path more))
  awaited_append path (w ∷ ws) more =
      let here = behind (take w.0 path ++ w.1.clause) (clauses_at w.1.tree) in
      ap (λ front. front ++ here) (awaited_append path ws more)
      ∙ append_assoc (awaited path more) (awaited path ws) here

  awaited_same : (path other : Clause) (n : ℕ) → take n other ≡ take n path → (ws : List (ℕ × StepRecord)) →
      AllByRecursion (λ w. w.0 ≤ n) ws → awaited other ws ≡ awaited path ws
  awaited_same path other n same [] within = refl
  awaited_same path other n same (w ∷ ws) within =
      let front : take w.0 other ≡ take w.0 path =
      sym (take_within w.0 n other within.0) ∙ ap (take w.0) same ∙ take_within w.0 n path within.0 in
      ap₂ (λ later terms. later ++ behind (terms ++ w.1.clause) (clauses_at w.1.tree))
      (awaited_same path other n same ws within.1) front

  -- those of the steps of a node
  awaited_steps : (path : Clause) (steps : List StepRecord) →
      awaited path (all_at (length path) (reverse steps)) ≡ behind path (clauses_by clauses_at steps)
  awaited_steps path [] = refl
  awaited_steps path (step ∷ steps) =
      let n = length path in
      ap (λ ss. awaited path (all_at n ss)) (reverse-append (step ∷ []) steps)
      ∙ ap (awaited path) (map-append (λ s. (n, s)) (reverse steps) (step ∷ []))
      ∙ awaited_append path (all_at n (reverse steps)) ((n, step) ∷ [])
      ∙ ap₂ (λ one later. one ++ later)
      (ap (λ front. behind (front ++ step.clause) (clauses_at step.tree)) (take-length path)
      ∙ behind_both path step.clause (clauses_at step.tree))
      (awaited_steps path steps)
      ∙ sym (behind_append path (map (λ clause. step.clause ++ clause) (clauses_at step.tree))
      (clauses_by clauses_at steps))

  -- ---- the work that is left: how many steps paths have

  abbrev pub total : (Tree → ℕ) → List StepRecord → ℕ
  total f [] = 0
  total f (step ∷ steps) = f step.tree + total f steps

  pub size : ℕ → Tree → ℕ
  size zero tree = 1
  size (suc n) tree = suc (total (λ t. size n t) (root_steps (root_of nodes tree)))

  total_most : (f g : Tree → ℕ) → ((t : Tree) → f t ≤ g t) → (steps : List StepRecord) → total f steps ≤ total g steps
  total_most f g most [] = omega arith
  total_most f g most (step ∷ steps) = omega (arith, most step.tree, total_most f g most steps)

  size_more : (m n : ℕ) (tree : Tree) → m ≤ n → size m tree ≤ size n tree
  unfolding size
  size_more zero zero tree less = omega arith
  size_more zero (suc n) tree less = omega arith
  size_more (suc m) zero tree less = absurd (omega arith)
  size_more (suc m) (suc n) tree less =
      let within : m ≤ n = omega arith in
      omega (
        arith,
        total_most (λ t. size m t) (λ t. size n t) (λ t. size_more m n t within)
            (root_steps (root_of nodes tree)),
      )

  abbrev pub weight : Tree → ℕ
  weight tree = size tree.place tree

  below_most : (p : ℕ) (steps : List StepRecord) → AllLead (λ t. t.place ≤ p) steps →
      total weight steps ≤ total (λ t. size p t) steps
  below_most p [] all = omega arith
  below_most p (step ∷ steps) all =
      omega (arith, size_more step.tree.place p step.tree all.0, below_most p steps all.1)

  pub steps_weigh : (p : ℕ) (tree : Tree) (steps : List StepRecord) → AllLead (λ t. t.place < p) steps →
      steps ≡ root_steps (root_of nodes tree) → total weight steps < size p tree
  unfolding size
  steps_weigh zero tree [] all is = omega arith
  steps_weigh zero tree (step ∷ steps) all is = absurd (omega (arith, all.0))
  steps_weigh (suc p) tree steps all is =
      let most = below_most p steps
      (all_weaker (λ step. step.tree.place < suc p) (λ step. step.tree.place ≤ p) (λ step h. omega (arith, h))
      steps all) in
      omega (arith, most, ap (λ ss. total (λ t. size p t) ss) is)

  pub work : List (ℕ × StepRecord) → ℕ
  work [] = 0
  work (w ∷ ws) = weight w.1.tree + work ws

  work_append : (ws more : List (ℕ × StepRecord)) → work (ws ++ more) ≡ work ws + work more
  unfolding work
  work_append [] more = omega arith
  work_append (w ∷ ws) more = omega (arith, work_append ws more)

  work_steps : (depth : ℕ) (steps : List StepRecord) → work (all_at depth (reverse steps)) ≡ total weight steps
  unfolding work
  work_steps depth [] = refl
  work_steps depth (step ∷ steps) =
      let cut : work (all_at depth (reverse (step ∷ steps)))
      ≡ work (all_at depth (reverse steps)) + work ((depth, step) ∷ []) =
      ap (λ ss. work (all_at depth ss)) (reverse-append (step ∷ []) steps)
      ∙ ap work (map-append (λ s. (depth, s)) (reverse steps) (step ∷ []))
      ∙ work_append (all_at depth (reverse steps)) ((depth, step) ∷ []) in
      omega (arith, cut, work_steps depth steps)

  pub size_some : (n : ℕ) (tree : Tree) → 0 < size n tree
  unfolding size
  size_some zero tree = omega arith
  size_some (suc n) tree = omega arith

  -- ---- where the walk stands

  pub record IsWalk (whole : List Clause) (path : Clause) (waiting : List (ℕ × StepRecord))
      (found : List Clause) : Type 0 where
    pub made : AllByRecursion (λ w. IsTree nodes w.1.tree) waiting
    pub nested : Nested waiting
    pub within : AllByRecursion (λ w. w.0 ≤ length path) waiting
    pub clauses_are : found ++ awaited path waiting ≡ whole

  pub walk_begins : (tree : Tree) (path : Clause) (waiting : List (ℕ × StepRecord)) (found : List Clause) →
      IsTree nodes tree → path ≡ [] → waiting ≡ (0, record { clause = []; tree = tree }) ∷ [] → found ≡ [] →
      IsWalk (filter has_some (clauses_at tree)) path waiting found
  walk_begins tree path waiting found made none one nothing =
      let whole = filter has_some (clauses_at tree) in
      let first : List (ℕ × StepRecord) = (0, record { clause = []; tree = tree }) ∷ [] in
      subst (λ p. IsWalk whole p waiting found) (sym none)
      (subst (λ ws. IsWalk whole [] ws found) (sym one)
      (subst (IsWalk whole [] first) (sym nothing) (record {
        made = (made, tt);
        nested = (tt, tt);
        within = (omega arith, tt);
        clauses_are = behind_nothing (clauses_at tree);
      })))

  pub walk_ended : (whole : List Clause) (path : Clause) (waiting : List (ℕ × StepRecord)) (found : List Clause) →
      IsWalk whole path waiting found → waiting ≡ [] → found ≡ whole
  walk_ended whole path waiting found walk none =
      sym (append-nil found) ∙ ap (λ ws. found ++ awaited path ws) (sym none) ∙ walk.clauses_are

  module _ (whole : List Clause) (path : Clause) (waiting rest : List (ℕ × StepRecord)) (next : ℕ × StepRecord)
      (found : List Clause) (walk : IsWalk whole path waiting found) (taken : waiting ≡ rest ++ next ∷ [])
      (on : Clause) (goes : on ≡ take next.0 path ++ next.1.clause) where
    nested_rest : Nested rest × AllByRecursion (λ v. v.0 ≤ next.0) rest
    nested_rest = nested_before rest next (subst Nested taken walk.nested)

    made_rest : AllByRecursion (λ w. IsTree nodes w.1.tree) rest × IsTree nodes next.1.tree
    made_rest = all_before (λ w. IsTree nodes w.1.tree) rest next
        (subst (AllByRecursion (λ w. IsTree nodes w.1.tree)) taken walk.made)

    next_within : next.0 ≤ length path
    next_within = (all_before (λ w. w.0 ≤ length path) rest next
        (subst (AllByRecursion (λ w. w.0 ≤ length path)) taken walk.within)).1

    pub next_made : IsTree nodes next.1.tree
    next_made = made_rest.1

    front_long : length (take next.0 path) ≡ next.0
    front_long = length-take-le next.0 path next_within

    front_same : take next.0 on ≡ take next.0 path
    front_same =
        ap (take next.0) goes
        ∙ take-append-le next.0 (take next.0 path) next.1.clause (omega (arith, front_long))
        ∙ take_within next.0 next.0 path (omega arith)

    longer : next.0 ≤ length on
    longer = omega (arith, front_long, ap length goes, length-append (take next.0 path) next.1.clause)

    rest_within : AllByRecursion (λ w. w.0 ≤ length on) rest
    rest_within =
        all_weaker (λ w. w.0 ≤ next.0) (λ w. w.0 ≤ length on) (λ w h. omega (arith, h, longer)) rest nested_rest.1

    -- the clauses of the last step come next
    next_first : found ++ (behind on (clauses_at next.1.tree) ++ awaited on rest) ≡ whole
    next_first =
        ap₂ (λ terms later. found ++ (behind terms (clauses_at next.1.tree) ++ later)) goes
        (awaited_same path on next.0 front_same rest nested_rest.1)
        ∙ ap (λ all. found ++ all) (sym (awaited_append path rest (next ∷ [])))
        ∙ ap (λ ws. found ++ awaited path ws) (sym taken) ∙ walk.clauses_are

    less_work : work rest < work waiting
    unfolding work
    less_work = omega (arith, ap work taken, work_append rest (next ∷ []), size_some next.1.tree.place next.1.tree)

    pub walk_told : (now : List Clause) → next.1.tree ≡ always → now ≡ found ++ filter has_some (on ∷ []) →
        IsWalk whole on rest now
    walk_told now is added = record {
      made = made_rest.0;
      nested = nested_rest.0;
      within = rest_within;
      clauses_are =
          ap (λ front. front ++ awaited on rest)
          (added ∙ ap (λ more. found ++ more) (always_clauses nodes next.1.tree is on))
          ∙ append_assoc found (behind on (clauses_at next.1.tree)) (awaited on rest) ∙ next_first;
    }

    pub work_told : work rest < work waiting
    work_told = less_work

    module _ (sound : AreSound nodes) (steps : List StepRecord)
        (are : steps ≡ root_steps (root_of nodes next.1.tree)) (new : List (ℕ × StepRecord))
        (put : new ≡ rest ++ all_at (length on) (reverse steps)) where
      fall : AllLead (λ t. IsTree nodes t × (t.place < next.1.tree.place)) steps
      fall = steps_fall nodes sound next.1.tree next_made steps are

      pub walk_on : (next.1.tree ≡ always → ⊥) → IsWalk whole on new found
      walk_on other =
          let n = length on in
          let more = all_at n (reverse steps) in
          let M : ℕ × StepRecord → Type 0 = λ w. IsTree nodes w.1.tree in
          subst (λ ws. IsWalk whole on ws found) (sym put) (record {
            made = all_append M rest more made_rest.0
                (all_of_depth M n (reverse steps)
                (all_reverse (λ s. IsTree nodes s.tree) steps
                (all_weaker (λ s. IsTree nodes s.tree × (s.tree.place < next.1.tree.place)) (λ s. IsTree nodes s.tree)
                (λ s h. h.0) steps fall)));
            nested = nested_more rest n (reverse steps) nested_rest.0 rest_within;
            within = all_append (λ w. w.0 ≤ n) rest more rest_within
                (all_of_depth (λ w. w.0 ≤ n) n (reverse steps) (all_so (λ s. n ≤ n) (λ s. omega arith) (reverse steps)));
            clauses_are =
                ap (λ all. found ++ all) (awaited_append on rest more
                ∙ ap (λ front. front ++ awaited on rest)
                (awaited_steps on steps ∙ ap (behind on) (steps_lead nodes sound next.1.tree next_made steps are other)))
                ∙ next_first;
          })

      pub work_on : work new < work waiting
      unfolding work
      work_on =
          let n = length on in
          let less = steps_weigh next.1.tree.place next.1.tree steps
          (all_weaker (λ s. IsTree nodes s.tree × (s.tree.place < next.1.tree.place))
          (λ s. s.tree.place < next.1.tree.place) (λ s h. h.1) steps fall) are in
          omega (
            arith,
            less,
            ap work put,
            work_append rest (all_at n (reverse steps)),
            work_steps n steps,
            ap work taken,
            work_append rest (next ∷ []),
          )
