-- Groups by package: what is in them, and the rows of them.
use Rattle.std.proofs.Common.{◌≡◌, ℕ, ◌+◌, ◌<◌, ◌≤◌, take, get_or, Bor, Bool, true, false, cond, ◌&&◌, ◌||◌}
use Rattle.std.proofs.Common.{List, [], ◌∷◌, ◌++◌, All, filter, map, length, refl, sym, ap, subst, arith}
use Rattle.std.proofs.Common.{append-nil, append_assoc, Option, Some, is_some, true≢false, ◌∙◌}
use Rattle.std.proofs.lemmas.List.{length-map, get_or-map, length-take-le, take_more, map-append}
use Rattle.std.proofs.lemmas.List.Elements.{filter-append, All-nil, All-cons}
use Rattle.std.proofs.lemmas.List.FromFn.{length-enumerate_from, get_or-enumerate_from}
use Rattle.std.specs.List.{list_any, list_all, enumerate_from, AllByRecursion}
use Rattle.std.specs.Str.{bytes_eq}
use Rattle.std.specs.Map.{update}
use Rattle.std.specs.Option.{option_map_or}
use Rattle.std.specs.BTreeMap.{BTreeMap}
use Rattle.pep508_requirement_text.specs.FrontReading.{Front}
use Rattle.reqtable_candidates.specs.declared.candidates.Candidate.{Candidate}
use Rattle.reqtable_answer.specs.declared.choosing.Numbered.{Numbered}
use Rattle.reqtable_answer.specs.declared.grouping.Group.{Group}
use Rattle.reqtable_answer.specs.declared.ask.Ask.{Ask}
use Rattle.reqtable_answer.specs.Asks.{is_of, is_candidate}
use Rattle.reqtable_answer.specs.Answer.{Admits, RowRecord, IsRowOf, IsRow}
use Rattle.reqtable_answer.specs.declared.answer.Row.{Row}
use Rattle.reqtable_answer.specs.Rows.{row_seen}
use Rattle.reqtable_answer.specs.Says.{ask_seen, asks_seen}
use Rattle.reqtable_answer.proofs.Tests.{same_bytes}
use Rattle.reqtable_answer.specs.Groups.{group_of, has_group, candidates_for, numbered_seen}

-- ---- filters

all_kept_by : {X : Type 0} (p : X → Bool) (x : X) (xs : List X) (b : Bool) → p x ≡ b → list_all p xs ≡ true
    → list_all p (cond b (x ∷ xs) xs) ≡ true
all_kept_by p x xs true h rest = λ i. h i && rest i
all_kept_by p x xs false h rest = rest

-- what a filter keeps passes
pub all_pass : {X : Type 0} (p : X → Bool) (xs : List X) → list_all p (filter p xs) ≡ true
all_pass p [] = refl
all_pass p (x ∷ xs) = all_kept_by p x (filter p xs) (p x) refl (all_pass p xs)

-- and where something passes, it keeps something
some_in : {X : Type 0} (ys : List X) (p : X → Bool) → list_any p ys ≡ true → 0 < length ys
some_in [] p h = absurd (cc)
some_in (y ∷ ys) p h = omega arith

any_in_kept_by : {X : Type 0} (p : X → Bool) (x : X) (xs : List X) (b : Bool) → p x ≡ b → list_any p (filter p xs) ≡ list_any p xs
    → list_any p (cond b (x ∷ filter p xs) (filter p xs)) ≡ list_any p (x ∷ xs)
any_in_kept_by p x xs true h rest = ap (λ b. p x || b) rest
any_in_kept_by p x xs false h rest = rest ∙ sym (ap (λ b. b || list_any p xs) h)

any_in_kept : {X : Type 0} (p : X → Bool) (xs : List X) → list_any p (filter p xs) ≡ list_any p xs
any_in_kept p [] = refl
any_in_kept p (x ∷ xs) = any_in_kept_by p x xs (p x) refl (any_in_kept p xs)

pub some_kept : {X : Type 0} (p : X → Bool) (xs : List X) → list_any p xs ≡ true → 0 < length (filter p xs)
some_kept p xs h = some_in (filter p xs) p (any_in_kept p xs ∙ h)

-- ---- numbered candidates

numbered_more : {X : Type 0} (n : ℕ) (xs : List X) (x : X) → enumerate_from n (xs ++ x ∷ []) ≡ enumerate_from n xs ++ (n + length xs, x) ∷ []
numbered_more {X = X} n [] x =
    let same : n ≡ n + 0 = omega arith in
    let one : ℕ → List (ℕ × X) = λ m. (m, x) ∷ [] in
    ap one same
numbered_more {X = X} n (y ∷ ys) x =
    let same : n + 1 + length ys ≡ n + length (y ∷ ys) = omega arith in
    let behind : ℕ → List (ℕ × X) = λ m. (n, y) ∷ (enumerate_from (n + 1) ys ++ (m, x) ∷ []) in
    ap (λ l. (n, y) ∷ l) (numbered_more (n + 1) ys x) ∙ ap behind same

-- one more of a list
pub numbered_taken : {X : Type 0} (xs : List X) (i : ℕ) (x : X) → i < length xs → x ≡ get_or xs i x
    → enumerate_from 0 (take (i + 1) xs) ≡ enumerate_from 0 (take i xs) ++ (i, x) ∷ []
numbered_taken {X = X} xs i x h is =
    let within : i ≤ length xs = omega arith in
    let before = take i xs in
    let at : 0 + length before ≡ i = (let e = length-take-le i xs within in omega arith) in
    let one : ℕ → List (ℕ × X) = λ m. enumerate_from 0 before ++ (m, x) ∷ [] in
    ap (enumerate_from 0) (take_more xs i x h ∙ ap (λ y. before ++ y ∷ []) (sym is)) ∙ numbered_more 0 before x ∙ ap one at

pub places_below : {X : Type 0} (xs : List X) → All (λ c. c.0 < length xs) (enumerate_from 0 xs)
places_below xs = λ k d h.
    let within : k < length xs = subst (λ n. k < n) (length-enumerate_from 0 xs) h in
    let at : 0 + k < length xs = omega arith in
    subst (λ c. c.0 < length xs) (sym (get_or-enumerate_from 0 xs k d within)) at

-- the places of some of them
pub below_of : (n : ℕ) (found : List Numbered) (ys : List (ℕ × Candidate)) → map numbered_seen found ≡ ys → All (λ c. c.0 < n) ys → All (λ c. c.place < n) found
below_of n found ys same all = λ k d h.
    let mapped : All (λ c. c.0 < n) (map numbered_seen found) = subst (All (λ c. c.0 < n)) (sym same) all in
    subst (λ c. c.0 < n) (get_or-map numbered_seen found k d (numbered_seen d) h) (mapped k (numbered_seen d) (subst (λ m. k < m) (sym (length-map found numbered_seen)) h))

-- ---- candidates of the packages that have a group

and_false : (a : Bool) → (a && false) ≡ false
and_false true = refl
and_false false = refl

module _ (has : List ℕ → Bool) (q : List ℕ) (xs : List Candidate) (i : ℕ) (x : Candidate) (within : i < length xs) (is : x ≡ get_or xs i x) where
  abbrev kept : List (ℕ × Candidate) → List (ℕ × Candidate)
  kept = filter (λ c. has q && is_candidate q c)

  -- one more candidate of those whose packages have a group
  pub one_more : (before old new : List (ℕ × Candidate)) → old ≡ before ++ kept (enumerate_from 0 (take i xs)) → new ≡ old ++ kept ((i, x) ∷ [])
      → new ≡ before ++ kept (enumerate_from 0 (take (i + 1) xs))
  one_more before old new h added =
      let one : List (ℕ × Candidate) = kept ((i, x) ∷ []) in
      added ∙ ap (λ l. l ++ one) h ∙ append_assoc before (kept (enumerate_from 0 (take i xs))) one
      ∙ ap (λ l. before ++ l)
      (sym (ap kept (numbered_taken xs i x within is) ∙ filter-append (λ c. has q && is_candidate q c) (enumerate_from 0 (take i xs)) ((i, x) ∷ [])))

-- ---- one group changes

turned : (a b : List ℕ) (v : Bool) → bytes_eq b a ≡ v → bytes_eq a b ≡ false → bytes_eq b a ≡ false
turned a b true h k =
    let e = same_bytes b a h in
    let both : bytes_eq b a ≡ bytes_eq a b = (λ i. bytes_eq (e i) (sym e i)) in
    absurd (true≢false (sym h ∙ both ∙ k))
turned a b false h k = h

module _ (old new : BTreeMap (Bor (List ℕ)) Group) (name : List ℕ) (before : Option Group) (after : Group)
    (got : group_of old name ≡ before)
    (changed : (q : List ℕ) → group_of new q ≡ update bytes_eq (group_of old) name (Some after) q) where
  -- what is the same of the group before and after it
  pub kept_as : {Y : Type 0} (f : Option Group → Y) → f (Some after) ≡ f before → (q : List ℕ) (b : Bool) → bytes_eq name q ≡ b
      → f (group_of new q) ≡ f (group_of old q)
  kept_as f same q true h =
      ap f (changed q) ∙ ap (λ b. f (cond b (Some after) (group_of old q))) h ∙ same ∙ ap f (sym got)
      ∙ ap (λ n. f (group_of old n)) (same_bytes name q h)
  kept_as f same q false h = ap f (changed q) ∙ ap (λ b. f (cond b (Some after) (group_of old q))) h

  -- what changes of it
  pub changed_as : {Y : Type 0} (f : Option Group → Y) (q : List ℕ) → bytes_eq name q ≡ true → f (group_of new q) ≡ f (Some after)
  changed_as f q h = ap f (changed q) ∙ ap (λ b. f (cond b (Some after) (group_of old q))) h

  abbrev listed : Option Group → List (ℕ × Candidate)
  listed found = option_map_or (λ g. map numbered_seen g.candidates.items) found []

  -- one more candidate of the package
  pub one_added : (n : ℕ × Candidate) → n.1.name ≡ name → is_some before ≡ true → listed (Some after) ≡ listed before ++ n ∷ []
      → (q : List ℕ) (b : Bool) → bytes_eq name q ≡ b
      → candidates_for new q ≡ candidates_for old q ++ cond (has_group old q && is_candidate q n) (n ∷ []) []
  one_added n named there grown q true h =
      let e = same_bytes name q h in
      let same : before ≡ group_of old q = sym got ∙ ap (group_of old) e in
      let its : bytes_eq q n.1.name ≡ true = ap (bytes_eq q) (named ∙ e) ∙ subst (λ z. bytes_eq z q ≡ true) e h in
      changed_as listed q h ∙ grown ∙ ap (λ found. listed found ++ n ∷ []) same
      ∙ (λ i. listed (group_of old q) ++ cond (sym (ap is_some (sym same) ∙ there) i && sym its i) (n ∷ []) [])
  one_added n named there grown q false h =
      let others : bytes_eq q n.1.name ≡ false = ap (bytes_eq q) named ∙ turned name q (bytes_eq q name) refl h in
      ap listed (changed q) ∙ ap (λ b. listed (cond b (Some after) (group_of old q))) h ∙ sym (append-nil (candidates_for old q))
      ∙ ap (λ b. candidates_for old q ++ cond b (n ∷ []) []) (sym (ap (λ b. has_group old q && b) others ∙ and_false (has_group old q)))

-- ---- what is asked of one package

-- a package that has a group is asked for
pub group_some : (p : Front → Bool) (all : List Front) (group given : List Ask) → given ≡ group → asks_seen group ≡ filter p all
    → list_any p all ≡ true → 0 < length given
group_some p all group given same is h =
    let seen : 0 < length (asks_seen group) = subst (λ l. 0 < length l) (sym is) (some_kept p all h) in
    subst (λ l. 0 < length l) (sym same) (subst (λ n. 0 < n) (length-map group ask_seen) seen)

both_true : (a b : Bool) → (a && b) ≡ true → a ≡ true
both_true true b h = refl
both_true false b h = absurd (cc)

-- the first of them has their name
pub first_named : (q : List ℕ) (asks : List Ask) (d : Ask) → 0 < length asks
    → list_all (is_of q) (asks_seen asks) ≡ true → (get_or asks 0 d).name.now ≡ q
first_named q [] d h all = absurd (omega arith)
first_named q (a ∷ asks) d h all =
    sym (same_bytes q a.name.now (both_true (bytes_eq q a.name.now) (list_all (is_of q) (asks_seen asks)) all))

-- ---- rows

pub row_is : (admits : Admits) (all : List Front) (candidates : List Candidate) (group : List Front) (numbered : List (ℕ × Candidate)) (row : RowRecord)
    → group ≡ filter (is_of row.name) all → numbered ≡ filter (is_candidate row.name) (enumerate_from 0 candidates)
    → IsRowOf admits group numbered row → IsRow admits all candidates row
row_is admits all candidates group numbered row g n is =
    let by_asks = subst (λ asks. IsRowOf admits asks numbered row) g is in
    subst (λ own. IsRowOf admits (filter (is_of row.name) all) own row) n by_asks

pub rows_more : (P : RowRecord → Type 0) (rows : List RowRecord) (row : RowRecord) → AllByRecursion P rows → P row → AllByRecursion P (rows ++ row ∷ [])
rows_more P [] row all one = (one, tt)
rows_more P (r ∷ rows) row all one = (all.0, rows_more P rows row all.1 one)

-- ---- one more row

pub more_names : {E : Type 0} (rows new : List RowRecord) (row : RowRecord) (named : E → List ℕ) (entries : List E) (entry : E) → new ≡ rows ++ row ∷ []
    → map (λ r. r.name) rows ≡ map named entries → row.name ≡ named entry → map (λ r. r.name) new ≡ map named (entries ++ entry ∷ [])
more_names rows new row named entries entry grown before one =
    let name : RowRecord → List ℕ = λ r. r.name in
    ap (map name) grown ∙ map-append name rows (row ∷ []) ∙ ap (λ l. l ++ row.name ∷ []) before ∙ ap (λ n. map named entries ++ n ∷ []) one
    ∙ sym (map-append named entries (entry ∷ []))

pub more_rows : (P : RowRecord → Type 0) (rows new : List RowRecord) (row : RowRecord) → new ≡ rows ++ row ∷ []
    → AllByRecursion P rows → P row → AllByRecursion P new
more_rows P rows new row grown all one = subst (AllByRecursion P) (sym grown) (rows_more P rows row all one)

pub all_rows : (P : RowRecord → Type 0) (rows : List Row) → AllByRecursion P (map row_seen rows) → All (λ row. P (row_seen row)) rows
all_rows P [] h = All-nil (λ row. P (row_seen row))
all_rows P (row ∷ rows) h = All-cons (λ row. P (row_seen row)) row rows h.0 (all_rows P rows h.1)
