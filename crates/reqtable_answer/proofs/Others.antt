-- A row's text goes by its own package's candidates alone.
use Rattle.std.proofs.Common.{◌≡◌, ℕ, ◌+◌, Bool, true, false, cond, not, ◌&&◌, List, [], ◌∷◌, ◌++◌, Option}
use Rattle.std.proofs.Common.{Some, None, filter, map, find, option_map, codes, refl, sym, ap, length}
use Rattle.std.proofs.Common.{append_assoc, length-append, arith, ◌∙◌}
use Rattle.std.specs.Option.{option_map_or}
use Rattle.std.specs.List.{list_all, list_any, enumerate_from, slice_get, AllByRecursion}
use Rattle.std.specs.Ordering.{is_gt}
use Rattle.std.specs.Str.{bytes_eq}
use Rattle.std.specs.declared.cmp.Ordering.{Ordering}
use Rattle.std.proofs.lemmas.List.Folds.{list_all-map}
use Rattle.pep440_version.specs.Order.{version_cmp}
use Rattle.pep440_version.specs.Print.{version_text}
use Rattle.pep508_requirement_text.specs.FrontReading.{Front}
use Rattle.reqtable_candidates.specs.declared.candidates.Candidate.{Candidate}
use Rattle.reqtable_answer.specs.declared.answer.Outcome.{Outcome}
use Rattle.reqtable_answer.specs.declared.answer.Outcome.TheVariants.{Direct}
use Rattle.reqtable_answer.specs.Asks.{is_of, has_url, ask_takes, names_prerelease, is_candidate}
use Rattle.reqtable_answer.specs.Asks.{may_be_taken}
use Rattle.reqtable_answer.specs.Answer.{Admits, RowRecord, IsRow, outcome_of, chosen, first_greatest}
use Rattle.reqtable_answer.specs.Answer.{by_version, outcome_text, extras_text, row_text}
use Rattle.reqtable_answer.proofs.OneAnswer.{same_texts}

-- ---- places

kept_by : {X : Type 0} (P : X → Type 0) (b : Bool) (x : X) (xs : List X) → P x → AllByRecursion P xs → AllByRecursion P (cond b (x ∷ xs) xs)
kept_by P true x xs one all = (one, all)
kept_by P false x xs one all = all

all_kept : {X : Type 0} (P : X → Type 0) (p : X → Bool) (xs : List X) → AllByRecursion P xs → AllByRecursion P (filter p xs)
all_kept P p [] all = tt
all_kept P p (x ∷ xs) all = kept_by P (p x) x (filter p xs) all.0 (all_kept P p xs all.1)

-- what is found is one of them
abbrev IfFound : {X : Type 0} → (X → Type 0) → Option X → Type 0
IfFound P None = Unit {0}
IfFound P (Some x) = P x

found_by : {X : Type 0} (P : X → Type 0) (b : Bool) (x : X) (rest : Option X) → P x → IfFound P rest → IfFound P (cond b (Some x) rest)
found_by P true x rest one all = one
found_by P false x rest one all = all

found : {X : Type 0} (P : X → Type 0) (p : X → Bool) (xs : List X) → AllByRecursion P xs → IfFound P (find p xs)
found P p [] all = tt
found P p (x ∷ xs) all = found_by P (p x) x (find p xs) all.0 (found P p xs all.1)

-- behind a front of some length, a place has its value
at_place : {X : Type 0} (front : List X) (x : X) (back : List X) → slice_get (front ++ x ∷ back) (length front) ≡ Some x
at_place [] x back = refl
at_place (y ∷ front) x back = at_place front x back

places_hold : {X : Type 0} (all front xs : List X) (n : ℕ) → all ≡ front ++ xs → n ≡ length front
    → AllByRecursion (λ c. slice_get all c.0 ≡ Some c.1) (enumerate_from n xs)
places_hold all front [] n a l = tt
places_hold {X = X} all front (x ∷ xs) n a l =
    let here : slice_get all n ≡ Some x = (λ i. slice_get (a i) (l i)) ∙ at_place front x xs in
    let longer : n + 1 ≡ length (front ++ x ∷ []) = (let e = length-append front (x ∷ []) in omega arith) in
    (here, places_hold all (front ++ x ∷ []) xs (n + 1) (a ∙ sym (append_assoc front (x ∷ []) xs)) longer)

-- ---- values without their places

mapped_by : {X Y : Type 0} (g : X → Y) (b : Bool) (x : X) (xs : List X) (ys : List Y) → map g xs ≡ ys
    → map g (cond b (x ∷ xs) xs) ≡ cond b (g x ∷ ys) ys
mapped_by g true x xs ys h = ap (λ l. g x ∷ l) h
mapped_by g false x xs ys h = h

values_kept : {X : Type 0} (test : X → Bool) (xs : List (ℕ × X))
    → map {A = ℕ × X} (λ c. c.1) (filter (λ c. test c.1) xs) ≡ filter test (map (λ c. c.1) xs)
values_kept test [] = refl
values_kept {X = X} test (x ∷ xs) =
    let value : ℕ × X → X = λ c. c.1 in
    mapped_by value (test x.1) x (filter (λ c. test c.1) xs) (filter test (map value xs)) (values_kept test xs)

values : {X : Type 0} (n : ℕ) (xs : List X) → map {A = ℕ × X} (λ c. c.1) (enumerate_from n xs) ≡ xs
values n [] = refl
values n (x ∷ xs) = ap (λ l. x ∷ l) (values (n + 1) xs)

find_by : {X Y : Type 0} (g : X → Y) (b : Bool) (x : X) (rest : Option X) (other : Option Y) → option_map g rest ≡ other
    → option_map g (cond b (Some x) rest) ≡ cond b (Some (g x)) other
find_by g true x rest other h = refl
find_by g false x rest other h = h

find_mapped : {X Y : Type 0} (g : X → Y) (p : Y → Bool) (xs : List X) → option_map g (find (λ x. p (g x)) xs) ≡ find p (map g xs)
find_mapped g p [] = refl
find_mapped g p (x ∷ xs) = find_by g (p (g x)) x (find (λ y. p (g y)) xs) (find p (map g xs)) (find_mapped g p xs)

abbrev cmp : Candidate → Candidate → Ordering
cmp a b = version_cmp a.version b.version

abbrev value : ℕ × Candidate → Candidate
value c = c.1

greatest_value : (xs : List (ℕ × Candidate)) → option_map value (first_greatest by_version xs) ≡ first_greatest cmp (map value xs)
greatest_value xs =
    let least : Candidate → Bool = λ z. list_all (λ y. not (is_gt (cmp y z))) (map value xs) in
    let step : (x : ℕ × Candidate) → list_all (λ y. not (is_gt (by_version y x))) xs ≡ least (value x) =
    λ x. sym (list_all-map (λ y. not (is_gt (cmp y (value x)))) value xs) in
    (λ i. option_map value (find (λ x. step x i) xs)) ∙ find_mapped value least xs

-- ---- texts

abbrev text_of : Option Candidate → List ℕ
text_of None = codes "none"
text_of (Some c) = version_text c.version

chosen_text : (candidates : List Candidate) (best : Option (ℕ × Candidate)) → IfFound (λ c. slice_get candidates c.0 ≡ Some c.1) best
    → outcome_text candidates (chosen (option_map (λ c. c.0) best)) ≡ text_of (option_map value best)
chosen_text candidates None h = refl
chosen_text candidates (Some c) h = ap (λ o. option_map_or (λ d. version_text d.version) o []) h

greatest_text : (candidates : List Candidate) (own test : Candidate → Bool)
    → outcome_text candidates (chosen (option_map (λ c. c.0)
    (first_greatest by_version (filter (λ c. test c.1) (filter (λ c. own c.1) (enumerate_from 0 candidates))))))
    ≡ text_of (first_greatest cmp (filter test (filter own candidates)))
greatest_text candidates own test =
    let P : ℕ × Candidate → Type 0 = λ c. slice_get candidates c.0 ≡ Some c.1 in
    let all : List (ℕ × Candidate) = enumerate_from 0 candidates in
    let its : List (ℕ × Candidate) = filter (λ c. own c.1) all in
    let some : List (ℕ × Candidate) = filter (λ c. test c.1) its in
    let hold : AllByRecursion P all = places_hold candidates [] candidates 0 refl refl in
    let kept : AllByRecursion P some = all_kept P (λ c. test c.1) its (all_kept P (λ c. own c.1) all hold) in
    let values_are : map value some ≡ filter test (filter own candidates) =
    values_kept test its ∙ ap (filter test) (values_kept own all ∙ ap (filter own) (values 0 candidates)) in
    chosen_text candidates (first_greatest by_version some) (found P (λ x. list_all (λ y. not (is_gt (by_version y x))) some) some kept)
    ∙ ap text_of (greatest_value some ∙ ap (first_greatest cmp) values_are)

direct_by : (b : Bool) (cs ds : List Candidate) (x y : Outcome) → outcome_text cs x ≡ outcome_text ds y
    → outcome_text cs (cond b Direct x) ≡ outcome_text ds (cond b Direct y)
direct_by true cs ds x y h = refl
direct_by false cs ds x y h = h

abbrev of_name : List ℕ → Candidate → Bool
of_name name candidate = bytes_eq name candidate.name

-- what becomes of a package for these asks
abbrev outcome_in : Admits → List Front → List ℕ → List Candidate → Outcome
outcome_in admits asks name cs = outcome_of admits asks (filter (is_candidate name) (enumerate_from 0 cs))

abbrev taken_in : Admits → List Front → List ℕ → List Candidate → Outcome
taken_in admits asks name cs =
    chosen (option_map (λ c. c.0) (first_greatest by_version (filter (may_be_taken admits asks) (filter (is_candidate name) (enumerate_from 0 cs)))))

same_outcome_text : (admits : Admits) (asks : List Front) (cs ds : List Candidate) (name : List ℕ)
    → filter (of_name name) cs ≡ filter (of_name name) ds
    → outcome_text cs (outcome_in admits asks name cs) ≡ outcome_text ds (outcome_in admits asks name ds)
same_outcome_text admits asks cs ds name same =
    let test : Candidate → Bool = λ c. list_all (ask_takes c.version) asks && admits c.version (names_prerelease asks) in
    direct_by (list_any has_url asks) cs ds (taken_in admits asks name cs) (taken_in admits asks name ds)
    (greatest_text cs (of_name name) test ∙ ap (λ l. text_of (first_greatest cmp (filter test l))) same
    ∙ sym (greatest_text ds (of_name name) test))

pub same_line : (admits : Admits) (asks : List Front) (cs ds : List Candidate) (row other : RowRecord) → IsRow admits asks cs row
    → IsRow admits asks ds other → row.name ≡ other.name → filter (of_name row.name) cs ≡ filter (of_name row.name) ds
    → row_text cs row ≡ row_text ds other
same_line admits asks cs ds row other a b n same =
    let extras : row.extras ≡ other.extras =
    same_texts row.extras other.extras a.extras_rise b.extras_rise
    (λ q. a.extras_are q ∙ ap (λ m. list_any (λ ask. list_any (bytes_eq q) ask.extras) (filter (is_of m) asks)) n ∙ sym (b.extras_are q)) in
    let outcome : outcome_text cs row.outcome ≡ outcome_text ds other.outcome =
    ap (outcome_text cs) a.outcome ∙ same_outcome_text admits (filter (is_of row.name) asks) cs ds row.name same
    ∙ ap (λ m. outcome_text ds (outcome_in admits (filter (is_of m) asks) m ds)) n ∙ sym (ap (outcome_text ds) b.outcome) in
    λ i. n i ++ (extras_text (extras i) ++ (codes " " ++ (outcome i ++ codes "\n")))
