-- What is said of some packages is what the list says of them.
use Rattle.std.proofs.Common.{◌≡◌, ◌∙◌, ◌≤◌, ◌||◌, ℕ, suc, Bool, true, false, cond, List, [], ◌∷◌, filter}
use Rattle.std.proofs.Common.{length, arith, inl, inr}
use Rattle.std.proofs.Common.{refl, sym, ap, subst, true≢false}
use Rattle.std.proofs.lemmas.Bool.{cases_Bool}
use Rattle.std.specs.List.{list_any, AllZip, AllByRecursion}
use Rattle.std.specs.Str.{bytes_eq}
use Rattle.pep508_url.specs.Vars.{Variables}
use Rattle.pep508_cases.specs.Cases.{Marks, IsRealised, HasMore}
use Rattle.pep508_tree.specs.Meaning.{NodeRecord, IsTree}
use Rattle.reqtable_answer.proofs.Tests.{same_bytes}
use Rattle.reqtable_requirements.specs.Asks.{lines_of, AreOfNodes}
use Rattle.reqtable_requirements.specs.Copies.{lines_among}
use Rattle.reqtable_requirements.specs.LineReading.{LineRecord}
use Rattle.reqtable_requirements.specs.Requirements.{StandsFor}
use Rattle.reqtable_requirements.specs.declared.requirements.Line.{Line}
use Rattle.reqtable_cases.specs.Lines.{is_named, line_marks, HasTooMany, IsFirstTooMany}
use Rattle.reqtable_table.specs.InAll.{AreSomeCases, HasMoreInAll, HasTooManyInAll}
use Rattle.reqtable_packages.specs.Packages.{said_among}
use Rattle.reqtable_packages.proofs.Standing.{zip_filtered}

-- ---- lines of some packages stand for what is said of them

pub stands_among : (vars : Variables) (nodes : List NodeRecord) (names : List (List ℕ)) (lines : List Line)
    (said : List LineRecord) → AllZip (StandsFor vars nodes) lines said →
    AllZip (StandsFor vars nodes) (lines_among names lines) (said_among names said)
stands_among vars nodes names lines said h =
    zip_filtered (StandsFor vars nodes) (λ line. list_any (bytes_eq line.requirement.name) names)
    (λ one. list_any (bytes_eq one.front.name) names)
    (λ line one stands. ap (λ name. list_any (bytes_eq name) names) stands.name) lines said h

trees_by : (nodes : List NodeRecord) (kept : Bool) (line : Line) (lines : List Line) →
    IsTree nodes line.requirement.marker → AreOfNodes nodes lines → AreOfNodes nodes (cond kept (line ∷ lines) lines)
trees_by nodes true line lines one all = (one, all)
trees_by nodes false line lines one all = all

pub trees_among : (nodes : List NodeRecord) (names : List (List ℕ)) (lines : List Line) → AreOfNodes nodes lines →
    AreOfNodes nodes (lines_among names lines)
trees_among nodes names [] all = tt
trees_among nodes names (line ∷ lines) all =
    trees_by nodes (list_any (bytes_eq line.requirement.name) names) line (lines_among names lines) all.0
    (trees_among nodes names lines all.1)

fewer_by : {A : Type 0} (b : Bool) (x : A) (xs : List A) (n : ℕ) → length xs ≤ n → length (cond b (x ∷ xs) xs) ≤ suc n
fewer_by true x xs n h = omega (arith, h)
fewer_by false x xs n h = omega (arith, h)

pub fewer_kept : {A : Type 0} (p : A → Bool) (xs : List A) → length (filter p xs) ≤ length xs
fewer_kept p [] = omega arith
fewer_kept p (x ∷ xs) = fewer_by (p x) x (filter p xs) (length xs) (fewer_kept p xs)

-- ---- a package that is among them

module _ (names : List (List ℕ)) (q : List ℕ) where
  there : (one : LineRecord) → list_any (bytes_eq q) names ≡ true → bytes_eq q one.front.name ≡ true →
      list_any (bytes_eq one.front.name) names ≡ true
  there one is e = subst (λ name. list_any (bytes_eq name) names ≡ true) (same_bytes q one.front.name e) is

  lines_by : (one : LineRecord) (kept lines : List LineRecord) (b k : Bool) → bytes_eq q one.front.name ≡ k →
      (k ≡ true → b ≡ true) → lines_of q kept ≡ lines → lines_of q (cond b (one ∷ kept) kept) ≡ cond k (one ∷ lines) lines
  lines_by one kept lines true k e f rest = λ i. cond (e i) (one ∷ rest i) (rest i)
  lines_by one kept lines false true e f rest = absurd (true≢false (sym (f refl)))
  lines_by one kept lines false false e f rest = rest

  pub among_lines : (said : List LineRecord) → list_any (bytes_eq q) names ≡ true →
      lines_of q (said_among names said) ≡ lines_of q said
  among_lines [] is = refl
  among_lines (one ∷ said) is =
      lines_by one (said_among names said) (lines_of q said) (list_any (bytes_eq one.front.name) names)
      (bytes_eq q one.front.name) refl (there one is) (among_lines said is)

  named_by : (one : LineRecord) (kept : List LineRecord) (rest : Bool) (b k : Bool) → bytes_eq q one.front.name ≡ k →
      (k ≡ true → b ≡ true) → is_named q kept ≡ rest → is_named q (cond b (one ∷ kept) kept) ≡ (k || rest)
  named_by one kept rest true k e f same = λ i. e i || same i
  named_by one kept rest false true e f same = absurd (true≢false (sym (f refl)))
  named_by one kept rest false false e f same = same

  among_named : (said : List LineRecord) → list_any (bytes_eq q) names ≡ true →
      is_named q (said_among names said) ≡ is_named q said
  among_named [] is = refl
  among_named (one ∷ said) is =
      named_by one (said_among names said) (is_named q said) (list_any (bytes_eq one.front.name) names)
      (bytes_eq q one.front.name) refl (there one is) (among_named said is)

  no_name_by : (one : LineRecord) (kept : List LineRecord) (b k : Bool) → bytes_eq q one.front.name ≡ k →
      (k ≡ true → b ≡ false) → is_named q kept ≡ false → is_named q (cond b (one ∷ kept) kept) ≡ false
  no_name_by one kept true true e f none = absurd (true≢false (f refl))
  no_name_by one kept true false e f none = λ i. e i || none i
  no_name_by one kept false k e f none = none

  not_named : (said : List LineRecord) → list_any (bytes_eq q) names ≡ false → is_named q (said_among names said) ≡ false
  not_named [] is = refl
  not_named (one ∷ said) is =
      no_name_by one (said_among names said) (list_any (bytes_eq one.front.name) names) (bytes_eq q one.front.name) refl
      (λ e. subst (λ name. list_any (bytes_eq name) names ≡ false) (same_bytes q one.front.name e) is)
      (not_named said is)

  pub is_among : (said : List LineRecord) → is_named q (said_among names said) ≡ true → list_any (bytes_eq q) names ≡ true
  is_among said named = elim (cases_Bool (list_any (bytes_eq q) names)) [
    | inl is ↦ is
    | inr not ↦ absurd (true≢false (sym named ∙ not_named said not))
  ]

  too_many : (limit : ℕ) (said : List LineRecord) → HasTooMany limit (said_among names said) q → HasTooMany limit said q
  too_many limit said h =
      let is = is_among said h.named in
      record {
        named = sym (among_named said is) ∙ h.named;
        more = subst (λ lines. HasMore limit (line_marks lines)) (among_lines said is) h.more;
      }

  too_many_among : (limit : ℕ) (said : List LineRecord) → list_any (bytes_eq q) names ≡ true → HasTooMany limit said q →
      HasTooMany limit (said_among names said) q
  too_many_among limit said is h = record {
    named = among_named said is ∙ h.named;
    more = subst (λ lines. HasMore limit (line_marks lines)) (sym (among_lines said is)) h.more;
  }

-- ---- all cases together

module _ (limit : ℕ) (names : List (List ℕ)) (said : List LineRecord) where
  some_cases : (q : List ℕ) (sets : List Marks) → AreSomeCases limit (said_among names said) q sets →
      AreSomeCases limit said q sets
  some_cases q sets some =
      let is = is_among names q said some.named in
      record {
        named = sym (among_named names q said is) ∙ some.named;
        rising = some.rising;
        realised =
            subst (λ lines. AllByRecursion (IsRealised (line_marks lines)) sets) (among_lines names q said is) some.realised;
        few = some.few;
      }

  all_some : (qs : List (List ℕ)) (sets : List (List Marks)) → AllZip (AreSomeCases limit (said_among names said)) qs sets →
      AllZip (AreSomeCases limit said) qs sets
  all_some [] [] h = tt
  all_some [] (s ∷ sets) h = absurd h
  all_some (q ∷ qs) [] h = absurd h
  all_some (q ∷ qs) (s ∷ sets) h = (some_cases q s h.0, all_some qs sets h.1)

  more_in_all : (in_all : ℕ) (last : List ℕ) → HasMoreInAll limit in_all (said_among names said) last →
      HasMoreInAll limit in_all said last
  more_in_all in_all last h = record {
    names = h.names;
    rising = h.rising;
    up_to = h.up_to;
    sets = h.sets;
    each = all_some h.names h.sets h.each;
    more = h.more;
  }

-- ---- where no other package has too many cases

module _ (limit : ℕ) (names : List (List ℕ)) (said : List LineRecord)
    (few : (q : List ℕ) → list_any (bytes_eq q) names ≡ false → HasTooMany limit said q → ⊥) where
  none_of : (q : List ℕ) → (HasTooMany limit (said_among names said) q → ⊥) → HasTooMany limit said q → ⊥
  none_of q none h = elim (cases_Bool (list_any (bytes_eq q) names)) [
    | inl is ↦ none (too_many_among names q limit said is h)
    | inr not ↦ few q not h
  ]

  pub none_too_many : ((q : List ℕ) → HasTooMany limit (said_among names said) q → ⊥) → (q : List ℕ) →
      HasTooMany limit said q → ⊥
  none_too_many none q = none_of q (none q)

  pub first_too_many : (name : List ℕ) → IsFirstTooMany limit (said_among names said) name → IsFirstTooMany limit said name
  first_too_many name first = record {
    has = too_many names name limit said first.has;
    first = λ other less. none_of other (first.first other less);
  }

  pub too_many_in_all : (in_all : ℕ) → HasTooManyInAll limit in_all (said_among names said) →
      HasTooManyInAll limit in_all said
  too_many_in_all in_all h = record {
    last = h.last;
    more = more_in_all limit names said in_all h.last h.more;
    before = λ other less. none_of other (h.before other less);
  }
