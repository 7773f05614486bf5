-- Where asking stops.
use Rattle.std.proofs.Common.{◌≡◌, ◌≢◌, ℕ, suc, ◌+◌, ◌<◌, ◌&&◌, true, false, if◌then◌else◌, List, ◌∷◌, ◌++◌}
use Rattle.std.proofs.Common.{length, take, drop, get_or, All, IsTrue, refl, sym, ap, ◌∙◌, arith, add-one}
use Rattle.std.proofs.Common.{drop-cons}
use Rattle.std.proofs.lemmas.List.{take-append-drop, length-take}
use Rattle.std.proofs.lemmas.List.Elements.{All-more}
use Rattle.pep440_version.specs.Record.{VersionRecord}
use Rattle.pep440_operator.specs.declared.operator.Operator.{Operator}
use Rattle.pep440_operator.specs.declared.operator.Operator.TheVariants.{Equal, EqualStar, ExactEqual}
use Rattle.pep440_operator.specs.declared.operator.Operator.TheVariants.{NotEqual, NotEqualStar, TildeEqual}
use Rattle.pep440_operator.specs.declared.operator.Operator.TheVariants.{LessThan, LessThanEqual}
use Rattle.pep440_operator.specs.declared.operator.Operator.TheVariants.{GreaterThan, GreaterThanEqual}
use Rattle.pep440_specifier.specs.Matching.{SpecifierRecord, takes}
use Rattle.pep440_specifier_list.specs.Lists.{matches_all, asked}
use Rattle.pep440_specifier_list.specs.Refusals.{IsRefusal}

-- an operator that can't be another one is `===`
pub exact_or : (operator : Operator) → (operator ≢ ExactEqual → ⊥) → operator ≡ ExactEqual
exact_or Equal h = absurd (h (λ e. cc))
exact_or EqualStar h = absurd (h (λ e. cc))
exact_or ExactEqual h = refl
exact_or NotEqual h = absurd (h (λ e. cc))
exact_or NotEqualStar h = absurd (h (λ e. cc))
exact_or TildeEqual h = absurd (h (λ e. cc))
exact_or LessThan h = absurd (h (λ e. cc))
exact_or LessThanEqual h = absurd (h (λ e. cc))
exact_or GreaterThan h = absurd (h (λ e. cc))
exact_or GreaterThanEqual h = absurd (h (λ e. cc))

-- what is left at an element is that element and what is left behind it
pub left_at : {A : Type 0} (xs : List A) (i : ℕ) (x : A) → i < length xs → x ≡ get_or xs i x → drop i xs ≡ x ∷ drop (i + 1) xs
left_at xs i x h e = drop-cons xs i x h ∙ ap (λ y. y ∷ drop (suc i) xs) (sym e) ∙ ap (λ k. x ∷ drop k xs) (sym (add-one i))

all_left : (members : List SpecifierRecord) (candidate : VersionRecord) (i : ℕ) (member : SpecifierRecord) → i < length members → member ≡ get_or members i member → takes candidate member ≡ true
    → matches_all (drop (i + 1) members) candidate ≡ matches_all (drop i members) candidate
all_left members candidate i member h e t =
    sym (ap (λ left. matches_all left candidate) (left_at members i member h e) ∙ ap (λ b. b && matches_all (drop (i + 1) members) candidate) t)

asked_left : (members : List SpecifierRecord) (candidate : VersionRecord) (i : ℕ) (member : SpecifierRecord) → i < length members → member ≡ get_or members i member → takes candidate member ≡ true
    → asked (drop i members) candidate ≡ 1 + asked (drop (i + 1) members) candidate
asked_left members candidate i member h e t =
    ap (λ left. asked left candidate) (left_at members i member h e) ∙ ap (λ b. if b then 1 + asked (drop (i + 1) members) candidate else 1) t

-- how asking goes on: so many were asked, all take the candidate, and those left decide
pub record IsAsking (members : List SpecifierRecord) (candidate : VersionRecord) (count index : ℕ) : Type 0 where
  pub counts : count ≡ index
  pub take_it : All (λ s. IsTrue (takes candidate s)) (take index members)
  pub answer : matches_all (drop index members) candidate ≡ matches_all members candidate
  pub number : index + asked (drop index members) candidate ≡ asked members candidate

pub asking_more : (members : List SpecifierRecord) (candidate : VersionRecord) (count index : ℕ) (member : SpecifierRecord) → IsAsking members candidate count index
    → index < length members → member ≡ get_or members index member → takes candidate member ≡ true → IsAsking members candidate (count + 1) (index + 1)
asking_more members candidate count index member asking h e t = record {
  counts = ap (λ k. k + 1) asking.counts;
  take_it = All-more (λ s. IsTrue (takes candidate s)) members index member h asking.take_it (ap (takes candidate) (sym e) ∙ t);
  answer = all_left members candidate index member h e t ∙ asking.answer;
  number = (let more = asked_left members candidate index member h e t in let before = asking.number in omega (arith, more, before));
}

pub asking_refused : (members : List SpecifierRecord) (candidate : VersionRecord) (count index : ℕ) (member : SpecifierRecord) → IsAsking members candidate count index
    → index < length members → member ≡ get_or members index member → takes candidate member ≡ false
    → (false ≡ matches_all members candidate) × (count + 1 ≡ asked members candidate)
asking_refused members candidate count index member asking h e t = (
  sym (sym asking.answer ∙ ap (λ left. matches_all left candidate) (left_at members index member h e) ∙ ap (λ b. b && matches_all (drop (index + 1) members) candidate) t),
  (let at : asked (drop index members) candidate ≡ 1 = ap (λ left. asked left candidate) (left_at members index member h e) ∙ ap (λ b. if b then 1 + asked (drop (index + 1) members) candidate else 1) t in
      let before = asking.number in let counts = asking.counts in omega (arith, at, before, counts)),
)

pub refusal_at : (members : List SpecifierRecord) (candidate : VersionRecord) (count index : ℕ) (member : SpecifierRecord) → IsAsking members candidate count index
    → index < length members → member ≡ get_or members index member → (member.operator ≢ ExactEqual → ⊥) → IsRefusal members candidate (count + 1)
refusal_at members candidate count index member asking h e exact = record {
  before = take index members;
  member = member;
  after = drop (index + 1) members;
  split = sym (take-append-drop index members) ∙ ap (λ rest. take index members ++ rest) (left_at members index member h e);
  counts = (let counts = asking.counts in omega (arith, counts, length-take index members));
  take_it = asking.take_it;
  exact = exact_or member.operator exact;
}
