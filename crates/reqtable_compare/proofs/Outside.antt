-- Packages that aren't among the open ones require the same in both lists, and have few cases.
use Rattle.std.proofs.Common.{◌≡◌, ◌∙◌, ◌||◌, ℕ, Bool, true, false, List, []}
use Rattle.std.proofs.Common.{refl, sym, ap, subst, true≢false, inl, inr}
use Rattle.std.proofs.lemmas.Bool.{cases_Bool}
use Rattle.std.specs.List.{list_any, AllZip}
use Rattle.std.specs.Str.{bytes_eq}
use Rattle.pep508_diagram.specs.Question.{Valuation}
use Rattle.pep508_tree.specs.Meaning.{NodeRecord}
use Rattle.pep508_url.specs.Vars.{Variables}
use Rattle.reqtable_answer.specs.Asks.{is_of}
use Rattle.reqtable_requirements.specs.Asks.{lines_of, asks_of}
use Rattle.reqtable_requirements.specs.LineReading.{LineRecord}
use Rattle.reqtable_requirements.specs.Requirements.{StandsFor}
use Rattle.reqtable_requirements.specs.declared.requirements.Line.{Line}
use Rattle.reqtable_cases.specs.Lines.{HasTooMany}
use Rattle.reqtable_cases.specs.Requires.{RequireAlike, asked_of}
use Rattle.reqtable_table.specs.Given.{is_under}
use Rattle.reqtable_packages.specs.Packages.{lines_under}
use Rattle.reqtable_packages.proofs.Few.{few_cases}
use Rattle.reqtable_packages.proofs.Standing.{under, unnamed, named_alike}
use Rattle.reqtable_compare.specs.Settled.{AreOpen, AreSettled}
use Rattle.reqtable_compare.proofs.Covered.{require_alike}
use Rattle.reqtable_compare.proofs.Meant.{are_meant}

-- ---- packages outside

pub record AreOutside (limit : ℕ) (names : List (List ℕ)) (said others : List LineRecord) : Type 0 where
  pub alike : (q : List ℕ) → list_any (bytes_eq q) names ≡ false → (v : Valuation) →
      RequireAlike (asked_of q v said) (asked_of q v others)
  pub few : (q : List ℕ) → list_any (bytes_eq q) names ≡ false → HasTooMany limit said q → ⊥
  pub few_others : (q : List ℕ) → list_any (bytes_eq q) names ≡ false → HasTooMany limit others q → ⊥

parts_false : (a b : Bool) → (a || (b || false)) ≡ false → (a ≡ false) × (b ≡ false)
parts_false true b h = absurd (true≢false h)
parts_false false true h = absurd (true≢false h)
parts_false false false h = (refl, refl)

or_first : (a b : Bool) → a ≡ true → (a || (b || false)) ≡ true
or_first a b e = ap (λ x. x || (b || false)) e

or_second : (a b : Bool) → b ≡ true → (a || (b || false)) ≡ true
or_second true b e = refl
or_second false b e = ap (λ x. x || false) e

module _ (vars : Variables) (nodes : List NodeRecord) (limit : ℕ) (left right : List Line)
    (said others : List LineRecord) (names : List (List ℕ)) (ours : AllZip (StandsFor vars nodes) left said)
    (theirs : AllZip (StandsFor vars nodes) right others) (are : AreOpen limit left right names) where
  abbrev is_either : List ℕ → Bool
  is_either q = list_any (is_under q) left || (list_any (is_under q) right || false)

  settled_alike : (q : List ℕ) → AreSettled limit (lines_under q left) (lines_under q right) → (v : Valuation) →
      RequireAlike (asked_of q v said) (asked_of q v others)
  settled_alike q settled v =
      let mine = under vars nodes q left said ours in
      let other = under vars nodes q right others theirs in
      require_alike (lines_of q said) (lines_of q others)
      (are_meant vars nodes (lines_under q right) (lines_of q others) (lines_under q left) (lines_of q said) other mine
      settled.ours)
      (are_meant vars nodes (lines_under q left) (lines_of q said) (lines_under q right) (lines_of q others) mine other
      settled.theirs) v

  neither : (q : List ℕ) → lines_of q said ≡ [] → lines_of q others ≡ [] → (v : Valuation) →
      RequireAlike (asked_of q v said) (asked_of q v others)
  neither q none none' v =
      subst (λ l. RequireAlike (asks_of v l) (asked_of q v others)) (sym none)
      (subst (λ l. RequireAlike [] (asks_of v l)) (sym none') tt)

  alike_by : (q : List ℕ) → list_any (bytes_eq q) names ≡ false → (v : Valuation) →
      RequireAlike (asked_of q v said) (asked_of q v others)
  alike_by q not v = elim (cases_Bool (is_either q)) [
    | inl e ↦ settled_alike q (are.settled q not e) v
    | inr e ↦
        let parts = parts_false (list_any (is_under q) left) (list_any (is_under q) right) e in
        neither q
        (unnamed (λ line. is_of q line.front) said (sym (named_alike vars nodes left said q ours) ∙ parts.0))
        (unnamed (λ line. is_of q line.front) others (sym (named_alike vars nodes right others q theirs) ∙ parts.1)) v
  ]

  pub outside : AreOutside limit names said others
  outside = record {
    alike = alike_by;
    few = λ q not too. few_cases vars nodes limit q left said ours
        (are.settled q not (or_first (list_any (is_under q) left) (list_any (is_under q) right)
        (named_alike vars nodes left said q ours ∙ too.named))).few too;
    few_others = λ q not too. few_cases vars nodes limit q right others theirs
        (are.settled q not (or_second (list_any (is_under q) left) (list_any (is_under q) right)
        (named_alike vars nodes right others q theirs ∙ too.named))).few_others too;
  }
