-- What is known of a kept line by the line that it keeps.
use Rattle.std.proofs.Common.{◌≡◌, true, List, [], ◌∷◌, All, refl, sym, ◌∙◌, subst, arith, true≢false}
use Rattle.std.specs.List.{AllByRecursion}
use Rattle.std.proofs.lemmas.List.Elements.{recursion_from_All}
use Rattle.pep440_specifier.specs.Building.{IsBuilt}
use Rattle.pep440_specifier.specs.Matching.{SpecifierRecord}
use Rattle.pep440_specifier_list.specs.Lists.{IsInOrder}
use Rattle.pep440_specifier_list.proofs.Members.{all_in_order}
use Rattle.pep440_range.specs.Agreement.{IsSaid}
use Rattle.pep508_tree.specs.Meaning.{NodeRecord}
use Rattle.pep508_requirement_text.specs.FrontReading.{Source}
use Rattle.pep508_requirement_text.specs.FrontReading.Source.{Any, Specifiers, Url}
use Rattle.reqtable_answer.specs.Asks.{specifiers_of, is_url}
use Rattle.reqtable_requirements.specs.LineReading.{LineRecord}
use Rattle.reqtable_table.specs.Standing.{HasItsFlags, IsOfTexts}
use Rattle.reqtable_table.specs.Kept.{KeptLine, Keeps}

no_members : (source : Source) → is_url source ≡ true → specifiers_of source ≡ []
no_members Any e = absurd (true≢false (sym e))
no_members (Specifiers given) e = absurd (true≢false (sym e))
no_members (Url text) e = refl

none_of_all : (members : List SpecifierRecord) → All (λ (s : SpecifierRecord). ⊥) members → members ≡ []
none_of_all [] h = refl
none_of_all (s ∷ members) h = absurd (h 0 s (omega arith))

none_in_order : (given members : List SpecifierRecord) → given ≡ [] → IsInOrder given members → members ≡ []
none_in_order given members e order =
    none_of_all members (all_in_order (λ (s : SpecifierRecord). ⊥) given members
    (subst (AllByRecursion (λ (s : SpecifierRecord). ⊥)) (sym e) tt) order)

pub flags_kept : (nodes : List NodeRecord) (line : KeptLine) (said : LineRecord) → Keeps nodes line said → HasItsFlags line
flags_kept nodes line said kept = record {
  bounded = kept.bounded;
  direct = λ e.
      none_in_order (specifiers_of said.front.source) line.specifiers.members
      (no_members said.front.source (sym kept.url ∙ e)) kept.specifiers;
}

pub texts_kept : (nodes : List NodeRecord) (line : KeptLine) (said : LineRecord) → Keeps nodes line said →
    AllByRecursion (λ s. IsBuilt s × IsSaid s.version) (specifiers_of said.front.source) → IsOfTexts line
texts_kept nodes line said kept read =
    recursion_from_All (λ (s : SpecifierRecord). IsBuilt s × IsSaid s.version) line.specifiers.members
    (all_in_order (λ (s : SpecifierRecord). IsBuilt s × IsSaid s.version) (specifiers_of said.front.source)
    line.specifiers.members read kept.specifiers)
