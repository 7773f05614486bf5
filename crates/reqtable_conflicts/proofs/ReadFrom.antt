-- The specifiers that lines say are read of texts where those of the lines that stand for them are.
use Rattle.std.proofs.Common.{◌≡◌, ◌∙◌, ◌&&◌, not, Bool, true, false, cond, List, [], ◌∷◌, All, filter}
use Rattle.std.proofs.Common.{get_or}
use Rattle.std.proofs.Common.{Option, None, Some, refl, sym, ap, subst, true≢false}
use Rattle.std.specs.Cmp.{tied_itself}
use Rattle.std.specs.List.{AllByRecursion, AllZip}
use Rattle.std.specs.List.Sorted.{ties}
use Rattle.std.specs.Ordering.{is_lt}
use Rattle.std.proofs.lemmas.List.Elements.{All-nil, All-filter, All-from_recursion, recursion_from_All}
use Rattle.pep440_version.specs.Order.{version_cmp}
use Rattle.pep440_version.specs.OrderLaws.{version_cmp_total}
use Rattle.pep440_specifier.specs.Matching.{SpecifierRecord}
use Rattle.pep440_specifier_list.specs.Lists.{IsInOrder}
use Rattle.pep440_specifier_list.specs.ListReading.{IsReadFromText}
use Rattle.pep508_url.specs.Vars.{Variables}
use Rattle.pep508_url.specs.UrlTexts.{Verbatim}
use Rattle.pep508_url.specs.declared.url_error.VerbatimUrlError.{VerbatimUrlError}
use Rattle.pep508_tree.specs.Meaning.{NodeRecord}
use Rattle.pep508_requirement.specs.RequirementReading.{AsksFor}
use Rattle.pep508_requirement.specs.declared.version_or_url.VersionOrUrl.{VersionOrUrl}
use Rattle.pep508_requirement.specs.declared.version_or_url.VersionOrUrl.TheVariants as asked
use Rattle.pep508_requirement_text.specs.FrontReading.{Source}
use Rattle.pep508_requirement_text.specs.FrontReading.Source.{Any, Specifiers, Url}
use Rattle.reqtable_answer.specs.Asks.{specifiers_of}
use Rattle.reqtable_requirements.specs.LineReading.{LineRecord}
use Rattle.reqtable_requirements.specs.LineSpecifiers.{specifiers_by, specifiers_in}
use Rattle.reqtable_requirements.specs.Requirements.{ReadsUrl, StandsFor}
use Rattle.reqtable_requirements.specs.declared.requirements.Line.{Line}

-- ---- what holds of all members in order holds of all that were given

module _ (P : SpecifierRecord → Type 0) (t : SpecifierRecord → Bool) where
  abbrev IfPasses : SpecifierRecord → Type 0
  IfPasses x = t x ≡ true → P x

  passes_by : (x : SpecifierRecord) (xs : List SpecifierRecord) (b : Bool) → t x ≡ b →
      (AllByRecursion P (filter t xs) → AllByRecursion IfPasses xs) →
      AllByRecursion P (cond b (x ∷ filter t xs) (filter t xs)) → AllByRecursion IfPasses (x ∷ xs)
  passes_by x xs true e rest h = ((λ p. h.0), rest h.1)
  passes_by x xs false e rest h = ((λ p. absurd (true≢false (sym p ∙ e))), rest h)

  passing : (xs : List SpecifierRecord) → AllByRecursion P (filter t xs) → AllByRecursion IfPasses xs
  passing [] h = tt
  passing (x ∷ xs) h = passes_by x xs (t x) refl (passing xs) h

abbrev is_before : SpecifierRecord → SpecifierRecord → Bool
is_before a b = is_lt (version_cmp a.version b.version)

ties_itself : (x : SpecifierRecord) → ties is_before x x ≡ true
ties_itself x = ap (λ o. not (is_lt o) && not (is_lt o)) (tied_itself version_cmp_total x.version)

all_given : (P : SpecifierRecord → Type 0) (given members : List SpecifierRecord) → IsInOrder given members →
    All P members → All P given
all_given P given members order all = λ k d within.
    let x = get_or given k d in
    let tied = ties is_before x in
    let kept : AllByRecursion P (filter tied given) =
    subst (AllByRecursion P) (order.stable x)
    (recursion_from_All P (filter tied members) (All-filter tied P members all)) in
    (All-from_recursion (IfPasses P tied) given (passing P tied given kept)) k d within (ties_itself x)

-- ---- of lines

abbrev IsRead : LineRecord → Type 0
IsRead line = All IsReadFromText (specifiers_of line.front.source)

source_read : (vars : Variables) (source : Source) (what : Option (VersionOrUrl Verbatim VerbatimUrlError)) →
    AsksFor (ReadsUrl vars) source what → All IsReadFromText (specifiers_by what) →
    All IsReadFromText (specifiers_of source)
source_read vars Any None h all = All-nil IsReadFromText
source_read vars Any (Some what) h all = absurd h
source_read vars (Specifiers given) None h all = absurd h
source_read vars (Specifiers given) (Some (asked.VersionSpecifier list)) h all =
    all_given IsReadFromText given list h all
source_read vars (Specifiers given) (Some (asked.Url url)) h all = absurd h
source_read vars (Url text) what h all = All-nil IsReadFromText

each_read : (vars : Variables) (nodes : List NodeRecord) (lines : List Line) (said : List LineRecord) →
    AllZip (StandsFor vars nodes) lines said →
    AllByRecursion (λ line. All IsReadFromText (specifiers_in line)) lines → AllByRecursion IsRead said
each_read vars nodes [] [] h read = tt
each_read vars nodes [] (one ∷ said) h read = absurd h
each_read vars nodes (line ∷ lines) [] h read = tt
each_read vars nodes (line ∷ lines) (one ∷ said) h read = (
  source_read vars one.front.source line.requirement.version_or_url h.0.asks read.0,
  each_read vars nodes lines said h.1 read.1,
)

pub said_read : (vars : Variables) (nodes : List NodeRecord) (lines : List Line) (said : List LineRecord) →
    AllZip (StandsFor vars nodes) lines said → All (λ line. All IsReadFromText (specifiers_in line)) lines →
    All (λ line. All IsReadFromText (specifiers_of line.front.source)) said
said_read vars nodes lines said h read =
    All-from_recursion IsRead said (each_read vars nodes lines said h
    (recursion_from_All (λ (line : Line). All IsReadFromText (specifiers_in line)) lines read))
