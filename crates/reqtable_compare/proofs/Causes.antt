-- A read line can be compared where what it says can.
use Rattle.std.proofs.Common.{◌≡◌, ℕ, List, [], ◌∷◌, Option, Some, None, cond, refl, sym, is_none}
use Rattle.std.proofs.lemmas.Option.{none-some}
use Rattle.std.specs.List.{AllZip}
use Rattle.pep440_specifier.specs.Matching.{SpecifierRecord}
use Rattle.pep440_specifier_list.specs.Lists.{IsInOrder}
use Rattle.pep440_range.specs.Ranges.{range_of}
use Rattle.pep508_tree.specs.Meaning.{NodeRecord}
use Rattle.pep508_url.specs.Vars.{Variables}
use Rattle.pep508_url.specs.UrlTexts.{Verbatim}
use Rattle.pep508_url.specs.declared.url_error.VerbatimUrlError.{VerbatimUrlError}
use Rattle.pep508_requirement.specs.RequirementReading.{AsksFor}
use Rattle.pep508_requirement.specs.declared.version_or_url.VersionOrUrl.{VersionOrUrl}
use Rattle.pep508_requirement.specs.declared.version_or_url.VersionOrUrl.TheVariants as asked
use Rattle.pep508_requirement_text.specs.FrontReading.{Source}
use Rattle.pep508_requirement_text.specs.FrontReading.Source.{Any, Specifiers, Url}
use Rattle.reqtable_answer.specs.Asks.{specifiers_of, is_url}
use Rattle.reqtable_answer.proofs.InOrder.{same_any}
use Rattle.reqtable_requirements.specs.LineReading.{LineRecord}
use Rattle.reqtable_requirements.specs.Requirements.{ReadsUrl, StandsFor}
use Rattle.reqtable_requirements.specs.declared.requirements.Line.{Line}
use Rattle.reqtable_compare.specs.declared.sides.LineCause.{LineCause}
use Rattle.reqtable_compare.specs.declared.sides.LineCause.TheVariants as causes
use Rattle.reqtable_compare.specs.declared.sides.Side.{Side}
use Rattle.reqtable_compare.specs.Refusals.{Refusal, is_exact, bounds_post, members_cause}
use Rattle.reqtable_compare.specs.Refusals.{refused_by, refusal_in}
use Rattle.reqtable_compare.specs.RefusedLines.{cause_by, line_cause_in, lines_refusal}

members_alike : (given members : List SpecifierRecord) → IsInOrder given members →
    members_cause members ≡ members_cause given
members_alike given members order =
    let exact = same_any (λ s. is_exact s.operator) given members order in
    let bound = same_any bounds_post given members order in
    let ends = same_any (λ s. is_none (range_of s)) given members order in
    λ i. cond (exact i) (Some causes.ExactEqual) (cond (bound i) (Some causes.PostAfterBound)
    (cond (ends i) (Some causes.NumberAtEnd) None))

abbrev source_cause : Source → Option LineCause
source_cause source = cond (is_url source) (Some causes.Url) (members_cause (specifiers_of source))

cause_said : (vars : Variables) (source : Source) (what : Option (VersionOrUrl Verbatim VerbatimUrlError)) →
    AsksFor (ReadsUrl vars) source what → cause_by what ≡ source_cause source
cause_said vars Any None h = refl
cause_said vars Any (Some what) h = absurd h
cause_said vars (Specifiers given) None h = absurd h
cause_said vars (Specifiers given) (Some (asked.VersionSpecifier list)) h = members_alike given list h
cause_said vars (Specifiers given) (Some (asked.Url url)) h = absurd h
cause_said vars (Url text) None h = absurd h
cause_said vars (Url text) (Some (asked.VersionSpecifier list)) h = absurd h
cause_said vars (Url text) (Some (asked.Url url)) h = refl

pub refusal_said : (vars : Variables) (nodes : List NodeRecord) (side : Side) (lines : List Line)
    (said : List LineRecord) (later : Option Refusal) → AllZip (StandsFor vars nodes) lines said →
    lines_refusal side lines later ≡ refusal_in side said later
refusal_said vars nodes side [] [] later h = refl
refusal_said vars nodes side [] (one ∷ said) later h = absurd h
refusal_said vars nodes side (line ∷ lines) [] later h = absurd h
refusal_said vars nodes side (line ∷ lines) (one ∷ said) later h =
    let cause = cause_said vars one.front.source line.requirement.version_or_url h.0.asks in
    let rest = refusal_said vars nodes side lines said later h.1 in
    λ i. refused_by side (h.0.number i) (cause i) (rest i)

-- ---- a list's first, and a later one

some_by : (side : Side) (n : ℕ) (cause : Option LineCause) (a b : Option Refusal) (x : Refusal) →
    refused_by side n cause a ≡ Some x → (a ≡ Some x → b ≡ Some x) → refused_by side n cause b ≡ Some x
some_by side n (Some cause) a b x h f = h
some_by side n None a b x h f = f h

pub some_first : (side : Side) (lines : List Line) (x : Refusal) (later : Option Refusal) →
    lines_refusal side lines None ≡ Some x → lines_refusal side lines later ≡ Some x
some_first side [] x later h = absurd (none-some x h)
some_first side (line ∷ lines) x later h =
    some_by side line.number (line_cause_in line) (lines_refusal side lines None) (lines_refusal side lines later) x h
    (some_first side lines x later)

none_by : (side : Side) (n : ℕ) (cause : Option LineCause) (a b later : Option Refusal) →
    refused_by side n cause a ≡ None → (a ≡ None → b ≡ later) → refused_by side n cause b ≡ later
none_by side n (Some cause) a b later h f =
    absurd (none-some (record { side = side; number = n; cause = cause }) (sym h))
none_by side n None a b later h f = f h

pub none_first : (side : Side) (lines : List Line) (later : Option Refusal) →
    lines_refusal side lines None ≡ None → lines_refusal side lines later ≡ later
none_first side [] later h = refl
none_first side (line ∷ lines) later h =
    none_by side line.number (line_cause_in line) (lines_refusal side lines None) (lines_refusal side lines later) later
    h (none_first side lines later)
