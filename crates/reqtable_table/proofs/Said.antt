-- Lines of a text, and what a table keeps of them.
use Rattle.std.proofs.Common.{◌≡◌, ◌∙◌, ℕ, Bool, true, false, cond, ◌||◌, List, [], ◌∷◌, map, filter, refl}
use Rattle.std.proofs.Common.{ap, subst, arith, Option, Some, None}
use Rattle.std.specs.List.{list_any, AllZip}
use Rattle.std.specs.Str.{bytes_eq}
use Rattle.pep440_specifier_list.specs.Lists.{IsInOrder}
use Rattle.pep508_diagram.specs.Question.{Valuation}
use Rattle.pep508_url.specs.Vars.{Variables}
use Rattle.pep508_url.specs.UrlTexts.{Verbatim}
use Rattle.pep508_url.specs.declared.url_error.VerbatimUrlError.{VerbatimUrlError}
use Rattle.pep508_tree.specs.Meaning.{NodeRecord, Extends}
use Rattle.pep508_tree.proofs.Conjoining.{tree_kept}
use Rattle.pep508_tree.proofs.Diagrams.{holds_kept}
use Rattle.pep508_requirement.specs.RequirementReading.{AsksFor}
use Rattle.pep508_requirement.specs.declared.version_or_url.VersionOrUrl.{VersionOrUrl}
use Rattle.pep508_requirement.specs.declared.version_or_url.VersionOrUrl.TheVariants as asked
use Rattle.pep508_requirement_text.specs.FrontReading.{Source}
use Rattle.pep508_requirement_text.specs.FrontReading.Source.{Any, Specifiers, Url}
use Rattle.pep508_cases.specs.Cases.{marks_of}
use Rattle.reqtable_answer.specs.Asks.{is_url, specifiers_of}
use Rattle.reqtable_requirements.specs.Asks.{lines_of}
use Rattle.reqtable_requirements.specs.LineReading.{LineRecord}
use Rattle.reqtable_requirements.specs.LineSpecifiers.{specifiers_by}
use Rattle.reqtable_requirements.specs.Requirements.{ReadsUrl, StandsFor}
use Rattle.reqtable_requirements.specs.declared.requirements.Line.{Line}
use Rattle.reqtable_cases.specs.Lines.{line_marks, is_named}
use Rattle.reqtable_groups.specs.Given.{given_by, is_url_by, is_under}
use Rattle.reqtable_table.specs.Kept.{KeptLine, Keeps}
use Rattle.reqtable_table.specs.KeptLines.{kept_by}

-- ---- one line

url_said : (vars : Variables) (source : Source) (what : Option (VersionOrUrl Verbatim VerbatimUrlError)) →
    AsksFor (ReadsUrl vars) source what → is_url_by what ≡ is_url source
url_said vars Any None h = refl
url_said vars Any (Some what) h = absurd h
url_said vars (Specifiers given) None h = absurd h
url_said vars (Specifiers given) (Some (asked.VersionSpecifier list)) h = refl
url_said vars (Specifiers given) (Some (asked.Url url)) h = absurd h
url_said vars (Url text) None h = absurd h
url_said vars (Url text) (Some (asked.VersionSpecifier list)) h = absurd h
url_said vars (Url text) (Some (asked.Url url)) h = refl

none_in_order : IsInOrder [] []
none_in_order = record { sorted = λ k d low within. absurd (omega arith); stable = λ x. refl }

specifiers_said : (vars : Variables) (source : Source) (what : Option (VersionOrUrl Verbatim VerbatimUrlError)) →
    AsksFor (ReadsUrl vars) source what → IsInOrder (specifiers_of source) (specifiers_by what)
specifiers_said vars Any None h = none_in_order
specifiers_said vars Any (Some what) h = absurd h
specifiers_said vars (Specifiers given) None h = absurd h
specifiers_said vars (Specifiers given) (Some (asked.VersionSpecifier list)) h = h
specifiers_said vars (Specifiers given) (Some (asked.Url url)) h = absurd h
specifiers_said vars (Url text) None h = absurd h
specifiers_said vars (Url text) (Some (asked.VersionSpecifier list)) h = absurd h
specifiers_said vars (Url text) (Some (asked.Url url)) h = none_in_order

module _ (vars : Variables) (old new : List NodeRecord) (keeps : Extends old new) where
  one_kept : (line : Line) (said : LineRecord) → StandsFor vars old line said → Keeps new (kept_by (given_by line)) said
  one_kept line said h = record {
    number = h.number;
    extras = h.extras;
    marker = record {
      made = tree_kept old new keeps line.requirement.marker h.tree.made;
      truth = λ v. holds_kept old new keeps line.requirement.marker h.tree.made v ∙ h.tree.truth v;
    };
    url = url_said vars said.front.source line.requirement.version_or_url h.asks;
    bounded = refl;
    specifiers = specifiers_said vars said.front.source line.requirement.version_or_url h.asks;
  }

  kept_if : (b : Bool) (line : Line) (said : LineRecord) (lines : List Line) (saids : List LineRecord) → StandsFor vars old line said →
      AllZip (Keeps new) (map kept_by (map given_by lines)) saids →
      AllZip (Keeps new) (map kept_by (map given_by (cond b (line ∷ lines) lines))) (cond b (said ∷ saids) saids)
  kept_if true line said lines saids h rest = (one_kept line said h, rest)
  kept_if false line said lines saids h rest = rest

  -- the lines of a package are kept
  pub lines_kept : (q : List ℕ) (lines : List Line) (said : List LineRecord) → AllZip (StandsFor vars old) lines said →
      AllZip (Keeps new) (map kept_by (map given_by (filter (is_under q) lines))) (lines_of q said)
  lines_kept q [] [] h = tt
  lines_kept q [] (one ∷ said) h = absurd h
  lines_kept q (line ∷ lines) [] h = absurd h
  lines_kept q (line ∷ lines) (one ∷ said) h =
      subst (λ b. AllZip (Keeps new) (map kept_by (map given_by (filter (is_under q) (line ∷ lines))))
      (cond b (one ∷ lines_of q said) (lines_of q said)))
      (ap (bytes_eq q) h.0.name)
      (kept_if (is_under q line) line one (filter (is_under q) lines) (lines_of q said) h.0 (lines_kept q lines said h.1))

  pub named_alike : (q : List ℕ) (lines : List Line) (said : List LineRecord) → AllZip (StandsFor vars old) lines said →
      list_any (is_under q) lines ≡ is_named q said
  named_alike q [] [] h = refl
  named_alike q [] (one ∷ said) h = absurd h
  named_alike q (line ∷ lines) [] h = absurd h
  named_alike q (line ∷ lines) (one ∷ said) h =
      let rest = named_alike q lines said h.1 in
      (λ i. bytes_eq q (h.0.name i) || rest i)

-- ---- which lines apply

marks_at : (nodes : List NodeRecord) (kept : List KeptLine) (said : List LineRecord) → AllZip (Keeps nodes) kept said →
    (v : Valuation) → marks_of nodes (map (λ line. line.marker) kept) v ≡ line_marks said v
marks_at nodes [] [] h v = refl
marks_at nodes [] (one ∷ said) h v = absurd h
marks_at nodes (line ∷ kept) [] h v = absurd h
marks_at nodes (line ∷ kept) (one ∷ said) h v =
    let first = h.0.marker.truth v in
    let rest = marks_at nodes kept said h.1 v in
    (λ i. first i ∷ rest i)

-- kept lines apply where those of the text do
pub marks_said : (nodes : List NodeRecord) (kept : List KeptLine) (said : List LineRecord) → AllZip (Keeps nodes) kept said →
    marks_of nodes (map (λ (line : KeptLine). line.marker) kept) ≡ line_marks said
marks_said nodes kept said h = λ i v. marks_at nodes kept said h v i
