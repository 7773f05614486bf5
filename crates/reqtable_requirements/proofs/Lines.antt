-- Lines that are read of a text, and the same with trees, which stay trees of their formulas while nodes are added.
use Rattle.std.proofs.Common.{◌≡◌, ◌∙◌, ℕ, List, [], ◌∷◌, ◌++◌, Option, Result, Ok, Err, ap, sym, subst}
use Rattle.std.specs.List.{AllZip}
use Rattle.std.specs.Result.{IsErrAnd}
use Rattle.read_outcome.specs.Outcome.{Tells}
use Rattle.pep508_url.specs.Vars.{Variables}
use Rattle.pep508_url.specs.UrlTexts.{Verbatim}
use Rattle.pep508_url.specs.declared.url_error.VerbatimUrlError.{VerbatimUrlError}
use Rattle.pep508_formula.specs.Postfix.{formula_of}
use Rattle.pep508_requirement.specs.declared.version_or_url.VersionOrUrl.{VersionOrUrl}
use Rattle.pep508_requirement.specs.RequirementReading.{AsksFor}
use Rattle.pep508_tree.specs.Meaning.{NodeRecord, Extends}
use Rattle.pep508_tree.proofs.Conjoining.{tree_kept}
use Rattle.pep508_tree.proofs.Diagrams.{holds_kept}
use Rattle.pep508_marker_parser.specs.MarkerOutcome.{IsTreeOf}
use Rattle.std.specs.Str.{IsUtf8}
use Rattle.reqtable_candidates.specs.TextLines.{text_lines, each_line}
use Rattle.reqtable_candidates.proofs.Lines.{all_zip_map, zip_more, each_more, tells_all}
use Rattle.reqtable_candidates.proofs.Texts.{text_is_read}
use Rattle.reqtable_requirements.specs.LineReading.{LineRecord, LinesFault, NotText, line_of}
use Rattle.reqtable_requirements.specs.Requirements.{ReadsUrl, requirements_of, StandsFor, SaysLine}
use Rattle.reqtable_requirements.specs.Requirements.{told_requirements, IsErrorOf, IsErrorIn, ReadsLine, ReadsLines}
use Rattle.reqtable_requirements.specs.declared.marked.MarkedLine.{MarkedLine}
use Rattle.reqtable_requirements.specs.declared.requirements.Line.{Line}
use Rattle.reqtable_requirements.specs.declared.requirements.RequirementsError.{RequirementsError}
use Rattle.reqtable_requirements.specs.declared.requirements.RequirementsError.TheVariants as errors

tree_of_kept : (old new : List NodeRecord) → Extends old new → (tree : _) (formula : _) → IsTreeOf old tree formula
    → IsTreeOf new tree formula
tree_of_kept old new more tree formula h = record {
  made = tree_kept old new more tree h.made;
  truth = λ v. holds_kept old new more tree h.made v ∙ h.truth v;
}

-- what was read of some texts
abbrev pub AreReadOf : Variables → List (ℕ × List ℕ) → List MarkedLine → Type 0
AreReadOf vars texts lines =
    (said : List LineRecord) × (each_line (line_of vars) texts ≡ Ok said) × AllZip (SaysLine vars) lines said

module _ (vars : Variables) (texts : List (ℕ × List ℕ)) (lines : List MarkedLine) (read : AreReadOf vars texts lines)
    (text : ℕ × List ℕ) where
  -- one more line is read
  pub one_more : (line : MarkedLine) → ReadsLine vars text.0 text.1 (Ok line)
      → AreReadOf vars (texts ++ text ∷ []) (lines ++ line ∷ [])
  one_more line h = (
    read.0 ++ h.0 ∷ [],
    each_more (line_of vars) texts read.0 text h.0 read.1 h.1,
    zip_more (SaysLine vars) lines read.0 line h.0 read.2 h.2,
  )

  error_in : (all back : List (ℕ × List ℕ)) (error : RequirementsError) → all ≡ texts ++ text ∷ back
      → Tells (told_requirements error) (line_of vars text.0 text.1) → IsErrorOf vars text.0 text.1 error
      → IsErrorIn vars all error
  error_in all back (errors.NotText offset) e t h = tt
  error_in all back (errors.Line number error) e t h =
      (texts, text.1, back, e ∙ ap (λ n. texts ++ (n, text.1) ∷ back) (sym h.0), h.1)
  error_in all back (errors.NumberAtEnd number) e t h = tt
  error_in all back (errors.TooManyNodes number most) e t h = absurd h
  error_in all back errors.Memory e t h = tt

  -- the next line is refused
  pub refused : (all back : List (ℕ × List ℕ)) (error : RequirementsError) → all ≡ texts ++ text ∷ back
      → ReadsLine vars text.0 text.1 (Err error)
      → Tells (told_requirements error) (each_line (line_of vars) all) × IsErrorIn vars all error
  refused all back error e h = (
    tells_all (line_of vars) all texts read.0 text back (told_requirements error) e read.1 h.0,
    error_in all back error e h.0 h.1,
  )

-- an error that is passed on is that of what was read
pub lines_err : {X L : Type 0} (Stands : L → LineRecord → Type 0) (view : X → List L) (vars : Variables)
    (texts : List (ℕ × List ℕ)) (reading : Result (List LineRecord) LinesFault) (result : Result X RequirementsError)
    (error : RequirementsError) → IsErrAnd result (λ e. e ≡ error)
    → Tells (told_requirements error) reading × IsErrorIn vars texts error
    → ReadsLines Stands view vars texts reading result
lines_err Stands view vars texts reading (Ok x) error h r = absurd h
lines_err Stands view vars texts reading (Err e) error h r =
    let P : RequirementsError → Type 0 = λ e. Tells (told_requirements e) reading × IsErrorIn vars texts e in
    subst P (sym h) r

-- ---- lines with trees of their markers

-- the line has a tree of these nodes, and says what the one with a formula does
pub record HasTree (nodes : List NodeRecord) (line : Line) (marked : MarkedLine) : Type 0 where
  pub number : line.number ≡ marked.number
  pub name : line.requirement.name ≡ marked.requirement.name
  pub extras : line.requirement.extras.items ≡ marked.requirement.extras.items
  pub asks : line.requirement.version_or_url ≡ marked.requirement.version_or_url
  pub tree : IsTreeOf nodes line.requirement.marker (formula_of marked.requirement.formula)

pub tree_more : (old new : List NodeRecord) → Extends old new → (lines : List Line) (marked : List MarkedLine)
    → AllZip (HasTree old) lines marked → (line : Line) (next : MarkedLine) → HasTree new line next
    → AllZip (HasTree new) (lines ++ line ∷ []) (marked ++ next ∷ [])
tree_more old new more lines marked h line next k =
    zip_more (HasTree new) lines marked line next
    (all_zip_map (HasTree old) (HasTree new)
    (λ l m t. record {
      number = t.number;
      name = t.name;
      extras = t.extras;
      asks = t.asks;
      tree = tree_of_kept old new more l.requirement.marker (formula_of m.requirement.formula) t.tree;
    }) lines marked h) k

module _ (vars : Variables) (nodes : List NodeRecord) where
  line_stands : (line : Line) (marked : MarkedLine) (said : LineRecord) → HasTree nodes line marked
      → SaysLine vars marked said → StandsFor vars nodes line said
  line_stands line marked said h k = record {
    number = h.number ∙ k.number;
    name = h.name ∙ k.name;
    extras = h.extras ∙ k.extras;
    asks =
        subst (λ (what : Option (VersionOrUrl Verbatim VerbatimUrlError)). AsksFor (ReadsUrl vars) said.front.source what)
        (sym h.asks) k.asks;
    tree = subst (IsTreeOf nodes line.requirement.marker) k.formula h.tree;
  }

  pub lines_stand : (lines : List Line) (marked : List MarkedLine) (said : List LineRecord)
      → AllZip (HasTree nodes) lines marked → AllZip (SaysLine vars) marked said
      → AllZip (StandsFor vars nodes) lines said
  lines_stand [] [] [] h k = tt
  lines_stand [] [] (s ∷ said) h k = absurd k
  lines_stand [] (m ∷ marked) said h k = absurd h
  lines_stand (l ∷ lines) [] said h k = absurd h
  lines_stand (l ∷ lines) (m ∷ marked) [] h k = absurd k
  lines_stand (l ∷ lines) (m ∷ marked) (s ∷ said) h k =
      (line_stands l m s h.0 k.0, lines_stand lines marked said h.1 k.1)

-- what is told of the lines of a text is told of its bytes
pub text_err : (vars : Variables) (bytes text : List ℕ) (error : RequirementsError) → IsUtf8 bytes → text ≡ bytes
    → Tells (told_requirements error) (each_line (line_of vars) (text_lines text)) × IsErrorIn vars (text_lines text) error
    → Tells (told_requirements error) (requirements_of vars bytes) × IsErrorIn vars (text_lines bytes) error
text_err vars bytes text error u e h =
    let P : List ℕ → Type 0 = λ t. Tells (told_requirements error) (each_line (line_of vars) (text_lines t)) × IsErrorIn vars (text_lines t) error in
    let Q : Result (List LineRecord) LinesFault → Type 0 = λ reading. Tells (told_requirements error) reading in
    let whole : Tells (told_requirements error) (each_line (line_of vars) (text_lines bytes)) × IsErrorIn vars (text_lines bytes) error = subst P e h in
    (subst Q (sym (text_is_read (line_of vars) NotText bytes u)) whole.0, whole.1)
