-- Lines that were restricted stand for restricted records.
use Rattle.std.proofs.Common.{◌≡◌, ◌∙◌, ◌&&◌, List, [], ◌∷◌, ◌++◌, Option, All, map, refl, ap, sym, subst}
use Rattle.std.specs.List.{AllZip}
use Rattle.std.proofs.lemmas.List.Elements.{All-cons, All-head, All-tail}
use Rattle.std.specs.List.Sorted.{IsStrictlySortedBy}
use Rattle.std.specs.Ordering.{nat_cmp}
use Rattle.pep508_url.specs.Vars.{Variables}
use Rattle.pep508_url.specs.UrlTexts.{Verbatim}
use Rattle.pep508_url.specs.declared.url_error.VerbatimUrlError.{VerbatimUrlError}
use Rattle.pep508_expression.specs.Expressions.{expression_holds}
use Rattle.pep508_marker.specs.Expression.{ExpressionRecord}
use Rattle.pep508_marker_parser.specs.MarkerOutcome.{IsTreeOf}
use Rattle.pep508_requirement.specs.RequirementReading.{AsksFor}
use Rattle.pep508_requirement.specs.declared.version_or_url.VersionOrUrl.{VersionOrUrl}
use Rattle.pep508_tree.specs.Tree.{Tree}
use Rattle.pep508_tree.specs.Meaning.{NodeRecord, Extends, IsTree}
use Rattle.pep508_tree.proofs.Conjoining.{tree_kept}
use Rattle.pep508_tree.proofs.Diagrams.{holds_kept}
use Rattle.pep440_specifier.specs.Matching.{SpecifierRecord}
use Rattle.pep440_specifier_list.specs.ListReading.{IsReadFromText}
use Rattle.reqtable_candidates.proofs.Lines.{all_zip_map, zip_more}
use Rattle.reqtable_requirements.specs.Asks.{AreOfNodes}
use Rattle.reqtable_requirements.specs.LineReading.{LineRecord}
use Rattle.reqtable_requirements.specs.LineSpecifiers.{specifiers_in}
use Rattle.reqtable_requirements.specs.ReadLines.{AreRead}
use Rattle.reqtable_requirements.specs.Requirements.{ReadsUrl, StandsFor}
use Rattle.reqtable_requirements.specs.declared.requirements.Line.{Line}
use Rattle.reqtable_assumption.specs.Restricted.{IsRestricted}
use Rattle.reqtable_assumption.specs.Where.{Condition, line_where, lines_where}
use Rattle.reqtable_assumption.proofs.Asked.{both}

-- a line among lines whose markers are trees of these nodes
pub marker_at : (nodes : List NodeRecord) (done : List Line) (line : Line) (rest : List Line)
    → AreOfNodes nodes (done ++ line ∷ rest) → IsTree nodes line.requirement.marker
marker_at nodes [] line rest h = h.0
marker_at nodes (d ∷ done) line rest h = marker_at nodes done line rest h.1

-- one more line was restricted, while nodes were added to the first ones
module _ (old now new : List NodeRecord) (condition : Tree) (before : Extends old now) (more : Extends now new)
    (is : IsTree old condition) where
  kept : (made line : Line) → IsRestricted old now condition made line → IsRestricted old new condition made line
  kept made line h = record {
    same = h.same;
    is_tree = tree_kept now new more made.requirement.marker h.is_tree;
    means = λ v. holds_kept now new more made.requirement.marker h.is_tree v ∙ h.means v;
  }

  since : (made line : Line) → IsTree old line.requirement.marker → IsRestricted now new condition made line
      → IsRestricted old new condition made line
  since made line marker h = record {
    same = h.same;
    is_tree = h.is_tree;
    means =
        λ v. h.means v
        ∙ (λ i. holds_kept old now before line.requirement.marker marker v i && holds_kept old now before condition is v i);
  }

  pub restricted_more : (made lines : List Line) (one line : Line)
      → AllZip (IsRestricted old now condition) made lines → IsTree old line.requirement.marker
      → IsRestricted now new condition one line
      → AllZip (IsRestricted old new condition) (made ++ one ∷ []) (lines ++ line ∷ [])
  restricted_more made lines one line h marker k =
      zip_more (IsRestricted old new condition) made lines one line
      (all_zip_map (IsRestricted old now condition) (IsRestricted old new condition) kept made lines h)
      (since one line marker k)

-- ---- what they stand for

module _ (vars : Variables) (old new : List NodeRecord) (condition : Tree) (formula : Condition)
    (is : IsTreeOf old condition formula) where
  line_stands : (made line : Line) (said : LineRecord) → IsRestricted old new condition made line
      → StandsFor vars old line said → StandsFor vars new made (line_where formula said)
  line_stands made line said h k = record {
    number = ap (λ (l : Line). l.number) h.same ∙ k.number;
    name = ap (λ (l : Line). l.requirement.name) h.same ∙ k.name;
    extras = ap (λ (l : Line). l.requirement.extras.items) h.same ∙ k.extras;
    asks =
        subst (λ (what : Option (VersionOrUrl Verbatim VerbatimUrlError)). AsksFor (ReadsUrl vars) said.front.source what)
        (sym (ap (λ (l : Line). l.requirement.version_or_url) h.same)) k.asks;
    tree = record {
      made = h.is_tree;
      truth =
          λ v. h.means v
          ∙ (λ i. k.tree.truth v i && is.truth v i)
          ∙ both (λ (e : ExpressionRecord). expression_holds e v) said.formula formula;
    };
  }

  pub lines_stand : (made lines : List Line) (said : List LineRecord)
      → AllZip (IsRestricted old new condition) made lines → AllZip (StandsFor vars old) lines said
      → AllZip (StandsFor vars new) made (lines_where formula said)
  lines_stand [] [] [] h k = tt
  lines_stand [] [] (s ∷ said) h k = absurd k
  lines_stand [] (l ∷ lines) said h k = absurd h
  lines_stand (m ∷ made) [] said h k = absurd h
  lines_stand (m ∷ made) (l ∷ lines) [] h k = absurd k
  lines_stand (m ∷ made) (l ∷ lines) (s ∷ said) h k =
      (line_stands m l s h.0 k.0, lines_stand made lines said h.1 k.1)

-- ---- their trees, and that they are lines that were read

module _ (old new : List NodeRecord) (condition : Tree) where
  numbers_same : (made lines : List Line) → AllZip (IsRestricted old new condition) made lines
      → map (λ line. line.number) made ≡ map (λ line. line.number) lines
  numbers_same [] [] h = refl
  numbers_same [] (l ∷ lines) h = absurd h
  numbers_same (m ∷ made) [] h = absurd h
  numbers_same (m ∷ made) (l ∷ lines) h =
      λ i. ap (λ (x : Line). x.number) h.0.same i ∷ numbers_same made lines h.1 i

  pub are_trees : (made lines : List Line) → AllZip (IsRestricted old new condition) made lines → AreOfNodes new made
  are_trees [] [] h = tt
  are_trees [] (l ∷ lines) h = absurd h
  are_trees (m ∷ made) [] h = absurd h
  are_trees (m ∷ made) (l ∷ lines) h = (h.0.is_tree, are_trees made lines h.1)

  all_read : (made lines : List Line) → AllZip (IsRestricted old new condition) made lines
      → All (λ line. All IsReadFromText (specifiers_in line)) lines
      → All (λ line. All IsReadFromText (specifiers_in line)) made
  all_read [] [] h k = k
  all_read [] (l ∷ lines) h k = absurd h
  all_read (m ∷ made) [] h k = absurd h
  all_read (m ∷ made) (l ∷ lines) h k =
      let P : Line → Type 0 = λ line. All IsReadFromText (specifiers_in line) in
      let same : specifiers_in m ≡ specifiers_in l = ap specifiers_in h.0.same in
      All-cons P m made
      (subst (λ (members : List SpecifierRecord). All IsReadFromText members) (sym same) (All-head P l lines k))
      (all_read made lines h.1 (All-tail P l lines k))

  pub still_read : (made lines : List Line) → AllZip (IsRestricted old new condition) made lines → AreRead lines
      → AreRead made
  still_read made lines h k = record {
    rising = subst (IsStrictlySortedBy nat_cmp) (sym (numbers_same made lines h)) k.rising;
    read = all_read made lines h k.read;
  }
