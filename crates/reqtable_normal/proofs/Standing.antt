-- What is written of lines that were read is what the records say that they stand for.
use Rattle.std.proofs.Common.{◌≡◌, ◌∙◌, ℕ, suc, ◌+◌, ◌<◌, List, [], ◌∷◌, ◌++◌, length, take, drop, drop-cons}
use Rattle.std.proofs.Common.{get_or, map, not, Option, Some, None, Result, Ok, Err, refl, ap, sym, subst}
use Rattle.std.proofs.Common.{append_assoc}
use Rattle.std.proofs.lemmas.List.{map-append, take-append-drop, take_more}
use Rattle.std.proofs.lemmas.List.Elements.{filter-append}
use Rattle.std.specs.List.{AllByRecursion, AllZip, flat_map}
use Rattle.std.specs.Prelude.{String}
use Rattle.std.specs.Result.{IsErrAnd}
use Rattle.version_ranges.proofs.Membership.{all_append}
use Rattle.pep508_requirement.specs.RequirementReading.{AsksFor}
use Rattle.pep508_requirement.specs.declared.version_or_url.VersionOrUrl.{VersionOrUrl}
use Rattle.pep508_requirement.specs.declared.version_or_url.VersionOrUrl.TheVariants as asked
use Rattle.pep508_requirement_text.specs.FrontReading.{Source}
use Rattle.pep508_requirement_text.specs.FrontReading.Source.{Any, Specifiers, Url}
use Rattle.pep508_tree.specs.Meaning.{NodeRecord}
use Rattle.pep508_tree.specs.Nodes.{AreSound}
use Rattle.pep508_tree.proofs.OneTree.{canonical_trees}
use Rattle.pep508_tree.proofs.Shortened.{short_trees}
use Rattle.pep508_url.specs.UrlTexts.{Verbatim}
use Rattle.pep508_url.specs.Vars.{Variables}
use Rattle.pep508_url.specs.declared.url_error.VerbatimUrlError.{VerbatimUrlError}
use Rattle.reqtable_answer.specs.Says.{SaysSource, wanted_seen}
use Rattle.reqtable_requirements.specs.LineReading.{LineRecord}
use Rattle.reqtable_requirements.specs.Requirements.{ReadsUrl, StandsFor}
use Rattle.reqtable_requirements.specs.declared.requirements.Line.{Line}
use Rattle.reqtable_normal.specs.Normalized.{NormalLine, IsNormalOf, IsNormalText}
use Rattle.reqtable_normal.specs.Normalized.{normal_fault, never_holds, line_text, lines_text, kept}
use Rattle.reqtable_normal.specs.Seen.{line_normal, error_of, PushesLine}
use Rattle.reqtable_normal.specs.Bounded.{line_error, IsPrintable, IsFirstError, NormalizesWithin}
use Rattle.reqtable_normal.proofs.Unbounded.{no_fault}
use Rattle.reqtable_normal.specs.declared.error.NormalError.{NormalError}
use Rattle.reqtable_normal.specs.declared.error.NormalError.TheVariants as errors

source_said : (vars : Variables) (source : Source) (what : Option (VersionOrUrl Verbatim VerbatimUrlError)) →
    AsksFor (ReadsUrl vars) source what → SaysSource (wanted_seen what) source
source_said vars Any None h = tt
source_said vars Any (Some what) h = absurd h
source_said vars (Specifiers given) None h = absurd h
source_said vars (Specifiers given) (Some (asked.VersionSpecifier list)) h = h
source_said vars (Specifiers given) (Some (asked.Url url)) h = absurd h
source_said vars (Url text) None h = absurd h
source_said vars (Url text) (Some (asked.VersionSpecifier list)) h = absurd h
source_said vars (Url text) (Some (asked.Url url)) h = tt

-- ---- the text of some lines

joined_more : {X : Type 0} (f : X → List ℕ) (xs ys : List X) →
    flat_map f (xs ++ ys) ≡ flat_map f xs ++ flat_map f ys
joined_more f [] ys = refl
joined_more f (x ∷ xs) ys =
    ap (λ t. f x ++ t) (joined_more f xs ys) ∙ sym (append_assoc (f x) (flat_map f xs) (flat_map f ys))

text_more : (lines others : List NormalLine) →
    lines_text (lines ++ others) ≡ lines_text lines ++ lines_text others
text_more lines others =
    ap (λ ls. flat_map line_text ls) (filter-append (λ line. not (never_holds line.diagram)) lines others)
    ∙ joined_more line_text (kept lines) (kept others)

module _ (nodes : List NodeRecord) where
  abbrev pub normals : List Line → List NormalLine
  normals lines = map (line_normal nodes) lines

  -- the text is that of these lines, all of which are printable
  pub record AreWritten (most : Option ℕ) (lines : List Line) (text : List ℕ) : Type 0 where
    pub printable : AllByRecursion (λ line. error_of most nodes line ≡ None) lines
    pub is_text : text ≡ lines_text (normals lines)

  module _ (lines : List Line) (i : ℕ) (line : Line) (below : i < length lines)
      (is : line ≡ get_or lines i line) where
    one_taken : take (i + 1) lines ≡ take i lines ++ line ∷ []
    one_taken = take_more lines i line below ∙ ap (λ l. take i lines ++ l ∷ []) (sym is)

    more : normals (take (i + 1) lines) ≡ normals (take i lines) ++ line_normal nodes line ∷ []
    more = ap normals one_taken ∙ map-append (line_normal nodes) (take i lines) (line ∷ [])

    pub one_more : (most : Option ℕ) (old new : List ℕ) → AreWritten most (take i lines) old →
        error_of most nodes line ≡ None →
        new ≡ old ++ lines_text (line_normal nodes line ∷ []) → AreWritten most (take (i + 1) lines) new
    one_more most old new h none e = record {
      printable = subst (AllByRecursion (λ line. error_of most nodes line ≡ None)) (sym one_taken)
          (all_append (λ line. error_of most nodes line ≡ None) (take i lines) (line ∷ []) h.printable (none, tt));
      is_text = e ∙ ap (λ t. t ++ lines_text (line_normal nodes line ∷ [])) h.is_text
          ∙ sym (text_more (normals (take i lines)) (line_normal nodes line ∷ [])) ∙ ap lines_text (sym more);
    }

    split : lines ≡ take i lines ++ line ∷ drop (suc i) lines
    split =
        sym (take-append-drop i lines)
        ∙ ap (λ ls. take i lines ++ ls)
        (drop-cons lines i line below ∙ ap (λ l. l ∷ drop (suc i) lines) (sym is))

  -- ---- what they stand for

  module _ (vars : Variables) (sound : AreSound nodes) where
    one_normal : (line : Line) (said : LineRecord) → StandsFor vars nodes line said →
        IsNormalOf said (line_normal nodes line)
    one_normal line said h = record {
      front = record {
        name = h.name;
        extras = h.extras;
        source = source_said vars said.front.source line.requirement.version_or_url h.asks;
      };
      diagram = record {
        canonical = canonical_trees nodes sound line.requirement.marker h.tree.made;
        short = short_trees nodes sound line.requirement.marker h.tree.made;
        means = h.tree.truth;
      };
    }

    all_normal : (lines : List Line) (said : List LineRecord) → AllZip (StandsFor vars nodes) lines said →
        AllZip IsNormalOf said (normals lines)
    all_normal [] [] h = tt
    all_normal [] (s ∷ said) h = absurd h
    all_normal (line ∷ lines) [] h = absurd h
    all_normal (line ∷ lines) (s ∷ said) h = (one_normal line s h.0, all_normal lines said h.1)

    one_printable : (most : Option ℕ) (line : Line) (said : LineRecord) → StandsFor vars nodes line said →
        error_of most nodes line ≡ None → IsPrintable most said
    one_printable most line said h none = record {
      normal = line_normal nodes line;
      is_normal = one_normal line said h;
      no_error = ap (λ number. line_error most number (line_normal nodes line)) (sym h.number) ∙ none;
    }

    all_printable : (most : Option ℕ) (lines : List Line) (said : List LineRecord) →
        AllZip (StandsFor vars nodes) lines said →
        AllByRecursion (λ line. error_of most nodes line ≡ None) lines → AllByRecursion (IsPrintable most) said
    all_printable most [] [] h none = tt
    all_printable most [] (s ∷ said) h none = absurd h
    all_printable most (line ∷ lines) [] h none = absurd h
    all_printable most (line ∷ lines) (s ∷ said) h none =
        (one_printable most line s h.0 none.0, all_printable most lines said h.1 none.1)

    all_faultless : (most : Option ℕ) (lines : List Line) →
        AllByRecursion (λ line. error_of most nodes line ≡ None) lines →
        AllByRecursion (λ line. normal_fault line ≡ None) (normals lines)
    all_faultless most [] none = tt
    all_faultless most (line ∷ lines) none =
        (no_fault most line.number (line_normal nodes line) none.0, all_faultless most lines none.1)

    pub whole_text : (most : Option ℕ) (lines : List Line) (said : List LineRecord) (text : List ℕ) →
        AreWritten most lines text → AllZip (StandsFor vars nodes) lines said →
        AllByRecursion (IsPrintable most) said × IsNormalText said text
    whole_text most lines said text h stand = (
      all_printable most lines said stand h.printable,
      record {
        lines = normals lines;
        are_normal = all_normal lines said stand;
        faultless = all_faultless most lines h.printable;
        is_text = h.is_text;
      },
    )

    -- records of which the lines in front are printable
    error_behind : (most : Option ℕ) (front : List Line) (line : Line) (back : List Line) (said : List LineRecord)
        (error : NormalError) → AllByRecursion (λ line. error_of most nodes line ≡ None) front →
        error_of most nodes line ≡ Some error → AllZip (StandsFor vars nodes) (front ++ line ∷ back) said →
        IsFirstError most said error
    error_behind most [] line back [] error none is stand = absurd stand
    error_behind most [] line back (s ∷ said) error none is stand = record {
      front = [];
      line = s;
      back = said;
      normal = line_normal nodes line;
      split = refl;
      before = tt;
      is_normal = one_normal line s stand.0;
      is_error =
          ap (λ number. line_error most number (line_normal nodes line)) (sym stand.0.number) ∙ is;
    }
    error_behind most (first ∷ front) line back [] error none is stand = absurd stand
    error_behind most (first ∷ front) line back (s ∷ said) error none is stand =
        let rest = error_behind most front line back said error none.1 is stand.1 in
        record {
          front = s ∷ rest.front;
          line = rest.line;
          back = rest.back;
          normal = rest.normal;
          split = ap (λ ls. s ∷ ls) rest.split;
          before = (one_printable most first s stand.0 none.0, rest.before);
          is_normal = rest.is_normal;
          is_error = rest.is_error;
        }

    first_error : (most : Option ℕ) (lines : List Line) (i : ℕ) (line : Line) → i < length lines →
        line ≡ get_or lines i line → (old : List ℕ) → AreWritten most (take i lines) old →
        (error : NormalError) → error_of most nodes line ≡ Some error → (said : List LineRecord) →
        AllZip (StandsFor vars nodes) lines said → IsFirstError most said error
    first_error most lines i line below is old h error e said stand =
        error_behind most (take i lines) line (drop (suc i) lines) said error h.printable e
        (subst (λ ls. AllZip (StandsFor vars nodes) ls said) (split lines i line below is) stand)

    -- so is the refusal of all lines for that of one
    pub refused : (X Y : Type 0) (most : Option ℕ) (lines : List Line) (i : ℕ) (line : Line) → i < length lines →
        line ≡ get_or lines i line → (old new : List ℕ) → AreWritten most (take i lines) old →
        (error : NormalError) →
        PushesLine {X = X} most nodes line old new (Err error) → (said : List LineRecord) →
        AllZip (StandsFor vars nodes) lines said → NormalizesWithin {Y = Y} most said (Err error)
    refused X Y most lines i line below is old new h (errors.Line number cause) e said stand =
        first_error most lines i line below is old h (errors.Line number cause) e said stand
    refused X Y most lines i line below is old new h (errors.TooManyClauses number) e said stand =
        first_error most lines i line below is old h (errors.TooManyClauses number) e said stand
    refused X Y most lines i line below is old new h errors.Memory e said stand = tt

pub passed_on : {Y : Type 0} (most : Option ℕ) (said : List LineRecord) (result : Result (String Y) NormalError)
    (error : NormalError) → IsErrAnd result (λ e. e ≡ error) → NormalizesWithin {Y = Y} most said (Err error) →
    NormalizesWithin most said result
passed_on most said (Ok text) error h is = absurd h
passed_on {Y = Y} most said (Err e) error h is =
    let P : NormalError → Type 0 = λ e. NormalizesWithin {Y = Y} most said (Err e) in subst P (sym h) is
