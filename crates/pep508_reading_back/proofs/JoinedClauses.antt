-- Clauses of comparisons that are read are the text of a marker: clauses of several comparisons in brackets.
use Rattle.std.proofs.Common.{◌≡◌, ◌⊎◌, ℕ, ◌<◌, zero, suc, List, [], ◌∷◌, ◌++◌, length, map, inl, inr, refl}
use Rattle.std.proofs.Common.{ap, sym, subst, ◌∙◌, arith, append_assoc}
use Rattle.std.proofs.lemmas.List.{append-nil}
use Rattle.std.proofs.lemmas.Str.{chars-append, IsUtf8-append, IsUtf8-from_ascii}
use Rattle.std.specs.List.{AllByRecursion}
use Rattle.std.specs.Prelude.{codes}
use Rattle.std.specs.Str.{chars, IsUtf8}
use Rattle.pep508_marker.specs.Expression.{ExpressionRecord, expression_text}
use Rattle.pep508_comparison_parser.specs.SideReading.{ends_key}
use Rattle.pep508_marker_parser.specs.Formula.{LeftOut}
use Rattle.pep508_marker_parser.specs.MarkerReading.{Marker, And, Or}
use Rattle.pep508_marker_parser.specs.MarkerText.{IsBefore, IsComparisonText, IsEnclosed, join_all, IsJoined}
use Rattle.pep508_marker_parser.specs.MarkerText.{IsEither, IsFormulaText, IsMarkerText}
use Rattle.pep508_marker_text_laws.specs.Saying.{Clause}
use Rattle.pep508_marker_text_laws.specs.MarkerText.{clause_text, bracketed_text, clauses_text}
use Rattle.pep508_reading_back.proofs.Plain.{ascii_by, ascii_chars, front_chars}
use Rattle.pep508_reading_back.proofs.Joining.{Piece, Leads, comparison_leads, enclosed_leads, joined_leads}
use Rattle.pep508_reading_back.proofs.Joining.{Pieces, joined_utf8, joined_read}

-- what stands beside others, where brackets nest at most so deep
abbrev pub Part : ℕ → Piece
Part depth =
    λ cs marker rest. IsComparisonText cs marker rest ⊎ IsEnclosed (IsFormulaText depth) cs marker rest

part_leads : (depth : ℕ) → Leads (Part depth)
part_leads depth cs marker rest (inl h) = inl (comparison_leads cs marker rest h)
part_leads depth cs marker rest (inr h) = inr (enclosed_leads (IsFormulaText depth) cs marker rest h)

pub either_leads : (depth : ℕ) → Leads (IsJoined And (Part depth))
either_leads depth cs marker rest h = record {
  first = h.first;
  others = h.others;
  are_joined = joined_leads And (Part depth) (part_leads depth) cs (h.first ∷ h.others) rest h.are_joined;
  joined = h.joined;
}

bracketed_chars : (text rest : List ℕ) → IsUtf8 text →
    chars (codes "(" ++ text ++ codes ")") ++ rest ≡ 40 ∷ (chars text ++ (41 ∷ rest))
bracketed_chars text rest u =
    ap (λ cs. cs ++ rest) (front_chars (codes "(") (text ++ codes ")") (ascii_by (codes "(") refl)
    ∙ ap (λ cs. 40 ∷ cs) (chars-append text (codes ")") u
    ∙ ap (λ cs. chars text ++ cs) (ascii_chars (codes ")") (ascii_by (codes ")") refl))))
    ∙ ap (λ cs. 40 ∷ cs) (append_assoc (chars text) (codes ")") rest)

-- ---- what is read

module _ (marked : ExpressionRecord → Marker) where
  -- what a clause is read as; an empty one is none
  abbrev pub marker_of_clause : Clause → Marker
  marker_of_clause [] = record { formula = LeftOut; warned = [] }
  marker_of_clause (term ∷ terms) = join_all And (marked term) (map marked terms)

  abbrev pub marker_of_clauses : List Clause → Marker
  marker_of_clauses [] = record { formula = LeftOut; warned = [] }
  marker_of_clauses (clause ∷ clauses) = join_all Or (marker_of_clause clause) (map marker_of_clause clauses)

-- some terms, each of which is good
abbrev pub SomeGood : (ExpressionRecord → Type 0) → Clause → Type 0
SomeGood good clause = (0 < length clause) × AllByRecursion good clause

module _ {marked : ExpressionRecord → Marker} {good : ExpressionRecord → Type 0}
    (p : Pieces expression_text marked good IsComparisonText) where
  -- ---- clauses without brackets

  module _ (piece : Piece) (leads : Leads piece)
      (one : (cs : List ℕ) (marker : Marker) (rest : List ℕ) → IsComparisonText cs marker rest →
      piece cs marker rest)
    where
      terms_read : Pieces expression_text marked good piece
      terms_read = record {
        encoded = p.encoded;
        reads = λ term rest h ends. one (chars (expression_text term) ++ rest) (marked term) rest
            (p.reads term rest h ends);
        leads = leads;
      }

      clause_joined : (clause : Clause) (rest : List ℕ) → SomeGood good clause → IsBefore ends_key rest →
          IsJoined And piece (chars (clause_text clause) ++ rest) (marker_of_clause marked clause) rest
      clause_joined [] rest h ends = absurd (omega (arith, h.0))
      clause_joined (term ∷ terms) rest h ends = record {
        first = marked term;
        others = map marked terms;
        are_joined = joined_read terms_read And term terms rest h.1.0 h.1.1 ends;
        joined = refl;
      }

      clause_alone : (clause : Clause) (rest : List ℕ) → SomeGood good clause → IsBefore ends_key rest →
          IsEither piece (chars (clause_text clause) ++ rest) (marker_of_clause marked clause) rest
      clause_alone clause rest h ends = record {
        first = marker_of_clause marked clause;
        others = [];
        are_joined = clause_joined clause rest h ends;
        joined = refl;
      }

  clause_utf8 : (clause : Clause) → SomeGood good clause → IsUtf8 (clause_text clause)
  clause_utf8 [] h = absurd (omega (arith, h.0))
  clause_utf8 (term ∷ terms) h = joined_utf8 p And term terms h.1.0 h.1.1

  clause_formula : (depth : ℕ) (clause : Clause) (rest : List ℕ) → SomeGood good clause →
      IsBefore ends_key rest →
      IsFormulaText depth (chars (clause_text clause) ++ rest) (marker_of_clause marked clause) rest
  clause_formula zero clause rest h ends =
      clause_alone IsComparisonText comparison_leads (λ cs marker rest k. k) clause rest h ends
  clause_formula (suc depth) clause rest h ends =
      clause_alone (Part depth) (part_leads depth) (λ cs marker rest k. inl k) clause rest h ends

  -- ---- clauses beside others

  bracketed_read : (depth : ℕ) (clause : Clause) (rest : List ℕ) → SomeGood good clause →
      IsBefore ends_key rest →
      IsJoined And (Part depth) (chars (bracketed_text clause) ++ rest) (marker_of_clause marked clause) rest
  bracketed_read depth [] rest h ends = absurd (omega (arith, h.0))
  bracketed_read depth (term ∷ []) rest h ends =
      clause_joined (Part depth) (part_leads depth) (λ cs marker rest k. inl k) (term ∷ []) rest h ends
  bracketed_read depth (term ∷ other ∷ terms) rest h ends =
      let clause : Clause = term ∷ other ∷ terms in
      let marker : Marker = marker_of_clause marked clause in
      let inside : List ℕ = chars (clause_text clause) ++ (41 ∷ rest) in
      let enclosed : IsEnclosed (IsFormulaText depth) (40 ∷ inside) marker rest = record {
        inside = inside;
        behind = 41 ∷ rest;
        opens = ([], refl, tt);
        is_piece = clause_formula depth clause (41 ∷ rest) h (inr refl);
        closes = ([], refl, tt);
      } in
      record {
        first = marker;
        others = [];
        are_joined = subst (λ cs. Part depth cs marker rest)
            (sym (bracketed_chars (clause_text clause) rest (clause_utf8 clause h))) (inr enclosed);
        joined = refl;
      }

  bracketed_utf8 : (clause : Clause) → SomeGood good clause → IsUtf8 (bracketed_text clause)
  bracketed_utf8 [] h = absurd (omega (arith, h.0))
  bracketed_utf8 (term ∷ []) h = clause_utf8 (term ∷ []) h
  bracketed_utf8 (term ∷ other ∷ terms) h =
      let text = clause_text (term ∷ other ∷ terms) in
      IsUtf8-append (codes "(") (text ++ codes ")")
      (IsUtf8-from_ascii (codes "(") (ascii_by (codes "(") refl))
      (IsUtf8-append text (codes ")") (clause_utf8 (term ∷ other ∷ terms) h)
      (IsUtf8-from_ascii (codes ")") (ascii_by (codes ")") refl)))

  clauses_read : (depth : ℕ) →
      Pieces bracketed_text (marker_of_clause marked) (SomeGood good) (IsJoined And (Part depth))
  clauses_read depth = record {
    encoded = bracketed_utf8;
    reads = bracketed_read depth;
    leads = either_leads depth;
  }

  -- ---- all clauses

  clauses_formula : (depth : ℕ) (clauses : List Clause) (rest : List ℕ) → 0 < length clauses →
      AllByRecursion (SomeGood good) clauses → IsBefore ends_key rest →
      IsFormulaText (suc depth) (chars (clauses_text clauses) ++ rest) (marker_of_clauses marked clauses) rest
  clauses_formula depth [] rest some h ends = absurd (omega (arith, some))
  clauses_formula depth (clause ∷ []) rest some h ends = clause_formula (suc depth) clause rest h.0 ends
  clauses_formula depth (clause ∷ other ∷ clauses) rest some h ends = record {
    first = marker_of_clause marked clause;
    others = map (marker_of_clause marked) (other ∷ clauses);
    are_joined = joined_read (clauses_read depth) Or clause (other ∷ clauses) rest h.0 h.1 ends;
    joined = refl;
  }

  -- some clauses, each of some good terms
  pub all_written : (clauses : List Clause) → 0 < length clauses → AllByRecursion (SomeGood good) clauses →
      IsMarkerText (chars (clauses_text clauses)) (marker_of_clauses marked clauses)
  all_written clauses some h = (
    [],
    subst (λ cs. IsFormulaText 256 cs (marker_of_clauses marked clauses) [])
        (append-nil (chars (clauses_text clauses))) (clauses_formula 255 clauses [] some h (inl refl)),
    tt,
  )
