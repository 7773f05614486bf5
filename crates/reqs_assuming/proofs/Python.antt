-- The error for a text that is no list of specifiers.
use Rattle.std.proofs.Common.{◌≡◌, ◌≢◌, ◌∙◌, ◌⊎◌, ◌-◌, ℕ, List, Option, Some, None, String, string_bytes, inl, inr}
use Rattle.std.proofs.Common.{IfSome, IfOk, MatchResult, Result, Ok, Err, refl, sym, ap, subst, option_map, arith}
use Rattle.std.proofs.Common.{◌≤◌, length, drop}
use Rattle.std.proofs.lemmas.List.{length-drop}
use Rattle.std.proofs.lemmas.Option.{none-some}
use Rattle.std.specs.Global.{Global}
use Rattle.read_outcome.specs.Outcome.{Tells}
use Rattle.pep440_specifier.specs.SpecifierErrorPrints.{specifier_error_text}
use Rattle.pep440_specifier.specs.SpecifierReading.{SpecifierFault, told_specifier}
use Rattle.pep440_specifier.specs.declared.parse_error.VersionSpecifierParseError.{VersionSpecifierParseError}
use Rattle.pep440_specifier_list.specs.ListReading.{fault_at as list_fault, list_reading, told_list}
use Rattle.pep440_specifier_list.specs.declared.error.VersionSpecifiersParseError.TheVariants.{Specifier}
use Rattle.pep440_specifier_list.specs.declared.refused_piece.RefusedPiece.{RefusedPiece}
use Rattle.pep440_specifier_list.specs.Places.{IsPlaced}
use Rattle.pep508_error.specs.Cursors.{rest_of}
use Rattle.pep508_error.specs.declared.cursor.Cursor.{Cursor}
use Rattle.pep508_error.specs.Errors.{Fault, said_by, told_refusal}
use Rattle.pep508_error.specs.Refusals.{Refuses}
use Rattle.pep508_error.specs.declared.refusal.Refusal.{Refusal}
use Rattle.pep508_error.specs.declared.refusal.RefusalKind.{RefusalKind}
use Rattle.pep508_error.specs.declared.refusal.RefusalKind.TheVariants as kinds
use Rattle.pep508_url.specs.UrlTexts.{Verbatim}
use Rattle.pep508_url.specs.declared.url_error.VerbatimUrlError.{VerbatimUrlError}
use Rattle.reqs_assuming.specs.Assumptions.{IsNoList}

abbrev Told : Type 0
Told = Fault Verbatim VerbatimUrlError

-- the kind of a refusal: a message for the error, or lack of memory for it
abbrev pub IsKindOf : VersionSpecifierParseError → RefusalKind → Type 0
IsKindOf error kind =
    (kind ≡ kinds.Memory)
    ⊎ ((message : String Global) × (kind ≡ kinds.String message) × (string_bytes message ≡ specifier_error_text error))

pub kind_of : {E : Type 0} (error : VersionSpecifierParseError) (printed : Result (String Global) E) (kind : RefusalKind) →
    MatchResult printed (λ message. kind ≡ kinds.String message) (λ lack. kind ≡ kinds.Memory) →
    IfOk printed (λ message. string_bytes message ≡ specifier_error_text error) → IsKindOf error kind
kind_of error (Ok message) kind is says = inr (message, is, says)
kind_of error (Err lack) kind is says = inl is

-- places from which on a text is the same are one
one_place : (text : List ℕ) (i j : ℕ) → i ≤ length text → j ≤ length text → drop i text ≡ drop j text → i ≡ j
one_place text i j i_in j_in same =
    omega (arith, i_in, j_in, length-drop i text, length-drop j text, ap length same)

-- the place at which a piece begins
pub begins_at : (line : List ℕ) (start end : ℕ) (cursor : Cursor) → cursor.input.now ≡ line →
    IsPlaced line start end → rest_of cursor ≡ drop start line → cursor.position ≡ start
begins_at line start end cursor is placed rest =
    one_place line cursor.position start (subst (λ text. cursor.position ≤ length text) is cursor.between.0)
    placed.starts.0 (ap (drop cursor.position) (sym is) ∙ rest)

module _ (text : List ℕ) (piece : RefusedPiece) (refusal : Refusal) (kind : RefusalKind)
    (refuses : Refuses refusal kind (string_bytes piece.line) piece.start (piece.end - piece.start)) where
  told_as : (other : RefusalKind) → kind ≡ other →
      told_refusal {T = Verbatim} {E = VerbatimUrlError} refusal
      ≡ said_by other (string_bytes piece.line) piece.start (piece.end - piece.start)
  told_as other is =
      λ i. said_by ((refuses.kind_is ∙ is) i) (refuses.input_is i) (refuses.start_is i) (refuses.len_is i)

  by_fault : (fault : Told) (message : String Global) → kind ≡ kinds.String message →
      string_bytes message ≡ specifier_error_text piece.error → told_refusal refusal ≡ Some fault →
      (found : Option SpecifierFault) → told_specifier piece.error ≡ found → found ≢ None →
      Tells (option_map (list_fault (string_bytes piece.line) piece.start piece.end) found) (list_reading text) →
      IsNoList text fault
  by_fault fault message is says told None e some tells = absurd (some refl)
  by_fault fault message is says told (Some f) e some tells = record {
    piece = list_fault (string_bytes piece.line) piece.start piece.end f;
    error = piece.error;
    message = message;
    reading = tells;
    tells = e;
    says = says;
    is = sym told ∙ told_as (kinds.String message) is;
  }

  pub no_list : (told : Option Told) → IfSome told (λ fault. told_refusal refusal ≡ Some fault) →
      IsKindOf piece.error kind → told_specifier piece.error ≢ None →
      Tells (told_list (Specifier piece)) (list_reading text) → IfSome told (IsNoList text)
  no_list None h of some tells = tt
  no_list (Some fault) h (inl memory) some tells =
      absurd (none-some fault (sym (told_as kinds.Memory memory) ∙ h))
  no_list (Some fault) h (inr m) some tells =
      by_fault fault m.0 m.1 m.2 h (told_specifier piece.error) refl some tells
