-- Where markers stand in texts.
use Rattle.std.proofs.Common.{◌≡◌, ◌∙◌, ◌≤◌, ℕ, ◌∷◌, ◌++◌, List, Some, Result, Ok, Err, String}
use Rattle.std.proofs.Common.{string_bytes, MatchResult, IfOk, length, take, chars}
use Rattle.std.proofs.Common.{true, length-take-le, take-append-drop, ap, sym, subst}
use Rattle.std.specs.Str.{is_utf8, IsUtf8, skip_leading_whitespace}
use Rattle.std.proofs.lemmas.Str.{encodes-chars}
use Rattle.pep508_error.specs.declared.cursor.Cursor.{Cursor}
use Rattle.pep508_error.specs.Cursors.{rest_of}
use Rattle.pep508_url.specs.UrlTexts.{Verbatim}
use Rattle.pep508_url.specs.declared.url_error.VerbatimUrlError.{VerbatimUrlError}
use Rattle.pep508_requirement_text.specs.FrontReading.{Front, front_reading}
use Rattle.pep508_requirement.specs.MarkedReading.{IsReadMarked}
use Rattle.pep508_requirement.specs.declared.marked_requirement.MarkedRequirement.{MarkedRequirement}
use Rattle.reqs_c_reply.specs.declared.place.Place.{Place}
use Rattle.reqs_c_reply.specs.Endings.{Ending, Answered, OutOfMemory, EndsIn}
use Rattle.reqs_c_markers.specs.Parts.{ReadsUrl, IsMarkerPlace, HasParts, AreParts}

-- what follows the first character that is left
pub stands : (text left : List ℕ) (first : ℕ) (inside : Cursor) (start len : ℕ)
    → left ≡ first ∷ chars (rest_of inside) → inside.input.now ≡ text → inside.position ≤ length inside.input.now
    → IsUtf8 (rest_of inside) → start ≡ inside.position → len ≡ length (rest_of inside)
    → IsMarkerPlace text left (Some (start, len))
stands text left first inside start len is input within utf8 starts counts =
    let whole = inside.input.now in
    let encoded = sym (encodes-chars (rest_of inside) utf8) in
    subst (λ (cs : List ℕ). IsMarkerPlace text cs (Some (start, len))) (sym is) (record {
      before = take inside.position whole;
      split =
          sym input ∙ sym (take-append-drop inside.position whole)
          ∙ ap (λ rest. take inside.position whole ++ rest) encoded;
      starts = starts ∙ sym (length-take-le inside.position whole within);
      counts = counts ∙ ap length encoded;
    })

-- ---- parts

-- a text that was made is answered
pub answered_by : {Y E : Type 0} (Answers : List ℕ → Type 0) (Refuses : Place → List ℕ → Type 0)
    (text : Result (String Y) E) (ending : Ending)
    → MatchResult text (λ text. ending ≡ Answered (string_bytes text)) (λ error. ending ≡ OutOfMemory)
    → IfOk text (λ text. Answers (string_bytes text)) → EndsIn Answers Refuses ending
answered_by Answers Refuses (Ok text) ending is h = subst (EndsIn Answers Refuses) (sym is) h
answered_by Answers Refuses (Err error) ending is h = subst (EndsIn Answers Refuses) (sym is) tt

-- the parts of the requirement that was read are those of the bytes
pub parts_of : {Y E : Type 0} (bytes text : List ℕ)
    (r : MarkedRequirement Verbatim VerbatimUrlError) → is_utf8 bytes ≡ true → text ≡ bytes
    → (read : IsReadMarked ReadsUrl bytes r) (made : Result (String Y) E)
    → IfOk made (λ parts. (front : Front) (rest : List ℕ) → front_reading text ≡ Ok (front, rest)
    → HasParts text (skip_leading_whitespace rest) r (string_bytes parts))
    → IfOk made (λ parts. AreParts bytes (string_bytes parts))
parts_of bytes text r e is read (Ok parts) h =
    let whole = read.whole in
    let left = h read.front whole.rest (ap front_reading is ∙ whole.reading) in
    record {
      requirement = r;
      is_utf8_text = e;
      reads = read;
      has_parts =
          subst (λ (cs : List ℕ). HasParts bytes cs r (string_bytes parts)) whole.behind
          (subst (λ (bs : List ℕ). HasParts bs (skip_leading_whitespace whole.rest) r (string_bytes parts)) is left);
    }
parts_of bytes text r e is read (Err error) h = tt
