-- What a name is asked for with: what is read is what the grammar gives.
use Rattle.std.proofs.Common.{◌≡◌, ◌≢◌, ℕ, ◌<◌, ◌==◌, ◌||◌, Bool, true, false, if◌then◌else◌, List}
use Rattle.std.proofs.Common.{[]}
use Rattle.std.proofs.Common.{◌∷◌, ◌++◌, length, Some, Ok, Err, IsTrue, inl, inr, refl}
use Rattle.std.proofs.Common.{ap, sym, subst, ◌∙◌, arith, append_assoc}
use Rattle.std.proofs.lemmas.Bool.Decides.{nat_tests}
use Rattle.std.specs.Char.{is_whitespace}
use Rattle.std.specs.Str.{encode_utf8_all, skip_leading_whitespace, trim_start}
use Rattle.pep440_specifier.specs.Matching.{SpecifierRecord}
use Rattle.pep440_specifier_list.specs.ListReading.{pieces_of}
use Rattle.pep440_specifier_list.proofs.Pieces.{all_read}
use Rattle.pep508_name.specs.Name.{is_name_byte}
use Rattle.pep508_requirement_text.specs.Archives.{is_archive}
use Rattle.pep508_requirement_text.specs.UrlEnds.{url_split}
use Rattle.pep508_error.specs.Cuts.{begins_by, encoded_cut, cut_around}
use Rattle.pep508_requirement_text.specs.FrontReading.{Source, Any, Specifiers, Url, Malformed, Nameless}
use Rattle.pep508_requirement_text.specs.FrontReading.{Archive, Reading}
use Rattle.pep508_error.specs.Steps.{◌>>=◌}
use Rattle.pep508_requirement_text.specs.FrontReading.{run_of, if_there}
use Rattle.pep508_requirement_text.specs.FrontReading.{specifiers_of_text, listed, enclosed, if_url}
use Rattle.pep508_requirement_text.specs.FrontReading.{begins_operator}
use Rattle.pep508_requirement_text.specs.FrontReading.{alone, source_at}
use Rattle.pep508_requirement_text.specs.FrontText.{IsBeforeMarker, IsEnclosed, IsOpenList, IsUrlText}
use Rattle.pep508_requirement_text.specs.FrontText.{IsSourceText}
use Rattle.pep508_error.proofs.Tests.{the_same, or_cases, another}
use Rattle.pep508_error.proofs.Cuts.{behind_front, NonePasses, Ends, none_joined, encoded_again, cut_found}
use Rattle.pep508_error.proofs.Cuts.{encoded_is, around_again, around_found, at_places, from_places}
use Rattle.pep508_error.proofs.Spaces.{spaces_found, spaces_again, skipped_front}
use Rattle.pep508_requirement_text.proofs.Pieces.{trimmed_start}
use Rattle.pep508_requirement_text.proofs.Names.{none_in_spaces}
use Rattle.pep508_requirement_text.proofs.ExtrasTexts.{there}
use Rattle.pep508_error.proofs.Steps.{answer, ok_same, in_steps}
use Rattle.pep508_requirement_text.proofs.Lists.{TextLaw, list_by_pieces, pieces_by_list, skipped_list}
use Rattle.pep508_requirement_text.proofs.Lists.{given_found}
use Rattle.pep508_requirement_text.proofs.Lists.{TextLaw, given_again}
use Rattle.pep508_requirement_text.proofs.UrlLaws.{url_found, url_joined, url_again, unspaced_whole}

pub record SourceFound (name cs : List ℕ) (source : Source) (rest : List ℕ) : Type 0 where
  pub asked : List ℕ
  pub split : cs ≡ asked ++ rest
  pub is_source : IsSourceText name asked rest source

-- what was found, as it was made
found_as : (name cs : List ℕ) (made found : Source × List ℕ) → made ≡ found
    → SourceFound name cs made.0 made.1
    → SourceFound name cs found.0 found.1
found_as name cs made found e h = subst (λ (p : Source × List ℕ). SourceFound name cs p.0 p.1) e h

-- ---- a name alone

before_marker : (rest : List ℕ) → Ends (λ c. c == 59) rest → IsBeforeMarker rest
before_marker [] h = inl refl
before_marker (c ∷ cs) h = inr h

marker_ends : (rest : List ℕ) → IsBeforeMarker rest → Ends (λ c. c == 59) rest
marker_ends [] h = tt
marker_ends (c ∷ cs) (inl h) = absurd (cc)
marker_ends (c ∷ cs) (inr h) = h

alone_by : (name cs : List ℕ) (found : Source × List ℕ) (t : Bool) → IsBeforeMarker cs → is_archive name ≡ t
    → (if t then Err Archive else answer (Any, cs)) ≡ Ok found → SourceFound name cs found.0 found.1
alone_by name cs found true b e h = absurd (cc)
alone_by name cs found false b e h =
    found_as name cs (Any, cs) found (ok_same (Any, cs) found h) (record { asked = []; split = refl; is_source = (refl, b, e) })

-- ---- specifiers

record Listed (parts : List ℕ × List ℕ) (found : Source × List ℕ) : Type 0 where
  given : List SpecifierRecord
  read : specifiers_of_text parts.0 ≡ Ok given
  made : (Specifiers given, parts.1) ≡ found

is_listed : (parts : List ℕ × List ℕ) (found : Source × List ℕ) → listed parts ≡ Ok found → Listed parts found
is_listed parts found h =
    let next : List SpecifierRecord → Reading Source = λ given. Ok (Specifiers given, parts.1) in
    let s = in_steps (specifiers_of_text parts.0) next found h in
    record { given = s.middle; read = s.first_is; made = ok_same (Specifiers s.middle, parts.1) found s.next_is }

module _ (law : TextLaw) where
  enclosed_found : (name cs : List ℕ) (found : Source × List ℕ)
      → (if_there (cut_around 41 cs) >>= enclosed) ≡ Ok found → SourceFound name (40 ∷ cs) found.0 found.1
  enclosed_found name cs found h =
      let s = in_steps (if_there (cut_around 41 cs)) enclosed found h in
      let k = around_found 41 cs s.middle (there (cut_around 41 cs) s.middle s.first_is) in
      let l = is_listed (trim_start s.middle.0, s.middle.1) found s.next_is in
      let w = spaces_found k.front in
      let inside : List ℕ = skip_leading_whitespace k.front in
      let text : trim_start s.middle.0 ≡ encode_utf8_all inside = ap trim_start k.encoded ∙ trimmed_start k.front in
      let read = pieces_by_list (encode_utf8_all inside) l.given (ap specifiers_of_text (sym text) ∙ l.read) in
      let closed = behind_front (λ c. (c == 41) ≡ false) w.spaces inside (subst (NonePasses (λ c. c == 41)) w.split k.passes) in
      let given : IsEnclosed (40 ∷ (k.front ++ 41 ∷ [])) l.given = record {
        before = w.spaces;
        inside = inside;
        split = ap (λ ds. 40 ∷ (ds ++ 41 ∷ [])) w.split;
        spaces = w.are_spaces;
        closed = at_places (λ c. c == 41) inside closed;
        are_specifiers = given_found law (encode_utf8_all inside) l.given read;
      } in
      found_as name (40 ∷ cs) (Specifiers l.given, s.middle.1) found l.made
      (record {
        asked = 40 ∷ (k.front ++ 41 ∷ []);
        split = ap (λ ds. 40 ∷ ds) (k.split ∙ sym (append_assoc k.front (41 ∷ []) s.middle.1));
        is_source = inl given;
      })

  enclosed_again : (asked rest : List ℕ) (given : List SpecifierRecord) → (whole name : List ℕ)
      → IsEnclosed asked given → source_at whole name (asked ++ rest) ≡ Ok (Specifiers given, rest)
  enclosed_again asked rest given whole name h =
      let front : List ℕ = h.before ++ h.inside in
      let split : asked ++ rest ≡ 40 ∷ (front ++ 41 ∷ rest) =
      ap (λ ds. ds ++ rest) h.split ∙ ap (λ ds. 40 ∷ ds) (append_assoc front (41 ∷ []) rest) in
      let closed = none_joined (λ c. c == 41) h.before h.inside (none_in_spaces 41 refl h.before h.spaces)
      (from_places (λ c. c == 41) h.inside h.closed) in
      let skips : skip_leading_whitespace front ≡ skip_leading_whitespace h.inside = skipped_front h.before h.inside h.spaces in
      let read : all_read (pieces_of (encode_utf8_all (skip_leading_whitespace front))) ≡ Some given =
      ap (λ cs. all_read (pieces_of (encode_utf8_all cs))) skips ∙ skipped_list h.inside
      ∙ given_again law h.inside given h.are_specifiers in
      ap (source_at whole name) split
      ∙ ap (λ found. if_there found >>= enclosed) (around_again 41 front rest closed)
      ∙ ap (λ text. listed (text, rest)) (trimmed_start front)
      ∙ ap (λ found. found >>= λ given. Ok (Specifiers given, rest))
      (list_by_pieces (encode_utf8_all (skip_leading_whitespace front)) given read)

  -- without brackets
  open_by : (c : ℕ) (cs front rest : List ℕ) → begins_operator c ≡ true → c ∷ cs ≡ front ++ rest
      → Ends (λ d. d == 59) rest
      → IsTrue (begins_by begins_operator front)
  open_by c cs [] [] b e k = absurd (cc)
  open_by c cs [] (d ∷ rest) b e k =
      let same : c ≡ d = cc in
      let no : begins_operator c ≡ false = ap begins_operator (same ∙ the_same d 59 k) in
      absurd (cc)
  open_by c cs (d ∷ front) rest b e k = (let same : c ≡ d = cc in ap begins_operator (sym same) ∙ b)

  open_found : (name : List ℕ) (c : ℕ) (cs : List ℕ) (found : Source × List ℕ)
      → begins_operator c ≡ true → listed (encoded_cut (λ d. d == 59) (c ∷ cs)) ≡ Ok found
      → SourceFound name (c ∷ cs) found.0 found.1
  open_found name c cs found b h =
      let k = cut_found (λ d. d == 59) (c ∷ cs) in
      let l = is_listed (encode_utf8_all k.front, k.rest) found (ap listed (sym (encoded_is (λ d. d == 59) (c ∷ cs) k)) ∙ h) in
      let read = pieces_by_list (encode_utf8_all k.front) l.given l.read in
      let given : IsOpenList k.front k.rest l.given = record {
        begins = open_by c cs k.front k.rest b k.split k.ends;
        whole = at_places (λ d. d == 59) k.front k.passes;
        are_specifiers = given_found law (encode_utf8_all k.front) l.given read;
        before_marker = before_marker k.rest k.ends;
      } in
      found_as name (c ∷ cs) (Specifiers l.given, k.rest) found l.made
      (record { asked = k.front; split = k.split; is_source = inr given })

  open_source : (whole name : List ℕ) (c : ℕ) (cs : List ℕ) → begins_operator c ≡ true
      → source_at whole name (c ∷ cs) ≡ listed (encoded_cut (λ d. d == 59) (c ∷ cs))
  open_source whole name c cs b =
      let url : Reading Source = if_url (url_split false 0 (skip_leading_whitespace cs)) in
      let inside : Reading Source = if_there (cut_around 41 cs) >>= enclosed in
      let list : Reading Source = listed (encoded_cut (λ d. d == 59) (c ∷ cs)) in
      let other : Reading Source = if c == 59 then alone name (c ∷ cs) else Err (Nameless (run_of whole)) in
      ap (λ t. if t then url else (if c == 40 then inside else (if begins_operator c then list else other)))
      (another begins_operator c 64 (c == 64) b refl refl)
      ∙ ap (λ t. if t then inside else (if begins_operator c then list else other))
      (another begins_operator c 40 (c == 40) b refl refl)
      ∙ ap (λ t. if t then list else other) b

  open_again_by : (asked rest : List ℕ) (given : List SpecifierRecord) → (whole name : List ℕ)
      → IsTrue (begins_by begins_operator asked) → NonePasses (λ c. c == 59) asked
      → all_read (pieces_of (encode_utf8_all asked)) ≡ Some given → Ends (λ c. c == 59) rest
      → source_at whole name (asked ++ rest) ≡ Ok (Specifiers given, rest)
  open_again_by [] rest given whole name b n read k = absurd (cc)
  open_again_by (c ∷ cs) rest given whole name b n read k =
      open_source whole name c (cs ++ rest) b
      ∙ ap listed (encoded_again (λ d. d == 59) (c ∷ cs) rest n k)
      ∙ ap (λ found. found >>= λ given. Ok (Specifiers given, rest)) (list_by_pieces (encode_utf8_all (c ∷ cs)) given read)

  open_again : (asked rest : List ℕ) (given : List SpecifierRecord) → (whole name : List ℕ)
      → IsOpenList asked rest given → source_at whole name (asked ++ rest) ≡ Ok (Specifiers given, rest)
  open_again asked rest given whole name h =
      open_again_by asked rest given whole name h.begins (from_places (λ c. c == 59) asked h.whole)
      (given_again law asked given h.are_specifiers) (marker_ends rest h.before_marker)

-- ---- a URL

some_long : (cs : List ℕ) (t : Bool) → (length cs == 0) ≡ t → cs ≢ [] → t ≡ false
some_long [] t e some = absurd (some refl)
some_long (c ∷ cs) t e some = (let n : 0 < length (c ∷ cs) = omega arith in grind (arith, nat_tests))

long_some : (cs : List ℕ) → (length cs == 0) ≡ false → cs ≢ []
long_some [] h = absurd (cc)
long_some (c ∷ cs) h = λ nothing. absurd (cc)

url_by : (name cs : List ℕ) (found : Source × List ℕ) (t : Bool)
    → (length (url_split false 0 (skip_leading_whitespace cs)).0 == 0) ≡ t
    → (if t then Err Malformed
    else answer (Url (encode_utf8_all (url_split false 0 (skip_leading_whitespace cs)).0), (url_split false 0 (skip_leading_whitespace cs)).1)) ≡ Ok found
    → SourceFound name (64 ∷ cs) found.0 found.1
url_by name cs found true e h = absurd (cc)
url_by name cs found false e h =
    let w = spaces_found cs in
    let from : List ℕ = skip_leading_whitespace cs in
    let url : List ℕ = (url_split false 0 from).0 in
    let rest : List ℕ = (url_split false 0 from).1 in
    let is_url : IsUrlText (64 ∷ (w.spaces ++ url)) rest (encode_utf8_all url) = record {
      before = w.spaces;
      written = url;
      split = refl;
      spaces = w.are_spaces;
      encoded = refl;
      ends = url_found false from w.unspaced (long_some url e);
    } in
    found_as name (64 ∷ cs) (Url (encode_utf8_all url), rest) found (ok_same (Url (encode_utf8_all url), rest) found h)
    (record {
      asked = 64 ∷ (w.spaces ++ url);
      split = ap (λ ds. 64 ∷ ds) (w.split ∙ ap (λ ds. w.spaces ++ ds) (url_joined false from) ∙ sym (append_assoc w.spaces url rest));
      is_source = is_url;
    })

url_source_again : (asked rest url whole name : List ℕ) → IsUrlText asked rest url
    → source_at whole name (asked ++ rest) ≡ Ok (Url url, rest)
url_source_again asked rest url whole name h =
    let split : asked ++ rest ≡ 64 ∷ (h.before ++ (h.written ++ rest)) =
    ap (λ ds. ds ++ rest) h.split ∙ ap (λ ds. 64 ∷ ds) (append_assoc h.before h.written rest) in
    let skips : skip_leading_whitespace (h.before ++ (h.written ++ rest)) ≡ h.written ++ rest =
    spaces_again h.before (h.written ++ rest) h.spaces (unspaced_whole h.written rest h.ends.some h.ends.starts) in
    ap (source_at whole name) split
    ∙ ap (λ cs. if_url (url_split false 0 cs)) skips
    ∙ ap if_url (url_again false h.written rest h.ends)
    ∙ ap (λ t. if t then Err Malformed else Ok (Url (encode_utf8_all h.written), rest))
    (some_long h.written (length h.written == 0) refl h.ends.some)
    ∙ ap (λ bs. Ok (Url bs, rest)) (sym h.encoded)

-- ---- what follows a name

module _ (law : TextLaw) where
  source_by : (whole name : List ℕ) (c : ℕ) (cs : List ℕ) (found : Source × List ℕ) (url inside list none : Bool)
      → (c == 64) ≡ url → (c == 40) ≡ inside → begins_operator c ≡ list → (c == 59) ≡ none
      → (if url then if_url (url_split false 0 (skip_leading_whitespace cs))
      else (if inside then if_there (cut_around 41 cs) >>= enclosed
      else (if list then listed (encoded_cut (λ d. d == 59) (c ∷ cs))
      else (if none then alone name (c ∷ cs) else Err (Nameless (run_of whole)))))) ≡ Ok found
      → SourceFound name (c ∷ cs) found.0 found.1
  source_by whole name c cs found true inside list none e1 e2 e3 e4 h =
      subst (λ x. SourceFound name (x ∷ cs) found.0 found.1) (sym (the_same c 64 e1))
      (url_by name cs found (length (url_split false 0 (skip_leading_whitespace cs)).0 == 0) refl h)
  source_by whole name c cs found false true list none e1 e2 e3 e4 h =
      subst (λ x. SourceFound name (x ∷ cs) found.0 found.1) (sym (the_same c 40 e2))
      (enclosed_found law name cs found h)
  source_by whole name c cs found false false true none e1 e2 e3 e4 h = open_found law name c cs found e3 h
  source_by whole name c cs found false false false true e1 e2 e3 e4 h =
      alone_by name (c ∷ cs) found (is_archive name) (inr e4) refl h
  source_by whole name c cs found false false false false e1 e2 e3 e4 h = absurd (cc)

  pub source_found : (whole name cs : List ℕ) (found : Source × List ℕ)
      → source_at whole name cs ≡ Ok found
      → SourceFound name cs found.0 found.1
  source_found whole name [] found h = alone_by name [] found (is_archive name) (inl refl) refl h
  source_found whole name (c ∷ cs) found h =
      source_by whole name c cs found (c == 64) (c == 40) (begins_operator c) (c == 59) refl refl refl refl h

  alone_at : (whole name rest : List ℕ) → IsBeforeMarker rest → source_at whole name rest ≡ alone name rest
  alone_at whole name [] b = refl
  alone_at whole name (c ∷ cs) (inl b) = absurd (cc)
  alone_at whole name (c ∷ cs) (inr b) =
      subst (λ x. source_at whole name (x ∷ cs) ≡ alone name (x ∷ cs)) (sym (the_same c 59 b)) refl

  pub source_again : (whole name asked rest : List ℕ) (source : Source)
      → IsSourceText name asked rest source → source_at whole name (asked ++ rest) ≡ Ok (source, rest)
  source_again whole name asked rest Any h =
      ap (λ ds. source_at whole name (ds ++ rest)) h.0 ∙ alone_at whole name rest h.1
      ∙ ap (λ t. if t then Err Archive else Ok (Any, rest)) h.2
  source_again whole name asked rest (Specifiers given) (inl h) = enclosed_again law asked rest given whole name h
  source_again whole name asked rest (Specifiers given) (inr h) = open_again law asked rest given whole name h
  source_again whole name asked rest (Url url) h = url_source_again asked rest url whole name h

-- ---- where it begins

-- a test that no character passes with which that begins
pub record IsApart (test : ℕ → Bool) : Type 0 where
  pub url : test 64 ≡ false
  pub inside : test 40 ≡ false
  pub list : (c : ℕ) → begins_operator c ≡ true → test c ≡ false
  pub marker : test 59 ≡ false

marker_apart : (test : ℕ → Bool) (rest : List ℕ) → IsApart test → IsBeforeMarker rest
    → begins_by test rest ≡ false
marker_apart test [] a b = refl
marker_apart test (c ∷ cs) a (inl b) = absurd (cc)
marker_apart test (c ∷ cs) a (inr b) = ap test (the_same c 59 b) ∙ a.marker

open_apart : (test : ℕ → Bool) (asked rest : List ℕ) → IsApart test
    → IsTrue (begins_by begins_operator asked)
    → begins_by test (asked ++ rest) ≡ false
open_apart test [] rest a b = absurd (cc)
open_apart test (c ∷ cs) rest a b = a.list c b

pub source_apart : (test : ℕ → Bool) (name asked rest : List ℕ) (source : Source) → IsApart test
    → IsSourceText name asked rest source → begins_by test (asked ++ rest) ≡ false
source_apart test name asked rest Any a h = ap (λ ds. begins_by test (ds ++ rest)) h.0 ∙ marker_apart test rest a h.1
source_apart test name asked rest (Specifiers given) a (inl h) = ap (λ ds. begins_by test (ds ++ rest)) h.split ∙ a.inside
source_apart test name asked rest (Specifiers given) a (inr h) = open_apart test asked rest a h.begins
source_apart test name asked rest (Url url) a h = ap (λ ds. begins_by test (ds ++ rest)) h.split ∙ a.url

operator_by : (test : ℕ → Bool) → test 60 ≡ false → test 61 ≡ false → test 62 ≡ false → test 126 ≡ false
    → test 33 ≡ false
    → (c : ℕ) → begins_operator c ≡ true → test c ≡ false
operator_by test less equal greater tilde bang c h =
    elim (or_cases (c == 60 || c == 61 || c == 62 || c == 126) (c == 33) h) [
      | inr e ↦ ap test (the_same c 33 e) ∙ bang
      | inl h ↦ elim (or_cases (c == 60 || c == 61 || c == 62) (c == 126) h) [
        | inr e ↦ ap test (the_same c 126 e) ∙ tilde
        | inl h ↦ elim (or_cases (c == 60 || c == 61) (c == 62) h) [
          | inr e ↦ ap test (the_same c 62 e) ∙ greater
          | inl h ↦ elim (or_cases (c == 60) (c == 61) h) [
            | inr e ↦ ap test (the_same c 61 e) ∙ equal
            | inl e ↦ ap test (the_same c 60 e) ∙ less
          ]
        ]
      ]
    ]

pub space_apart : IsApart is_whitespace
space_apart = record { url = refl; inside = refl; list = operator_by is_whitespace refl refl refl refl refl; marker = refl }

pub bracket_apart : IsApart (λ c. c == 91)
bracket_apart = record { url = refl; inside = refl; list = operator_by (λ c. c == 91) refl refl refl refl refl; marker = refl }

pub name_apart : IsApart is_name_byte
name_apart = record { url = refl; inside = refl; list = operator_by is_name_byte refl refl refl refl refl; marker = refl }
