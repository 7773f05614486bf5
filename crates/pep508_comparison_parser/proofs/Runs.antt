-- The runs of characters between white space, one after another.
use Rattle.std.proofs.Common.{◌≡◌, ℕ, Bool, true, false, cond, List, [], ◌∷◌, ◌++◌, map, drop, take, refl, ap}
use Rattle.std.proofs.Common.{sym, ◌∙◌, Some, None}
use Rattle.std.proofs.Common.{append_assoc, not, ◌+◌, ◌==◌, suc, length, arith}
use Rattle.std.proofs.lemmas.Bool.Decides.{nat_tests}
use Rattle.std.proofs.lemmas.Str.{chars-nil, encodes-chars}
use Rattle.std.proofs.lemmas.List.{append-nil}
use Rattle.std.specs.Prelude.{filter, option_map, Option}
use Rattle.std.specs.Char.{is_whitespace}
use Rattle.std.specs.List.{before_first, position_or_len, slice_split, onto_first}
use Rattle.std.specs.Str.{chars, encode_utf8_all, skip_leading_whitespace, IsUtf8}
use Rattle.pep440_text.specs.Record.{VersionRecord}
use Rattle.pep440_text.specs.Reading.{version_of}
use Rattle.pep508_name.specs.Name.{is_part}
use Rattle.pep508_error.specs.Cuts.{begins_by, encoded_cut}
use Rattle.pep508_error.proofs.Spaces.{spaces_found}
use Rattle.pep508_comparison_parser.specs.Compared.{runs_of, versions_of, with_version}

abbrev split_at_spaces : List ℕ → List (List ℕ)
split_at_spaces cs = slice_split is_whitespace cs

abbrev runs_in : List ℕ → List (List ℕ)
runs_in cs = map encode_utf8_all (filter is_part (split_at_spaces cs))

skipped_by : (c : ℕ) (cs : List ℕ) (t : Bool) → is_whitespace c ≡ t
    → runs_in (skip_leading_whitespace cs) ≡ runs_in cs → runs_in (skip_leading_whitespace (c ∷ cs)) ≡ runs_in (c ∷ cs)
skipped_by c cs true e h =
    ap (λ t. runs_in (cond t (skip_leading_whitespace cs) (c ∷ cs))) e ∙ h
    ∙ ap (λ t. map encode_utf8_all (filter is_part (cond t ([] ∷ split_at_spaces cs) (onto_first c (split_at_spaces cs)))))
    (sym e)
skipped_by c cs false e h = ap (λ t. runs_in (cond t (skip_leading_whitespace cs) (c ∷ cs))) e

-- white space at the front begins no run
pub runs_skipped : (cs : List ℕ) → runs_in (skip_leading_whitespace cs) ≡ runs_in cs
runs_skipped [] = refl
runs_skipped (c ∷ cs) = skipped_by c cs (is_whitespace c) refl (runs_skipped cs)

-- the parts at white space: what stands before the first, and the others
record Parts (cs : List ℕ) : Type 0 where
  others : List (List ℕ)
  parts : split_at_spaces cs ≡ before_first is_whitespace cs ∷ others
  same : filter is_part others ≡ filter is_part (split_at_spaces (drop (position_or_len is_whitespace cs) cs))

one_more : (n : ℕ) → suc n ≡ 1 + n
one_more n = omega arith

parts_by : (c : ℕ) (cs : List ℕ) (t : Bool) → is_whitespace c ≡ t → Parts cs → Parts (c ∷ cs)
parts_by c cs true e h = record {
  others = split_at_spaces cs;
  parts = ap (λ t. cond t ([] ∷ split_at_spaces cs) (onto_first c (split_at_spaces cs))) e
      ∙ ap (λ t. take (cond (not t) (1 + position_or_len is_whitespace cs) 0) (c ∷ cs) ∷ split_at_spaces cs) (sym e);
  same = ap (λ t. filter is_part (cond t ([] ∷ split_at_spaces cs) (onto_first c (split_at_spaces cs)))) (sym e)
      ∙ ap (λ t. filter is_part (split_at_spaces (drop (cond (not t) (1 + position_or_len is_whitespace cs) 0) (c ∷ cs))))
      (sym e);
}
parts_by c cs false e h = record {
  others = h.others;
  parts = ap (λ t. cond t ([] ∷ split_at_spaces cs) (onto_first c (split_at_spaces cs))) e
      ∙ ap (onto_first c) h.parts
      ∙ ap (λ n. take n (c ∷ cs) ∷ h.others) (one_more (position_or_len is_whitespace cs))
      ∙ ap (λ t. take (cond (not t) (1 + position_or_len is_whitespace cs) 0) (c ∷ cs) ∷ h.others) (sym e);
  same = h.same
      ∙ ap (λ n. filter is_part (split_at_spaces (drop n (c ∷ cs)))) (one_more (position_or_len is_whitespace cs))
      ∙ ap (λ t. filter is_part (split_at_spaces (drop (cond (not t) (1 + position_or_len is_whitespace cs) 0) (c ∷ cs))))
      (sym e);
}

parts_of : (cs : List ℕ) → Parts cs
parts_of [] = record { others = []; parts = refl; same = refl }
parts_of (c ∷ cs) = parts_by c cs (is_whitespace c) refl (parts_of cs)

run_by : (c : ℕ) (cs : List ℕ) → is_whitespace c ≡ false
    → runs_in (c ∷ cs) ≡ encode_utf8_all (before_first is_whitespace (c ∷ cs))
    ∷ runs_in (drop (position_or_len is_whitespace (c ∷ cs)) (c ∷ cs))
run_by c cs e =
    let p = parts_of (c ∷ cs) in
    let n : ℕ = position_or_len is_whitespace cs in
    let begun : before_first is_whitespace (c ∷ cs) ≡ c ∷ take n cs =
    ap (λ t. take (cond (not t) (1 + n) 0) (c ∷ cs)) e ∙ ap (λ m. take m (c ∷ cs)) (sym (one_more n)) in
    ap (λ parts. map encode_utf8_all (filter is_part parts))
    (p.parts ∙ ap (λ run. run ∷ p.others) begun)
    ∙ ap (λ parts. encode_utf8_all (c ∷ take n cs) ∷ map encode_utf8_all parts) p.same
    ∙ ap (λ run. encode_utf8_all run ∷ runs_in (drop (position_or_len is_whitespace (c ∷ cs)) (c ∷ cs))) (sym begun)

-- a run that is cut off behind white space is the first
run_first : (cs : List ℕ) (run rest : List ℕ) → (cs ≡ [] → ⊥) → begins_by is_whitespace cs ≡ false
    → (run, rest) ≡ encoded_cut is_whitespace cs → runs_in cs ≡ run ∷ runs_in rest
run_first [] run rest some h cut = absurd (some refl)
run_first (c ∷ cs) run rest some h cut =
    run_by c cs h
    ∙ ap (λ (p : List ℕ × List ℕ). p.0 ∷ runs_in p.1) (sym cut)

-- the same of texts
pub run_next : (text trimmed run rest : List ℕ) → chars trimmed ≡ skip_leading_whitespace (chars text)
    → (chars trimmed ≡ [] → ⊥) → (run, chars rest) ≡ encoded_cut is_whitespace (chars trimmed)
    → runs_of text ≡ run ∷ runs_of rest
run_next text trimmed run rest e some cut =
    sym (runs_skipped (chars text)) ∙ ap runs_in (sym e)
    ∙ run_first (chars trimmed) run (chars rest) some (ap (begins_by is_whitespace) e ∙ (spaces_found (chars text)).unspaced) cut

pub run_none : (text trimmed : List ℕ) → chars trimmed ≡ skip_leading_whitespace (chars text) → chars trimmed ≡ []
    → runs_of text ≡ []
run_none text trimmed e none = sym (runs_skipped (chars text)) ∙ ap runs_in (sym e ∙ none)

pub no_chars : (text : List ℕ) → (length text == 0) ≡ true → chars text ≡ []
no_chars [] h = chars-nil
no_chars (b ∷ bs) h = absurd (let no : (length (b ∷ bs) == 0) ≡ false = grind (arith, nat_tests) in cc)

pub some_chars : (text : List ℕ) → IsUtf8 text → (length text == 0) ≡ false → chars text ≡ [] → ⊥
some_chars text u h e =
    let none : text ≡ [] = sym (encodes-chars text u) ∙ ap encode_utf8_all e in
    let yes : (length text == 0) ≡ true = ap (λ (bs : List ℕ). length bs == 0) none in
    cc

-- ---- the versions that runs are

-- these versions, and then those
abbrev pub with_front : List VersionRecord → Option (List VersionRecord) → Option (List VersionRecord)
with_front versions found = option_map (λ more. versions ++ more) found

pushed : (versions : List VersionRecord) (version : VersionRecord) (found : Option (List VersionRecord))
    → with_front versions (with_version (Some version) found) ≡ with_front (versions ++ version ∷ []) found
pushed versions version None = refl
pushed versions version (Some more) = ap Some (sym (append_assoc versions (version ∷ []) more))

pub version_pushed : (text rest run later : List ℕ) (versions : List VersionRecord) (version : VersionRecord)
    → versions_of (runs_of text) ≡ with_front versions (versions_of (runs_of rest))
    → runs_of rest ≡ run ∷ runs_of later → version_of run ≡ Some version
    → versions_of (runs_of text) ≡ with_front (versions ++ version ∷ []) (versions_of (runs_of later))
version_pushed text rest run later versions version h e v =
    h ∙ ap (λ runs. with_front versions (versions_of runs)) e
    ∙ ap (λ found. with_front versions (with_version found (versions_of (runs_of later)))) v
    ∙ pushed versions version (versions_of (runs_of later))

pub version_missing : (text rest run later : List ℕ) (versions : List VersionRecord)
    → versions_of (runs_of text) ≡ with_front versions (versions_of (runs_of rest))
    → runs_of rest ≡ run ∷ runs_of later → version_of run ≡ None → versions_of (runs_of text) ≡ None
version_missing text rest run later versions h e v =
    h ∙ ap (λ runs. with_front versions (versions_of runs)) e
    ∙ ap (λ found. with_front versions (with_version found (versions_of (runs_of later)))) v

pub versions_whole : (text rest : List ℕ) (versions : List VersionRecord)
    → versions_of (runs_of text) ≡ with_front versions (versions_of (runs_of rest)) → runs_of rest ≡ []
    → versions_of (runs_of text) ≡ Some versions
versions_whole text rest versions h e =
    h ∙ ap (λ runs. with_front versions (versions_of runs)) e ∙ ap Some (append-nil versions)
