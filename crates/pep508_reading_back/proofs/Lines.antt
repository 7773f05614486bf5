-- Texts that are a line when they stand behind one another.
use Rattle.std.proofs.Common.{◌≡◌, ◌∙◌, ℕ, ◌-◌, ◌==◌, ◌&&◌, Bool, true, false, not, nat_lt, List, [], ◌∷◌}
use Rattle.std.proofs.Common.{◌++◌, length, take, if◌then◌else◌, refl, ap, subst, arith}
use Rattle.std.proofs.lemmas.Bool.{or_parts, or_from}
use Rattle.std.proofs.lemmas.Bool.Decides.{nat_tests}
use Rattle.std.proofs.lemmas.Str.{chars-append, IsUtf8-append, IsUtf8-from_ascii}
use Rattle.std.specs.Char.{is_whitespace}
use Rattle.std.specs.List.{AllByRecursion, list_all, slice_index}
use Rattle.std.specs.Str.{chars, IsUtf8}
use Rattle.std.specs.Str.Lines.{strip_carriage_return}
use Rattle.version_ranges.proofs.Membership.{all_append, all_weaker}
use Rattle.pep508_reading_back.specs.Lines.{IsPieceOf, has_comment, IsLine}
use Rattle.pep508_reading_back.proofs.Plain.{all_from, ascii_by, ascii_chars}
use Rattle.pep508_reading_back.proofs.ToldPoints.{all_parts}

-- ---- comments

-- what begins none behind white space begins none behind anything
behind_any : (blank : Bool) (cs : List ℕ) → has_comment true cs ≡ false → has_comment blank cs ≡ false
behind_any blank [] h = refl
behind_any true (c ∷ cs) h = h
behind_any false (c ∷ cs) h = (or_parts (c == 35) (has_comment (is_whitespace c) cs) h).1

behind_sign : (blank : Bool) (cs : List ℕ) → has_comment blank cs ≡ false → has_comment false cs ≡ false
behind_sign blank [] h = refl
behind_sign true (c ∷ cs) h = (or_parts (c == 35) (has_comment (is_whitespace c) cs) h).1
behind_sign false (c ∷ cs) h = h

comment_joined : (blank : Bool) (xs ys : List ℕ) → has_comment blank xs ≡ false → has_comment true ys ≡ false →
    has_comment blank (xs ++ ys) ≡ false
comment_joined blank [] ys h k = behind_any blank ys k
comment_joined blank (x ∷ xs) ys h k =
    let parts = or_parts (blank && x == 35) (has_comment (is_whitespace x) xs) h in
    or_from (blank && x == 35) (has_comment (is_whitespace x) (xs ++ ys)) parts.0
    (comment_joined (is_whitespace x) xs ys parts.1 k)

comment_in_front : (blank : Bool) (xs ys : List ℕ) → has_comment blank (xs ++ ys) ≡ false →
    has_comment blank xs ≡ false
comment_in_front blank [] ys h = refl
comment_in_front blank (x ∷ xs) ys h =
    let parts = or_parts (blank && x == 35) (has_comment (is_whitespace x) (xs ++ ys)) h in
    or_from (blank && x == 35) (has_comment (is_whitespace x) xs) parts.0
    (comment_in_front (is_whitespace x) xs ys parts.1)

comment_behind : (blank : Bool) (xs ys : List ℕ) → has_comment blank (xs ++ ys) ≡ false →
    has_comment false ys ≡ false
comment_behind blank [] ys h = behind_sign blank ys h
comment_behind blank (x ∷ xs) ys h =
    comment_behind (is_whitespace x) xs ys
    (or_parts (blank && x == 35) (has_comment (is_whitespace x) (xs ++ ys)) h).1

never_both : (blank b : Bool) → b ≡ false → (blank && b) ≡ false
never_both false b h = refl
never_both true b h = h

no_hash : (blank : Bool) (cs : List ℕ) → AllByRecursion (λ c. (c == 35) ≡ false) cs →
    has_comment blank cs ≡ false
no_hash blank [] h = refl
no_hash blank (c ∷ cs) h =
    or_from (blank && c == 35) (has_comment (is_whitespace c) cs) (never_both blank (c == 35) h.0)
    (no_hash (is_whitespace c) cs h.1)

-- ---- the last byte

abbrev pub ends_in_return : List ℕ → Bool
ends_in_return [] = false
ends_in_return (b ∷ []) = b == 13
ends_in_return (b ∷ c ∷ bs) = ends_in_return (c ∷ bs)

end_joined : (xs ys : List ℕ) → ends_in_return xs ≡ false → ends_in_return ys ≡ false →
    ends_in_return (xs ++ ys) ≡ false
end_joined [] ys h k = k
end_joined (x ∷ []) [] h k = h
end_joined (x ∷ []) (y ∷ ys) h k = k
end_joined (x ∷ z ∷ xs) ys h k = end_joined (z ∷ xs) ys h k

no_return : (bs : List ℕ) → AllByRecursion (λ b. (b == 13) ≡ false) bs → ends_in_return bs ≡ false
no_return [] h = refl
no_return (b ∷ []) h = h.0
no_return (b ∷ c ∷ bs) h = no_return (c ∷ bs) h.1

at_end : (b : ℕ) (bs : List ℕ) → (slice_index (b ∷ bs) (length bs) == 13) ≡ ends_in_return (b ∷ bs)
at_end b [] = refl
at_end b (c ∷ bs) = at_end c bs

pub not_stripped : (bs : List ℕ) → ends_in_return bs ≡ false → strip_carriage_return bs ≡ bs
not_stripped [] h = refl
not_stripped (b ∷ bs) h =
    let last : length (b ∷ bs) - 1 ≡ length bs = omega arith in
    ap (λ t. if t then take (length (b ∷ bs) - 1) (b ∷ bs) else (b ∷ bs))
    (ap (λ place. slice_index (b ∷ bs) place == 13) last ∙ at_end b bs ∙ h)

-- ---- pieces

-- no byte of it is a line feed
abbrev pub IsUnended : List ℕ → Type 0
IsUnended = AllByRecursion (λ b. (b == 10) ≡ false)

-- what may stand between quotes in a line
pub record IsQuiet (text : List ℕ) : Type 0 where
  pub encoded : IsUtf8 text
  pub unended : IsUnended text
  pub uncommented : has_comment false (chars text) ≡ false

piece_chars : (text piece : List ℕ) (is : IsPieceOf text piece) →
    chars text ≡ chars is.before ++ (chars piece ++ chars is.after)
piece_chars text piece is =
    ap chars is.split ∙ chars-append is.before (piece ++ is.after) is.before_encoded
    ∙ ap (λ cs. chars is.before ++ cs) (chars-append piece is.after is.encoded)

pub piece_quiet : (line piece : List ℕ) → IsLine line → IsPieceOf line piece → IsQuiet piece
piece_quiet line piece good is =
    let unended = subst IsUnended is.split good.unended in
    let behind = all_parts (λ b. (b == 10) ≡ false) is.before (piece ++ is.after) unended in
    record {
      encoded = is.encoded;
      unended = (all_parts (λ b. (b == 10) ≡ false) piece is.after behind.1).0;
      uncommented = comment_in_front false (chars piece) (chars is.after)
          (comment_behind true (chars is.before) (chars piece ++ chars is.after)
          (subst (λ cs. has_comment true cs ≡ false) (piece_chars line piece is) good.uncommented));
    }

-- ---- what is joined

-- a line that no carriage return ends
pub record IsCalm (text : List ℕ) : Type 0 where
  pub is_line : IsLine text
  pub unreturned : ends_in_return text ≡ false

pub calm_append : (xs ys : List ℕ) → IsCalm xs → IsCalm ys → IsCalm (xs ++ ys)
calm_append xs ys h k = record {
  is_line = record {
    encoded = IsUtf8-append xs ys h.is_line.encoded k.is_line.encoded;
    unended = all_append (λ b. (b == 10) ≡ false) xs ys h.is_line.unended k.is_line.unended;
    uncommented = ap (λ cs. has_comment true cs) (chars-append xs ys h.is_line.encoded)
        ∙ comment_joined true (chars xs) (chars ys) h.is_line.uncommented k.is_line.uncommented;
  };
  unreturned = end_joined xs ys h.unreturned k.unreturned;
}

-- printable ASCII but `#`
abbrev pub is_inked : ℕ → Bool
is_inked b = nat_lt 31 b && (nat_lt b 128 && not (b == 35))

abbrev pub Inked : List ℕ → Type 0
Inked = AllByRecursion (λ b. is_inked b ≡ true)

inked_below : (b : ℕ) → is_inked b ≡ true → nat_lt b 128 ≡ true
inked_below b h = grind (arith, nat_tests)

inked_unended : (b : ℕ) → is_inked b ≡ true → (b == 10) ≡ false
inked_unended b h = grind (arith, nat_tests)

inked_unreturned : (b : ℕ) → is_inked b ≡ true → (b == 13) ≡ false
inked_unreturned b h = grind (arith, nat_tests)

inked_no_hash : (b : ℕ) → is_inked b ≡ true → (b == 35) ≡ false
inked_no_hash b h = grind (arith, nat_tests)

all_below : (bs : List ℕ) → Inked bs → list_all (λ b. nat_lt b 128) bs ≡ true
all_below [] h = refl
all_below (b ∷ bs) h = ap (λ t. t && list_all (λ b. nat_lt b 128) bs) (inked_below b h.0) ∙ all_below bs h.1

pub inked_calm : (bs : List ℕ) → Inked bs → IsCalm bs
inked_calm bs h =
    let ascii = ascii_by bs (all_below bs h) in
    record {
      is_line = record {
        encoded = IsUtf8-from_ascii bs ascii;
        unended = all_weaker (λ b. is_inked b ≡ true) (λ b. (b == 10) ≡ false) inked_unended bs h;
        uncommented = ap (λ cs. has_comment true cs) (ascii_chars bs ascii)
            ∙ no_hash true bs (all_weaker (λ b. is_inked b ≡ true) (λ b. (b == 35) ≡ false) inked_no_hash bs h);
      };
      unreturned = no_return bs
          (all_weaker (λ b. is_inked b ≡ true) (λ b. (b == 13) ≡ false) inked_unreturned bs h);
    }

pub inked_from : (bs : List ℕ) → list_all is_inked bs ≡ true → Inked bs
inked_from = all_from is_inked

-- a constant of the print
pub calm_by : (bs : List ℕ) → list_all is_inked bs ≡ true → IsCalm bs
calm_by bs h = inked_calm bs (inked_from bs h)

pub inked_quiet : (bs : List ℕ) → Inked bs → IsQuiet bs
inked_quiet bs h =
    let calm = inked_calm bs h in
    record {
      encoded = calm.is_line.encoded;
      unended = calm.is_line.unended;
      uncommented = behind_sign true (chars bs) calm.is_line.uncommented;
    }

-- a text between its quotes
quote_chars : (text : List ℕ) → IsUtf8 text →
    chars ((39 ∷ []) ++ (text ++ (39 ∷ []))) ≡ (39 ∷ []) ++ (chars text ++ (39 ∷ []))
quote_chars text u =
    let quote = ascii_by (39 ∷ []) refl in
    let one : chars (39 ∷ []) ≡ 39 ∷ [] = ascii_chars (39 ∷ []) quote in
    chars-append (39 ∷ []) (text ++ (39 ∷ [])) (IsUtf8-from_ascii (39 ∷ []) quote)
    ∙ ap (λ cs. cs ++ chars (text ++ (39 ∷ []))) one
    ∙ ap (λ cs. (39 ∷ []) ++ cs) (chars-append text (39 ∷ []) u ∙ ap (λ cs. chars text ++ cs) one)

ends_by_quote : (text : List ℕ) → ends_in_return (39 ∷ (text ++ (39 ∷ []))) ≡ false
ends_by_quote [] = refl
ends_by_quote (b ∷ text) = ends_by_quote_behind b text
  where
    ends_by_quote_behind : (b : ℕ) (bs : List ℕ) → ends_in_return (b ∷ (bs ++ (39 ∷ []))) ≡ false
    ends_by_quote_behind b [] = refl
    ends_by_quote_behind b (c ∷ bs) = ends_by_quote_behind c bs

pub quoted_calm : (text : List ℕ) → IsQuiet text → IsCalm (39 ∷ (text ++ (39 ∷ [])))
quoted_calm text h =
    let quote = IsUtf8-from_ascii (39 ∷ []) (ascii_by (39 ∷ []) refl) in
    record {
      is_line = record {
        encoded = IsUtf8-append (39 ∷ []) (text ++ (39 ∷ [])) quote (IsUtf8-append text (39 ∷ []) h.encoded quote);
        unended = (refl, all_append (λ b. (b == 10) ≡ false) text (39 ∷ []) h.unended (refl, tt));
        uncommented = ap (λ cs. has_comment true cs) (quote_chars text h.encoded)
            ∙ comment_joined false (chars text) (39 ∷ []) h.uncommented refl;
      };
      unreturned = ends_by_quote text;
    }
