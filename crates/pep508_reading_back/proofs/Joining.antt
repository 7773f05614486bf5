-- Printed pieces with a word between each two are read as joined pieces.
use Rattle.std.proofs.Common.{◌≡◌, ℕ, List, [], ◌∷◌, ◌++◌, map, inr, refl, ap, sym, subst, ◌∙◌, append_assoc}
use Rattle.std.proofs.lemmas.List.{append-nil}
use Rattle.std.proofs.lemmas.Str.{chars-append, IsUtf8-append, IsUtf8-from_ascii}
use Rattle.std.proofs.lemmas.Str.Ascii.{IsAscii-nil}
use Rattle.std.specs.List.{AllByRecursion, join_by, flat_map}
use Rattle.std.specs.Str.{chars, IsAscii, IsUtf8}
use Rattle.pep508_comparison_parser.specs.SideReading.{ends_key}
use Rattle.pep508_marker_parser.specs.MarkerReading.{Marker, Connective, And, Or, word_of}
use Rattle.pep508_marker_parser.specs.MarkerText.{IsBefore, IsSpaced, IsComparisonText, IsEnclosed, AreJoined}
use Rattle.pep508_reading_back.proofs.Plain.{ascii_by, front_chars}

abbrev pub Piece : Type 1
Piece = List ℕ → Marker → List ℕ → Type 0

-- ---- white space in front

pub led_spaced : (cs behind : List ℕ) → IsSpaced cs behind → IsSpaced (32 ∷ cs) behind
led_spaced cs behind s = (32 ∷ s.0, ap (λ ds. 32 ∷ ds) s.1, (refl, s.2))

-- what is read behind white space is read behind more of it
abbrev pub Leads : Piece → Type 0
Leads piece = (cs : List ℕ) (marker : Marker) (rest : List ℕ) → piece cs marker rest → piece (32 ∷ cs) marker rest

pub comparison_leads : Leads IsComparisonText
comparison_leads cs marker rest h = record {
  left = h.left;
  operator = h.operator;
  right = h.right;
  at_left = h.at_left;
  behind_left = h.behind_left;
  at_operator = h.at_operator;
  behind_operator = h.behind_operator;
  at_right = h.at_right;
  spaced_left = led_spaced cs h.at_left h.spaced_left;
  is_left = h.is_left;
  spaced_operator = h.spaced_operator;
  is_operator = h.is_operator;
  spaced_right = h.spaced_right;
  is_right = h.is_right;
  says = h.says;
}

pub enclosed_leads : (piece : Piece) → Leads (IsEnclosed piece)
enclosed_leads piece cs marker rest h = record {
  inside = h.inside;
  behind = h.behind;
  opens = led_spaced cs (40 ∷ h.inside) h.opens;
  is_piece = h.is_piece;
  closes = h.closes;
}

pub joined_leads : (word : Connective) (piece : Piece) → Leads piece → (cs : List ℕ) (markers : List Marker)
    (rest : List ℕ) → AreJoined word piece cs markers rest → AreJoined word piece (32 ∷ cs) markers rest
joined_leads word piece leads cs [] rest h = h
joined_leads word piece leads cs (marker ∷ []) rest h = leads cs marker rest h
joined_leads word piece leads cs (marker ∷ next ∷ markers) rest h =
    (h.0, h.1, leads cs marker h.0 h.2, h.3, h.4)

-- ---- pieces with a word between each two

abbrev pub between : Connective → List ℕ
between word = 32 ∷ (word_of word ++ (32 ∷ []))

between_ascii : (word : Connective) → IsAscii (between word)
between_ascii And = ascii_by (between And) refl
between_ascii Or = ascii_by (between Or) refl

pub record Pieces {X : Type 0} (text : X → List ℕ) (marked : X → Marker) (good : X → Type 0) (piece : Piece)
    : Type 0 where
  pub encoded : (x : X) → good x → IsUtf8 (text x)
  pub reads : (x : X) (rest : List ℕ) → good x → IsBefore ends_key rest →
      piece (chars (text x) ++ rest) (marked x) rest
  pub leads : Leads piece

empty_utf8 : IsUtf8 []
empty_utf8 = IsUtf8-from_ascii [] IsAscii-nil

module _ {X : Type 0} {text : X → List ℕ} {marked : X → Marker} {good : X → Type 0} {piece : Piece}
    (p : Pieces text marked good piece) (word : Connective) where
  abbrev later : List X → List ℕ
  later = flat_map (λ x. between word ++ text x)

  later_utf8 : (xs : List X) → AllByRecursion good xs → IsUtf8 (later xs)
  later_utf8 [] h = empty_utf8
  later_utf8 (x ∷ xs) h =
      IsUtf8-append (between word ++ text x) (later xs)
      (IsUtf8-append (between word) (text x) (IsUtf8-from_ascii (between word) (between_ascii word))
      (p.encoded x h.0))
      (later_utf8 xs h.1)

  pub joined_utf8 : (x : X) (xs : List X) → good x → AllByRecursion good xs →
      IsUtf8 (join_by text (between word) (x ∷ xs))
  joined_utf8 x xs g h = IsUtf8-append (text x) (later xs) (p.encoded x g) (later_utf8 xs h)

  word_regrouped : (front rest : List ℕ) →
      (between word ++ front) ++ rest ≡ 32 ∷ (word_of word ++ (32 ∷ (front ++ rest)))
  word_regrouped front rest = simp append_assoc

  next_chars : (x y : X) (ys : List X) (rest : List ℕ) → good x →
      chars (text x ++ later (y ∷ ys)) ++ rest
      ≡ chars (text x) ++ (32 ∷ (word_of word ++ (32 ∷ (chars (text y ++ later ys) ++ rest))))
  next_chars x y ys rest g =
      let behind : chars (later (y ∷ ys)) ≡ between word ++ chars (text y ++ later ys) =
      ap chars (append_assoc (between word) (text y) (later ys))
      ∙ front_chars (between word) (text y ++ later ys) (between_ascii word) in
      ap (λ cs. cs ++ rest) (chars-append (text x) (later (y ∷ ys)) (p.encoded x g)
      ∙ ap (λ cs. chars (text x) ++ cs) behind)
      ∙ append_assoc (chars (text x)) (between word ++ chars (text y ++ later ys)) rest
      ∙ ap (λ cs. chars (text x) ++ cs) (word_regrouped (chars (text y ++ later ys)) rest)

  pub joined_read : (x : X) (xs : List X) (rest : List ℕ) → good x → AllByRecursion good xs →
      IsBefore ends_key rest →
      AreJoined word piece (chars (join_by text (between word) (x ∷ xs)) ++ rest) (marked x ∷ map marked xs) rest
  joined_read x [] rest g h ends =
      subst (λ front. piece (chars front ++ rest) (marked x) rest) (sym (append-nil (text x)))
      (p.reads x rest g ends)
  joined_read x (y ∷ ys) rest g h ends =
      let behind : List ℕ = 32 ∷ (chars (text y ++ later ys) ++ rest) in
      let middle : List ℕ = 32 ∷ (word_of word ++ behind) in
      let next : AreJoined word piece behind (marked y ∷ map marked ys) rest =
      joined_leads word piece p.leads (chars (text y ++ later ys) ++ rest) (marked y ∷ map marked ys) rest
      (joined_read y ys rest h.0 h.1 ends) in
      subst (λ cs. AreJoined word piece cs (marked x ∷ marked y ∷ map marked ys) rest)
      (sym (next_chars x y ys rest g)) (
        middle,
        behind,
        p.reads x middle g (inr refl),
        record { spaced = (32 ∷ [], refl, (refl, tt)); ends = inr refl },
        next,
      )
