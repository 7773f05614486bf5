-- The numbers of the lines of a text rise.
use Rattle.std.proofs.Common.{◌≡◌, ◌∙◌, ℕ, ◌<◌, ◌+◌, ◌==◌, not, List, [], ◌∷◌, map, refl, ap, sym, subst}
use Rattle.std.proofs.Common.{arith}
use Rattle.std.proofs.lemmas.List.Kept.{IsStrictlySortedBy-filter}
use Rattle.std.specs.Cmp.{nat_cmp_is}
use Rattle.std.specs.List.{AllByRecursion, AllZip, enumerate_from, slice_split}
use Rattle.std.specs.List.Sorted.{IsStrictlySortedBy}
use Rattle.std.specs.Ordering.{nat_cmp}
use Rattle.std.specs.declared.cmp.Ordering.{Ordering}
use Rattle.std.specs.declared.cmp.Ordering.TheVariants.{Less}
use Rattle.std.specs.Str.Lines.{strip_carriage_return}
use Rattle.pep508_url.specs.Vars.{Variables}
use Rattle.pep508_tree.specs.Meaning.{NodeRecord}
use Rattle.reqtable_candidates.specs.TextLines.{is_blank, without_comment, text_lines}
use Rattle.reqtable_requirements.specs.LineReading.{LineRecord}
use Rattle.reqtable_requirements.specs.LineText.{IsNumberedLine}
use Rattle.reqtable_requirements.specs.Requirements.{StandsFor}
use Rattle.reqtable_requirements.specs.declared.requirements.Line.{Line}

-- numbered texts in the order of their numbers
abbrev by_number : ℕ × List ℕ → ℕ × List ℕ → Ordering
by_number a b = nat_cmp a.0 b.0

less : (m n : ℕ) → m < n → nat_cmp m n ≡ Less
less m n h = sym (nat_cmp_is m n Less h)

above : (m n : ℕ) (texts : List (List ℕ)) → m < n → AllByRecursion (λ y. nat_cmp m y.0 ≡ Less) (enumerate_from n texts)
above m n [] h = tt
above m n (text ∷ texts) h = (less m n h, above m (n + 1) texts (omega arith))

enumerated : (n : ℕ) (texts : List (List ℕ)) → IsStrictlySortedBy by_number (enumerate_from n texts)
unfolding IsStrictlySortedBy
enumerated n [] = tt
enumerated n (text ∷ texts) = (above n (n + 1) texts (omega arith), enumerated (n + 1) texts)

texts_rise : (bytes : List ℕ) → IsStrictlySortedBy by_number (text_lines bytes)
unfolding text_lines
texts_rise bytes =
    let lines = map (λ l. without_comment (strip_carriage_return l)) (slice_split (λ b. b == 10) bytes) in
    IsStrictlySortedBy-filter by_number (λ l. not (is_blank l.1)) (enumerate_from 1 lines) (enumerated 1 lines)

module _ (vars : Variables) where
  said_above : (m : ℕ) (texts : List (ℕ × List ℕ)) (said : List LineRecord) → AllZip (IsNumberedLine vars) texts said
      → AllByRecursion (λ y. nat_cmp m y.0 ≡ Less) texts → AllByRecursion (λ k. nat_cmp m k ≡ Less) (map (λ line. line.number) said)
  said_above m [] [] z h = tt
  said_above m [] (line ∷ said) z h = absurd z
  said_above m (text ∷ texts) [] z h = absurd z
  said_above m (text ∷ texts) (line ∷ said) z h =
      (ap (nat_cmp m) z.0.1 ∙ h.0, said_above m texts said z.1 h.1)

  said_rise : (texts : List (ℕ × List ℕ)) (said : List LineRecord) → AllZip (IsNumberedLine vars) texts said
      → IsStrictlySortedBy by_number texts → IsStrictlySortedBy nat_cmp (map (λ line. line.number) said)
  unfolding IsStrictlySortedBy
  said_rise [] [] z h = tt
  said_rise [] (line ∷ said) z h = absurd z
  said_rise (text ∷ texts) [] z h = absurd z
  said_rise (text ∷ texts) (line ∷ said) z h =
      let P : ℕ → Type 0 = λ m. AllByRecursion (λ k. nat_cmp m k ≡ Less) (map (λ line. line.number) said) in
      (subst P (sym z.0.1) (said_above text.0 texts said z.1 h.0), said_rise texts said z.1 h.1)

  numbers_same : (nodes : List NodeRecord) (lines : List Line) (said : List LineRecord)
      → AllZip (StandsFor vars nodes) lines said → map (λ line. line.number) lines ≡ map (λ line. line.number) said
  numbers_same nodes [] [] h = refl
  numbers_same nodes [] (line ∷ said) h = absurd h
  numbers_same nodes (line ∷ lines) [] h = absurd h
  numbers_same nodes (line ∷ lines) (one ∷ said) h =
      ap (λ n. n ∷ map (λ line. line.number) lines) h.0.number
      ∙ ap (λ ns. one.number ∷ ns) (numbers_same nodes lines said h.1)

  pub numbers_rise : (nodes : List NodeRecord) (bytes : List ℕ) (lines : List Line) (said : List LineRecord)
      → AllZip (IsNumberedLine vars) (text_lines bytes) said → AllZip (StandsFor vars nodes) lines said
      → IsStrictlySortedBy nat_cmp (map (λ line. line.number) lines)
  numbers_rise nodes bytes lines said numbered stand =
      subst (IsStrictlySortedBy nat_cmp) (sym (numbers_same nodes lines said stand))
      (said_rise (text_lines bytes) said numbered (texts_rise bytes))
