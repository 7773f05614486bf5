-- Clauses that are no candidates of a clause don't matter to it.
use Rattle.std.proofs.Common.{◌≡◌, ℕ, ◌/◌, ◌%◌, ◌^◌, ◌<◌, ◌==◌, Bool, true, false, not, ◌&&◌, ◌||◌, cond}
use Rattle.std.proofs.Common.{List, [], ◌∷◌, ◌++◌, length, refl, sym, ap, ◌∙◌, subst, true≢false, arith}
use Rattle.std.specs.Cmp.{unsigned_Decides}
use Rattle.std.specs.Int.Bits.{bit_or, or_self}
use Rattle.std.specs.List.{list_all, list_any}
use Rattle.std.proofs.lemmas.List.Concat.{flat_map-append}
use Rattle.std.proofs.lemmas.List.Folds.{list_any-append}
use Rattle.pep508_marker_text_laws.specs.Simplified.{sifted, has_some, spares, is_needless, stands_in}
use Rattle.pep508_marker_text_laws.proofs.Removals.{both, together, all_too}
use Rattle.pep508_clauses.proofs.Joined.{Within, is_so, so_is, within_all, left_within, right_within}
use Rattle.pep508_clauses.proofs.Joined.{first_within, joined_behind, joined_within, nothing_within}
use Rattle.pep508_clauses.proofs.OneMore.{within_but_one}
use Rattle.pep508_clauses.proofs.Straying.{either_true, or_left, or_right, all_words}
use Rattle.pep508_clauses.specs.declared.strays.Strays.{Strays}
use Rattle.pep508_clauses.specs.declared.strays.Strays.TheVariants.{None, One, Several}
use Rattle.pep508_clauses.specs.Near.{joined, is_within, is_within_but_one, is_near, may_cover}
use Rattle.pep508_clauses.specs.Sparing.{with_word, are_several, are_at_most, strays_of, candidate_of}
use Rattle.pep508_clauses.specs.Sparing.{candidates_of, is_needless_by, has, words_of}
use Rattle.pep508_clauses.specs.Words.{spread, value_bits, literal_bit}

pub candidates_beside : {T : Type 0} (word literal : T → ℕ) (own : ℕ → Bool) (clause : List T)
    (front behind : List (List T)) →
    candidates_of literal own word clause (front ++ behind)
    ≡ candidates_of literal own word clause front ++ candidates_of literal own word clause behind
candidates_beside word literal own clause front behind =
    flat_map-append (candidate_of literal own word clause) front behind

implied : (a b : Bool) → (b ≡ true → a ≡ true) → (a && b) ≡ b
implied a true from = ap (λ c. c && true) (from refl)
implied true false from = refl
implied false false from = refl

-- ---- strays

still_at_most : (held : Bool) (word negated : ℕ) (strays : Strays) → (held || word == negated) ≡ true →
    are_at_most negated strays ≡ true → are_at_most negated (with_word held word strays) ≡ true
still_at_most true word negated strays a e = e
still_at_most false word negated None a e = a
still_at_most false word negated (One other) a e =
    let is = (unsigned_Decides word negated).0 a in
    let other_is = (unsigned_Decides other negated).0 e in
    ap (λ b. are_at_most negated (cond b (One other) Several))
    ((unsigned_Decides other word).1 (other_is ∙ sym is)) ∙ e
still_at_most false word negated Several a e = e

few : (negated : ℕ) (strays : Strays) → are_at_most negated strays ≡ true → are_several strays ≡ false
few negated None e = refl
few negated (One word) e = refl
few negated Several e = absurd (true≢false (sym e))

module _ {A : Type 0} (p : A → Bool) (negated : ℕ) where
  abbrev is_chosen : Strays × A → Bool
  is_chosen candidate = are_at_most negated candidate.0 && p candidate.1

  never : (a : Bool) → (a && false) ≡ false
  never true = refl
  never false = refl

  chosen_few : (several : Bool) (strays : Strays) (x : A) (answer : Bool) → p x ≡ answer →
      (answer ≡ true → several ≡ false) → (answer ≡ true → are_at_most negated strays ≡ true) →
      list_any is_chosen (cond several [] ((strays, x) ∷ [])) ≡ answer
  chosen_few true strays x true is few most = absurd (true≢false (few refl))
  chosen_few true strays x false is few most = refl
  chosen_few false strays x true is few most = (λ i. (most refl i && is i) || false)
  chosen_few false strays x false is few most =
      ap (λ b. (are_at_most negated strays && b) || false) is
      ∙ ap (λ b. b || false) (never (are_at_most negated strays))

  chosen : (near : Bool) (strays : Strays) (x : A) (answer : Bool) → p x ≡ answer → (answer ≡ true → near ≡ true) →
      (answer ≡ true → are_at_most negated strays ≡ true) →
      list_any is_chosen (cond near (cond (are_several strays) [] ((strays, x) ∷ [])) []) ≡ answer
  chosen true strays x answer is from most =
      chosen_few (are_several strays) strays x answer is (λ it. few negated strays (most it)) most
  chosen false strays x true is from most = absurd (true≢false (sym (from refl)))
  chosen false strays x false is from most = refl

-- ---- what holds of all of some

module _ {T : Type 0} (p : T → Bool) where
  all_with : (q : T → Bool) (terms : List T) → list_all p terms ≡ true → list_all q terms ≡ true →
      list_all (λ term. p term && q term) terms ≡ true
  all_with q [] x y = refl
  all_with q (term ∷ terms) x y =
      let held = both (p term) _ x in
      let more = both (q term) _ y in
      together _ _ (together _ _ held.0 more.0) (all_with q terms held.1 more.1)

  all_both : (front behind : List T) → list_all p front ≡ true → list_all p behind ≡ true →
      list_all p (front ++ behind) ≡ true
  all_both [] behind x y = y
  all_both (term ∷ front) behind x y =
      let parts = both (p term) _ x in
      together _ _ parts.0 (all_both front behind parts.1 y)

module _ {T : Type 0} (same opposite : T → T → Bool) (word literal negation : T → ℕ)
    (word_of_same : (a b : T) → same a b ≡ true → word a ≡ word b)
    (word_of_opposite : (a b : T) → opposite a b ≡ true → word a ≡ word b)
    (literal_of_same : (a b : T) → same a b ≡ true → literal a ≡ literal b)
    (literal_of_opposite : (a b : T) → opposite a b ≡ true → negation a ≡ literal b) where
  -- ---- terms whose bits stand in a number

  abbrev is_among : (T → ℕ) → ℕ → T → Bool
  is_among bits all term = is_within all (bits term)

  module _ (bits : T → ℕ) (same_bits : (a b : T) → same a b ≡ true → bits a ≡ bits b) (all : ℕ) where
    all_among : (from : ℕ) (clause : List T) → Within all (joined_behind bits from clause) →
        list_all (is_among bits all) clause ≡ true
    all_among from [] w = refl
    all_among from (term ∷ later) w =
        together (is_among bits all term) _
        (is_so all _ (within_all all _ (bits term) w
        (within_all _ _ (bits term) (first_within bits _ later) (right_within from (bits term)))))
        (all_among (bit_or from (bits term)) later w)

    stands_among : (clause : List T) (term : T) → list_all (is_among bits all) clause ≡ true →
        stands_in same opposite clause term ≡ true → is_among bits all term ≡ true
    stands_among [] term e stands = absurd (true≢false (sym stands))
    stands_among (other ∷ later) term e stands =
        let parts = both (is_among bits all other) (list_all (is_among bits all) later) e in
        either_true (same term other) _ _ (λ it. ap (is_within all) (same_bits term other it) ∙ parts.0)
        (λ it. stands_among later term parts.1 it) stands

    stand_among : (clause other : List T) → list_all (is_among bits all) clause ≡ true →
        list_all (stands_in same opposite clause) other ≡ true → is_within all (joined bits other) ≡ true
    stand_among clause other e stand =
        is_so all _ (joined_within bits all (stands_in same opposite clause)
        (λ term stands. so_is all _ (stands_among clause term e stands)) 0 other (nothing_within all) stand)

    -- where a term is spared, the bits are among wider ones that have those of its negations
    module _ (wide : ℕ) (wider : Within wide all) (term : T)
        (negated : (it : T) → opposite term it ≡ true → Within wide (bits it)) where
      spared_among : (rest other : List T) → list_all (is_among bits all) rest ≡ true →
          spares same opposite term rest other ≡ true → Within wide (joined bits other)
      spared_among rest other e spared =
          joined_within bits wide
          (λ it. not (same term it) && (opposite term it || stands_in same opposite rest it))
          (λ it is. so_is wide _ (either_true (opposite term it) _ _ (λ o. is_so wide _ (negated it o))
          (λ s. is_so wide _ (within_all wide all (bits it) wider (so_is all _ (stands_among rest it e s))))
          (both (not (same term it)) _ is).1))
          0 other (nothing_within wide) spared

  -- ---- bits of values

  abbrev own_value : ℕ → T → ℕ
  own_value from term = value_bits (word term) from

  value_same : (from : ℕ) (a b : T) → same a b ≡ true → own_value from a ≡ own_value from b
  value_same from a b it = ap (λ w. value_bits w from) (word_of_same a b it)

  value_spared : (from all : ℕ) (term : T) (rest other : List T) → is_among (own_value from) all term ≡ true →
      list_all (is_among (own_value from) all) rest ≡ true → spares same opposite term rest other ≡ true →
      is_within all (joined (own_value from) other) ≡ true
  value_spared from all term rest other held e spared =
      is_so all _ (spared_among (own_value from) (value_same from) all all (or_self all) term
      (λ it o. so_is all _
      (ap (λ w. is_within all (value_bits w from)) (sym (word_of_opposite term it o)) ∙ held))
      rest other e spared)

  -- ---- bits of terms

  abbrev own_bit : ℕ → T → ℕ
  own_bit from term = literal_bit (literal term) from

  bit_same : (from : ℕ) (a b : T) → same a b ≡ true → own_bit from a ≡ own_bit from b
  bit_same from a b it = ap (λ l. literal_bit l from) (literal_of_same a b it)

  bit_spared : (from all : ℕ) (term : T) (rest other : List T) →
      list_all (is_among (own_bit from) all) rest ≡ true → spares same opposite term rest other ≡ true →
      Within (bit_or all (literal_bit (negation term) from)) (joined (own_bit from) other)
  bit_spared from all term rest other e spared =
      let more = literal_bit (negation term) from in
      spared_among (own_bit from) (bit_same from) all (bit_or all more) (left_within all more) term
      (λ it o. subst (λ l. Within (bit_or all more) (literal_bit l from)) (literal_of_opposite term it o)
      (right_within all more))
      rest other e spared

  nearly_spared : (from all : ℕ) (term : T) (rest other : List T) →
      list_all (is_among (own_bit from) all) rest ≡ true → spares same opposite term rest other ≡ true →
      is_within_but_one all (joined (own_bit from) other) ≡ true
  nearly_spared from all term rest other e spared =
      within_but_one all (joined (own_bit from) other) (spread (negation term) / 2 ^ from % 64)
      (bit_spared from all term rest other e spared)

  -- ---- near a clause

  module _ (clause : List T) where
    abbrev own_among : (T → ℕ) → T → Bool
    own_among bits term = is_among bits (joined bits clause) term

    abbrev has_values : T → Bool
    has_values term = own_among (own_value 40) term && own_among (own_value 16) term

    abbrev has_bits : T → Bool
    has_bits term = own_among (own_bit 58) term && own_among (own_bit 52) term

    abbrev is_own : T → Bool
    is_own term = has_values term && has_bits term

    all_own_by : (bits : T → ℕ) (same_bits : (a b : T) → same a b ≡ true → bits a ≡ bits b) →
        list_all (own_among bits) clause ≡ true
    all_own_by bits same_bits =
        let own = joined bits clause in
        all_among bits same_bits own 0 clause (or_self own)

    all_own : list_all is_own clause ≡ true
    all_own =
        all_with has_values has_bits clause
        (all_with (own_among (own_value 40)) (own_among (own_value 16)) clause
        (all_own_by (own_value 40) (value_same 40)) (all_own_by (own_value 16) (value_same 16)))
        (all_with (own_among (own_bit 58)) (own_among (own_bit 52)) clause
        (all_own_by (own_bit 58) (bit_same 58)) (all_own_by (own_bit 52) (bit_same 52)))

    near_where_spares : (term : T) (rest other : List T) → is_own term ≡ true → list_all is_own rest ≡ true →
        spares same opposite term rest other ≡ true → is_near word literal clause other ≡ true
    near_where_spares term rest other held e spared =
        let values : (it : T) → is_own it ≡ true →
        (own_among (own_value 40) it ≡ true) × (own_among (own_value 16) it ≡ true) =
        λ it own. both (own_among (own_value 40) it) _ (both (has_values it) (has_bits it) own).0 in
        let bits : (it : T) → is_own it ≡ true →
        (own_among (own_bit 58) it ≡ true) × (own_among (own_bit 52) it ≡ true) =
        λ it own. both (own_among (own_bit 58) it) _ (both (has_values it) (has_bits it) own).1 in
        together _ _
        (together _ _
        (value_spared 40 _ term rest other (values term held).0
        (all_too is_own _ (λ it own. (values it own).0) rest e) spared)
        (value_spared 16 _ term rest other (values term held).1
        (all_too is_own _ (λ it own. (values it own).1) rest e) spared))
        (together _ _
        (nearly_spared 58 _ term rest other (all_too is_own _ (λ it own. (bits it own).0) rest e) spared)
        (nearly_spared 52 _ term rest other (all_too is_own _ (λ it own. (bits it own).1) rest e) spared))

    -- terms of which a set has the words
    module _ (own : ℕ → Bool) where
      abbrev has_word : T → Bool
      has_word term = own (literal term)

      abbrev is_held : T → Bool
      is_held term = is_own term && has_word term

      word_stands : (rest : List T) (term : T) → list_all has_word rest ≡ true →
          stands_in same opposite rest term ≡ true → has_word term ≡ true
      word_stands [] term e stands = absurd (true≢false (sym stands))
      word_stands (other ∷ later) term e stands =
          let parts = both (has_word other) (list_all has_word later) e in
          either_true (same term other) _ _ (λ it. ap own (literal_of_same term other it) ∙ parts.0)
          (λ it. word_stands later term parts.1 it) stands

      abbrev is_allowed : ℕ → T → Bool
      is_allowed negated term = has_word term || literal term == negated

      spared_allowed : (term : T) (rest other : List T) → list_all has_word rest ≡ true →
          spares same opposite term rest other ≡ true → list_all (is_allowed (negation term)) other ≡ true
      spared_allowed term rest other e spared =
          all_too (λ it. not (same term it) && (opposite term it || stands_in same opposite rest it))
          (is_allowed (negation term))
          (λ it is. either_true (opposite term it) _ _
          (λ o. or_right (has_word it) _
          ((unsigned_Decides (literal it) (negation term)).1 (sym (literal_of_opposite term it o))))
          (λ s. or_left (has_word it) _ (word_stands rest it e s)) (both (not (same term it)) _ is).1)
          other spared

      at_most_one : (negated : ℕ) (other : List T) → list_all (is_allowed negated) other ≡ true →
          are_at_most negated (strays_of literal own other) ≡ true
      at_most_one negated [] e = refl
      at_most_one negated (term ∷ later) e =
          let parts = both (is_allowed negated term) _ e in
          still_at_most (has_word term) (literal term) negated (strays_of literal own later) parts.0
          (at_most_one negated later parts.1)

      chosen_alike : (p : List T → Bool) (negated : ℕ) →
          ((other : List T) → p other ≡ true → (is_near word literal clause other ≡ true)
          × (are_at_most negated (strays_of literal own other) ≡ true)) → (others : List (List T)) →
          list_any (λ candidate. are_at_most negated candidate.0 && p candidate.1)
          (candidates_of literal own word clause others)
          ≡ list_any p others
      chosen_alike p negated may [] = refl
      chosen_alike p negated may (other ∷ later) =
          list_any-append (λ candidate. are_at_most negated candidate.0 && p candidate.1)
          (candidate_of literal own word clause other) (candidates_of literal own word clause later)
          ∙ (λ i. chosen p negated (is_near word literal clause other) (strays_of literal own other) other
          (p other) refl (λ it. (may other it).0) (λ it. (may other it).1) i
          || chosen_alike p negated may later i)

      needless_alike : (others : List (List T)) (term : T) (rest : List T) → is_held term ≡ true →
          list_all is_held rest ≡ true →
          is_needless_by same opposite negation (candidates_of literal own word clause others) term rest
          ≡ is_needless same opposite others term rest
      needless_alike others term rest held e =
          let near : list_all is_own rest ≡ true =
          all_too is_held is_own (λ it h. (both (is_own it) (has_word it) h).0) rest e in
          let have : list_all has_word rest ≡ true =
          all_too is_held has_word (λ it h. (both (is_own it) (has_word it) h).1) rest e in
          ap (λ b. has_some rest && b)
          (chosen_alike (spares same opposite term rest) (negation term)
          (λ other spared. (
            near_where_spares term rest other (both (is_own term) (has_word term) held).0 near spared,
            at_most_one (negation term) other (spared_allowed term rest other have spared),
          ))
          others)

      sifted_alike : (others : List (List T)) (kept later : List T) → list_all is_held kept ≡ true →
          list_all is_held later ≡ true →
          sifted (is_needless_by same opposite negation (candidates_of literal own word clause others)) kept later
          ≡ sifted (is_needless same opposite others) kept later
      sifted_alike others kept [] x y = refl
      sifted_alike others kept (term ∷ later) x y =
          let parts = both (is_held term) _ y in
          let rest = all_both is_held kept later x parts.1 in
          (λ i. cond (needless_alike others term (kept ++ later) parts.0 rest i)
          (sifted_alike others kept later x parts.1 i)
          (sifted_alike others (kept ++ term ∷ []) later
          (all_both is_held kept (term ∷ []) x (together _ _ parts.0 refl)) parts.1 i))

    stand_own : (bits : T → ℕ) (same_bits : (a b : T) → same a b ≡ true → bits a ≡ bits b) (other : List T) →
        list_all (stands_in same opposite clause) other ≡ true →
        is_within (joined bits clause) (joined bits other) ≡ true
    stand_own bits same_bits other stand =
        stand_among bits same_bits (joined bits clause) clause other (all_own_by bits same_bits) stand

    may_where_all_stand : (other : List T) → list_all (stands_in same opposite clause) other ≡ true →
        may_cover word literal clause other ≡ true
    may_where_all_stand other stand =
        together _ _
        (together _ _
        (stand_own (own_value 40) (value_same 40) other stand)
        (stand_own (own_value 16) (value_same 16) other stand))
        (together _ _
        (stand_own (own_bit 58) (bit_same 58) other stand)
        (stand_own (own_bit 52) (bit_same 52) other stand))

  -- the candidates of others shorten a clause as all others do
  pub shortened_by_candidates : (words : List ℕ) (others : List (List T))
      (candidates : List (Strays × List T)) (clause short : List T) → words ≡ words_of literal clause →
      candidates ≡ candidates_of literal (has words) word clause others →
      short ≡ sifted (is_needless_by same opposite negation candidates) [] clause →
      short ≡ sifted (is_needless same opposite others) [] clause
  shortened_by_candidates words others candidates clause short are found is =
      is
      ∙ ap (λ those. sifted (is_needless_by same opposite negation those) [] clause) found
      ∙ sifted_alike clause (has words) others [] clause refl
      (all_with (is_own clause) (λ term. has words (literal term)) clause (all_own clause)
      (ap (λ those. list_all (λ term. has those (literal term)) clause) are ∙ all_words literal clause))

  -- a term alone is not needless
  pub alone : (others : List (List T)) (clause : List T) → length clause < 2 →
      clause ≡ sifted (is_needless same opposite others) [] clause
  alone others [] h = refl
  alone others (term ∷ []) h = refl
  alone others (term ∷ next ∷ later) h = absurd (omega (arith, h))

  -- a clause is covered only by one that may cover it
  pub far_covers : (clause other : List T) → may_cover word literal clause other ≡ false →
      false ≡ list_all (stands_in same opposite clause) other
  far_covers clause other far =
      ap (λ may. may && list_all (stands_in same opposite clause) other) (sym far)
      ∙ implied _ _ (may_where_all_stand clause other)
