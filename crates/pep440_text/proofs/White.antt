-- White space alone.
use Rattle.std.proofs.Common.{◌≡◌, ℕ, suc, arith, ◌+◌, Bool, true, false, cond, eqb, length, drop, Ok, List}
use Rattle.std.proofs.Common.{[], ◌∷◌, refl, ap, ◌∙◌, ◌&&◌}
use Rattle.std.specs.Char.{is_ascii_whitespace}
use Rattle.std.specs.List.{prefix_len, list_all}
use Rattle.pep440_text.specs.Record.{epoch_record}
use Rattle.pep440_text.specs.Reading.{after_white, suffixed, pre_at, post_at, dev_at, local_at, end_at}
use Rattle.pep440_text.specs.Reading.{suffix_at, word_at, number_at, marked_number_at}
use Rattle.pep440_text.proofs.Digits.{not_none}

one_more : (n : ℕ) → 1 + n ≡ suc n
one_more n = omega arith

white_by : (b : ℕ) (bs : List ℕ) (t : Bool) → eqb (length (after_white bs)) 0 ≡ list_all is_ascii_whitespace bs
    → eqb (length (drop (cond t (1 + prefix_len is_ascii_whitespace bs) 0) (b ∷ bs))) 0 ≡ (t && list_all is_ascii_whitespace bs)
white_by b bs true e = ap (λ n. eqb (length (drop n (b ∷ bs))) 0) (one_more (prefix_len is_ascii_whitespace bs)) ∙ e
white_by b bs false e = not_none b bs

pub is_white_alone : (bytes : List ℕ) → eqb (length (after_white bytes)) 0 ≡ list_all is_ascii_whitespace bytes
is_white_alone [] = refl
is_white_alone (b ∷ bs) = white_by b bs (is_ascii_whitespace b) (is_white_alone bs)

-- where nothing is left, a version has epoch and release alone
pub nothing_behind : (said : ℕ × List ℕ) (bytes : List ℕ) → length bytes ≡ 0 → suffixed said bytes ≡ Ok (epoch_record said.0 said.1)
unfolding suffixed pre_at post_at dev_at local_at end_at suffix_at word_at number_at marked_number_at
nothing_behind said [] h = refl
nothing_behind said (b ∷ bs) h = absurd (omega arith)
