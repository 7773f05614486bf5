-- A word says which suffix its version has.
use Rattle.std.proofs.Common.{◌≡◌, ℕ, ◌+◌, ◌*◌, ◌%◌, ◌^◌, ◌<◌, List, get_or, Option, Some, None, refl, ap, ◌∙◌}
use Rattle.std.proofs.Common.{◌&&◌, Bool, true, false, arith, if◌then◌else◌}
use Rattle.std.proofs.lemmas.Bool.{false≢true}
use Rattle.std.proofs.lemmas.Bool.Decides.{nat_tests}
use Rattle.std.proofs.lemmas.Nat.{div-mul-add, mod-mul-add}
use Rattle.pep440_text.specs.declared.Prerelease.{Prerelease}
use Rattle.pep440_text.specs.declared.PrereleaseKind.TheVariants.{Alpha, Beta, Rc}
use Rattle.pep440_text.specs.Kept.{SuffixRecord, no_suffixes}
use Rattle.pep440_version.specs.declared.packing.Suffix.{Suffix}
use Rattle.pep440_version.specs.declared.packing.Suffix.TheVariants.{Min, Dev, Pre, Bare, Post, Max}
use Rattle.pep440_version.specs.Packing.{suffix_among, kind_of, number_of, release_bits, suffix_fits, suffix_bits, suffix_by, suffix_in}
use Rattle.pep440_version.specs.Packing.{alone, unpacked}

kind_small : (s : Suffix) → kind_of s < 8
kind_small (Pre Alpha n) = omega arith
kind_small (Pre Beta n) = omega arith
kind_small (Pre Rc n) = omega arith
kind_small s = omega arith

same_suffix : (s : Suffix) → suffix_by (kind_of s) (number_of s) ≡ s
same_suffix (Pre Alpha n) = refl
same_suffix (Pre Beta n) = refl
same_suffix (Pre Rc n) = refl
same_suffix Bare = refl
same_suffix s = refl

above : List ℕ → ℕ
above r = get_or r 0 0 * 2 ^ 24 + get_or r 1 0 * 2 ^ 16 + get_or r 2 0 * 2 ^ 8 + get_or r 3 0

word_ends : (r : List ℕ) (s : Suffix)
    → release_bits r + suffix_bits (Some s) ≡ (above r * 8 + kind_of s) * 2 ^ 21 + number_of s
unfolding above
word_ends r s = omega arith

word_says : (r : List ℕ) (s : Suffix) → number_of s < 2 ^ 21
    → suffix_in (release_bits r + suffix_bits (Some s)) ≡ s
word_says r s h =
    let k = kind_small s in
    let front = above r * 8 + kind_of s in
    let word = front * 2 ^ 21 + number_of s in
    ap suffix_in (word_ends r s)
    ∙ ap (λ n. suffix_by (n % 8) (word % 2 ^ 21)) (div-mul-add front (2 ^ 21) (number_of s) h)
    ∙ ap (suffix_by (front % 8)) (mod-mul-add front (2 ^ 21) (number_of s) h)
    ∙ ap (λ n. suffix_by n (number_of s)) (mod-mul-add (above r) 8 (kind_of s) k) ∙ same_suffix s

alone_is : (pre : Option Prerelease) (post dev least most : Option ℕ) (suffix : Suffix)
    → suffix_among pre post dev least most ≡ Some suffix
    → alone suffix ≡ record { pre = pre; post = post; dev = dev; least = least; most = most }
alone_is None None None None None suffix e = let same : suffix ≡ Bare = cc in ap alone same
alone_is (Some pre) None None None None suffix e =
    let same : suffix ≡ Pre pre.kind pre.number = cc in ap alone same
alone_is None (Some number) None None None suffix e = let same : suffix ≡ Post number = cc in ap alone same
alone_is None None (Some number) None None suffix e = let same : suffix ≡ Dev number = cc in ap alone same
alone_is None None None (Some number) None suffix e = let same : suffix ≡ Min number = cc in ap alone same
alone_is None None None None (Some number) suffix e = let same : suffix ≡ Max number = cc in ap alone same
alone_is pre post dev least most suffix e = absurd (cc)

said : (release : List ℕ) (suffixes : SuffixRecord) (found : Option Suffix)
    → suffix_among suffixes.pre suffixes.post suffixes.dev suffixes.least suffixes.most ≡ found
    → suffix_fits found ≡ true → unpacked (release_bits release + suffix_bits found) ≡ suffixes
unfolding unpacked
said release suffixes None e h = absurd (false≢true h)
said release suffixes (Some suffix) e h =
    let small : number_of suffix < 2 ^ 21 = grind (arith, nat_tests) in
    ap alone (word_says release suffix small)
    ∙ alone_is suffixes.pre suffixes.post suffixes.dev suffixes.least suffixes.most suffix e

by_test : (rest sized : Bool) (release : List ℕ) (suffixes : SuffixRecord) (found : Option Suffix) (word : ℕ)
    → suffix_among suffixes.pre suffixes.post suffixes.dev suffixes.least suffixes.most ≡ found
    → suffix_fits found ≡ sized
    → Some word ≡ (if rest && sized then Some (release_bits release + suffix_bits found) else None)
    → unpacked word ≡ suffixes
by_test true true release suffixes found word e h f =
    let same : word ≡ release_bits release + suffix_bits found = cc in
    ap unpacked same ∙ said release suffixes found e h
by_test true false release suffixes found word e h f = absurd (cc)
by_test false sized release suffixes found word e h f = absurd (cc)

-- a word that was made says the suffixes that it was made of
pub packed_suffixes : (rest : Bool) (release : List ℕ) (suffixes : SuffixRecord) (word : ℕ)
    → (let found = suffix_among suffixes.pre suffixes.post suffixes.dev suffixes.least suffixes.most in
    Some word ≡ (if rest && suffix_fits found then Some (release_bits release + suffix_bits found) else None))
    → unpacked word ≡ suffixes
packed_suffixes rest release suffixes word f =
    let found = suffix_among suffixes.pre suffixes.post suffixes.dev suffixes.least suffixes.most in
    by_test rest (suffix_fits found) release suffixes found word refl refl f

-- of a text these are three at most
pub text_suffixes : (rest : Bool) (release : List ℕ) (pre : Option Prerelease) (post dev : Option ℕ)
    (word : ℕ)
    → (let found = suffix_among pre post dev None None in
    Some word ≡ (if rest && suffix_fits found then Some (release_bits release + suffix_bits found) else None))
    → unpacked word ≡ record no_suffixes { pre = pre; post = post; dev = dev }
text_suffixes rest release pre post dev word f =
    packed_suffixes rest release (record no_suffixes { pre = pre; post = post; dev = dev }) word f
