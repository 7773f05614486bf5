-- Whole versions and patterns: what is read is in the grammar, and what is in the grammar is read.
use Rattle.std.proofs.Common.{◌≡◌, ℕ, ◌==◌, ◌&&◌, Bool, true, false, cond, if◌then◌else◌, ◌↔◌, List, [], ◌∷◌}
use Rattle.std.proofs.Common.{◌++◌, Option, Some, None, Result, Ok, Err, refl, ap, sym, subst, ◌∙◌}
use Rattle.std.specs.Prelude.{codes}
use Rattle.std.specs.Char.{is_ascii_whitespace}
use Rattle.std.specs.List.{list_all}
use Rattle.std.specs.Result.{result_ok}
use Rattle.pep440_text.specs.declared.TextFault.{TextFault}
use Rattle.pep440_text.specs.declared.FaultKind.TheVariants.{Wildcard, UnexpectedEnd}
use Rattle.pep440_text.specs.Record.{VersionRecord, PatternRecord, epoch_record}
use Rattle.pep440_text.specs.Text.{AreWhite, IsPre, IsPost, IsDev, IsVersionText, IsStarText, IsPatternText}
use Rattle.pep440_text.specs.Reading.{◌>>=◌, at_left, head_at, pre_at, post_at, dev_at, suffix_at, word_at}
use Rattle.pep440_text.specs.Reading.{marked_number_at, number_at, local_at, end_at, suffixed, is_star}
use Rattle.pep440_text.specs.Reading.{version_behind, read_version, pattern_behind, read_pattern, version_of}
use Rattle.pep440_text.specs.Reading.{pattern_of}
use Rattle.pep440_text.proofs.Fronts.{ok_same, good, ok_inside, part_found, part_again}
use Rattle.pep440_text.proofs.FrontDigits.{Small, this_byte}
use Rattle.pep440_text.proofs.Releases.{by_index, by_recursion}
use Rattle.pep440_text.proofs.Parts.{SmallPre, pre_single, pre_reads, post_single, post_reads, dev_single}
use Rattle.pep440_text.proofs.Parts.{dev_reads}
use Rattle.pep440_text.proofs.Locals.{end_found, end_again, local_found, local_again}
use Rattle.pep440_text.proofs.WordTables.{and_both}
use Rattle.pep440_text.proofs.Heads.{SmallHead, head_found, head_again}

result_some : {A : Type 0} (read : Result A TextFault) (x : A) → result_ok read ≡ Some x → read ≡ Ok x
result_some (Ok y) x e = let k : y ≡ x = cc in ap Ok k
result_some (Err fault) x e = absurd (cc)

-- ---- what stands behind the release

suffixed_found : (text : List ℕ) (said : ℕ × List ℕ) (bytes : List ℕ) (version : VersionRecord) → SmallHead text said.0 said.1 bytes → suffixed said bytes ≡ Ok version → IsVersionText text version
unfolding suffixed
suffixed_found text said bytes version h q =
    let i = ok_inside (pre_at bytes) (λ pre. post_at pre.1 >>= λ post. dev_at post.1 >>= λ dev. local_at dev.1 >>= λ local. end_at local.1 >>= λ end.
    Ok (record { epoch = said.0; release = said.1; pre = pre.0; post = post.0; dev = dev.0; local = local.0; least = None; most = None })) version q in
    let pre = i.0 in
    let j = ok_inside (post_at pre.1) (λ post. dev_at post.1 >>= λ dev. local_at dev.1 >>= λ local. end_at local.1 >>= λ end.
    Ok (record { epoch = said.0; release = said.1; pre = pre.0; post = post.0; dev = dev.0; local = local.0; least = None; most = None })) version i.2 in
    let post = j.0 in
    let k = ok_inside (dev_at post.1) (λ dev. local_at dev.1 >>= λ local. end_at local.1 >>= λ end.
    Ok (record { epoch = said.0; release = said.1; pre = pre.0; post = post.0; dev = dev.0; local = local.0; least = None; most = None })) version j.2 in
    let dev = k.0 in
    let l = ok_inside (local_at dev.1) (λ local. end_at local.1 >>= λ end.
    Ok (record { epoch = said.0; release = said.1; pre = pre.0; post = post.0; dev = dev.0; local = local.0; least = None; most = None })) version k.2 in
    let local = l.0 in
    let m = ok_inside (end_at local.1) (λ end. Ok (record { epoch = said.0; release = said.1; pre = pre.0; post = post.0; dev = dev.0; local = local.0; least = None; most = None })) version l.2 in
    let has_pre = part_found IsPre SmallPre bytes (pre_at bytes) (pre_reads bytes) pre.0 pre.1 i.1 in
    let has_post = part_found IsPost Small pre.1 (post_at pre.1) (post_reads pre.1) post.0 post.1 j.1 in
    let has_dev = part_found IsDev Small post.1 (dev_at post.1) (dev_reads post.1) dev.0 dev.1 k.1 in
    let has_local = local_found dev.1 local.0 local.1 l.1 in
    let made : VersionRecord = record { epoch = said.0; release = said.1; pre = pre.0; post = post.0; dev = dev.0; local = local.0; least = None; most = None } in
    let e : made ≡ version = ok_same made version m.2 in
    let is : IsVersionText text made = record {
      after_release = bytes;
      head = h.0;
      after_pre = pre.1;
      has_pre = has_pre.0;
      after_post = post.1;
      has_post = has_post.0;
      after_dev = dev.1;
      has_dev = has_dev.0;
      local = has_local.0;
      white = local.1;
      split = has_local.1;
      has_local = has_local.2;
      is_white = end_found local.1 m.1;
      no_least = refl;
      no_most = refl;
      fits = record { epoch = h.1; release = by_index said.1 h.2; pre = has_pre.1; post = has_post.1; dev = has_dev.1 };
    } in
    subst (IsVersionText text) {x = made} {y = version} e is

-- a version's parts, read one behind the other, are that version
pub suffixed_chain : (version : VersionRecord) (bytes after_pre after_post after_dev white : List ℕ) → pre_at bytes ≡ Ok (version.pre, after_pre) → post_at after_pre ≡ Ok (version.post, after_post)
    → dev_at after_post ≡ Ok (version.dev, after_dev) → local_at after_dev ≡ Ok (version.local, white) → end_at white ≡ Ok tt → version.least ≡ None → version.most ≡ None
    → suffixed (version.epoch, version.release) bytes ≡ Ok version
unfolding suffixed
suffixed_chain version bytes after_pre after_post after_dev white a b c d e no_least no_most =
    ap (λ r. r >>= λ pre. post_at pre.1 >>= λ post. dev_at post.1 >>= λ dev. local_at dev.1 >>= λ local. end_at local.1 >>= λ end.
    Ok (record { epoch = version.epoch; release = version.release; pre = pre.0; post = post.0; dev = dev.0; local = local.0; least = None; most = None })) a
    ∙ ap (λ r. r >>= λ post. dev_at post.1 >>= λ dev. local_at dev.1 >>= λ local. end_at local.1 >>= λ end.
    Ok (record { epoch = version.epoch; release = version.release; pre = version.pre; post = post.0; dev = dev.0; local = local.0; least = None; most = None })) b
    ∙ ap (λ r. r >>= λ dev. local_at dev.1 >>= λ local. end_at local.1 >>= λ end.
    Ok (record { epoch = version.epoch; release = version.release; pre = version.pre; post = version.post; dev = dev.0; local = local.0; least = None; most = None })) c
    ∙ ap (λ r. r >>= λ local. end_at local.1 >>= λ end.
    Ok (record { epoch = version.epoch; release = version.release; pre = version.pre; post = version.post; dev = version.dev; local = local.0; least = None; most = None })) d
    ∙ ap (λ r. r >>= λ end. Ok (record { epoch = version.epoch; release = version.release; pre = version.pre; post = version.post; dev = version.dev; local = version.local; least = None; most = None })) e
    ∙ (λ z. Ok (record { epoch = version.epoch; release = version.release; pre = version.pre; post = version.post; dev = version.dev; local = version.local; least = sym no_least z; most = sym no_most z }))

suffixed_again : (text : List ℕ) (version : VersionRecord) → (i : IsVersionText text version) → suffixed (version.epoch, version.release) i.after_release ≡ Ok version
suffixed_again text version i =
    let a = part_again IsPre SmallPre pre_single i.after_release (pre_at i.after_release) (pre_reads i.after_release) version.pre i.after_pre i.has_pre i.fits.pre in
    let b = part_again IsPost Small post_single i.after_pre (post_at i.after_pre) (post_reads i.after_pre) version.post i.after_post i.has_post i.fits.post in
    let c = part_again IsDev Small dev_single i.after_post (dev_at i.after_post) (dev_reads i.after_post) version.dev i.after_dev i.has_dev i.fits.dev in
    let d = ap local_at i.split ∙ local_again i.local version.local i.white i.has_local i.is_white in
    suffixed_chain version i.after_release i.after_pre i.after_post i.after_dev i.white a b c d (end_again i.white i.is_white) i.no_least i.no_most

-- ---- the star of a pattern

star_by : (dot star : ℕ) (rest : List ℕ) (t u v : Bool) → (dot == 46) ≡ t → (star == 42) ≡ u → list_all is_ascii_whitespace rest ≡ v → cond t (cond u v false) false ≡ true → (dot ≡ 46) × (star ≡ 42) × (list_all is_ascii_whitespace rest ≡ true)
star_by dot star rest true true true e f g h = (this_byte dot 46 e, this_byte star 42 f, g)
star_by dot star rest true true false e f g h = absurd (cc)
star_by dot star rest true false v e f g h = absurd (cc)
star_by dot star rest false u v e f g h = absurd (cc)

all_white : (rest : List ℕ) → list_all is_ascii_whitespace rest ≡ true → AreWhite rest
all_white [] h = tt
all_white (b ∷ bs) h = let k = and_both (is_ascii_whitespace b) (list_all is_ascii_whitespace bs) h in (k.0, all_white bs k.1)

white_all : (rest : List ℕ) → AreWhite rest → list_all is_ascii_whitespace rest ≡ true
white_all [] h = refl
white_all (b ∷ bs) h = ap (λ t. t && list_all is_ascii_whitespace bs) h.0 ∙ white_all bs h.1

star_found : (bytes : List ℕ) → is_star bytes ≡ true → (white : List ℕ) × (bytes ≡ codes ".*" ++ white) × AreWhite white
star_found [] h = absurd (cc)
star_found (dot ∷ []) h = absurd (cc)
star_found (dot ∷ star ∷ rest) h =
    let k = star_by dot star rest (dot == 46) (star == 42) (list_all is_ascii_whitespace rest) refl refl refl h in
    (rest, (λ z. k.0 z ∷ k.1 z ∷ rest), all_white rest k.2)

star_again : (white : List ℕ) → AreWhite white → is_star (codes ".*" ++ white) ≡ true
star_again white h = white_all white h

-- no version goes on with a star
star_left : (said : ℕ × List ℕ) (white : List ℕ) → suffixed said (codes ".*" ++ white) ≡ at_left UnexpectedEnd (codes ".*" ++ white)
unfolding suffixed pre_at post_at dev_at suffix_at word_at marked_number_at number_at local_at end_at
star_left said white = refl

star_refused : (said : ℕ × List ℕ) (bytes : List ℕ) (version : VersionRecord) → suffixed said bytes ≡ Ok version → is_star bytes ≡ true → ⊥
star_refused said bytes version e h =
    let s = star_found bytes h in
    let k : at_left UnexpectedEnd (codes ".*" ++ s.0) ≡ good version = sym (star_left said s.0) ∙ ap (suffixed said) (sym s.1) ∙ e in
    absurd (cc)

no_star : (said : ℕ × List ℕ) (bytes : List ℕ) (version : VersionRecord) (t : Bool) → is_star bytes ≡ t → suffixed said bytes ≡ Ok version → t ≡ false
no_star said bytes version true h e = absurd (star_refused said bytes version e h)
no_star said bytes version false h e = refl

-- ---- versions

behind_by : (text : List ℕ) (head : (ℕ × List ℕ) × List ℕ) (version : VersionRecord) (t : Bool) → SmallHead text head.0.0 head.0.1 head.1 → (if t then at_left Wildcard head.1 else suffixed head.0 head.1) ≡ Ok version → IsVersionText text version
behind_by text head version true h e = absurd (cc)
behind_by text head version false h e = suffixed_found text head.0 head.1 version h e

pub version_found : (text : List ℕ) (version : VersionRecord) → version_of text ≡ Some version → IsVersionText text version
unfolding version_of read_version
version_found text version q =
    let i = ok_inside (head_at text) version_behind version (result_some (head_at text >>= version_behind) version q) in
    behind_by text i.0 version (is_star i.0.1) (head_found text i.0 i.1) i.2

head_read : (text : List ℕ) (version : VersionRecord) → (i : IsVersionText text version) → head_at text ≡ Ok ((version.epoch, version.release), i.after_release)
head_read text version i = head_again text version.epoch version.release i.after_release i.head i.fits.epoch (by_recursion version.release i.fits.release)

-- a head, and what a version has behind it
pub version_from : (text : List ℕ) (version : VersionRecord) (rest : List ℕ) → head_at text ≡ Ok ((version.epoch, version.release), rest) → suffixed (version.epoch, version.release) rest ≡ Ok version → version_of text ≡ Some version
unfolding version_of read_version
version_from text version rest h s =
    let n = no_star (version.epoch, version.release) rest version (is_star rest) refl s in
    ap (λ r. result_ok (r >>= version_behind)) h ∙ ap (λ t. result_ok (if t then at_left Wildcard rest else suffixed (version.epoch, version.release) rest)) n ∙ ap result_ok s

version_again : (text : List ℕ) (version : VersionRecord) → IsVersionText text version → version_of text ≡ Some version
version_again text version i = version_from text version i.after_release (head_read text version i) (suffixed_again text version i)

-- a text is read as a version exactly where it is that version's
pub version_read : (text : List ℕ) (version : VersionRecord) → (version_of text ≡ Some version) ↔ IsVersionText text version
version_read text version = (version_found text version, version_again text version)

-- ---- patterns

star_text : (text : List ℕ) (head : (ℕ × List ℕ) × List ℕ) → SmallHead text head.0.0 head.0.1 head.1 → is_star head.1 ≡ true → IsStarText text (epoch_record head.0.0 head.0.1)
star_text text head h e =
    let s = star_found head.1 e in
    record {
      after_release = head.1;
      head = h.0;
      white = s.0;
      star = s.1;
      is_white = s.2;
      is_plain = refl;
      fits = record { epoch = h.1; release = by_index head.0.1 h.2; pre = tt; post = tt; dev = tt };
    }

pattern_by : (text : List ℕ) (head : (ℕ × List ℕ) × List ℕ) (pattern : PatternRecord) (t : Bool) → is_star head.1 ≡ t → SmallHead text head.0.0 head.0.1 head.1
    → (if t then Ok (record { version = epoch_record head.0.0 head.0.1; wildcard = true }) else (suffixed head.0 head.1 >>= λ version. Ok (record { version = version; wildcard = false }))) ≡ Ok pattern → IsPatternText text pattern
pattern_by text head pattern true s h e =
    let made : PatternRecord = record { version = epoch_record head.0.0 head.0.1; wildcard = true } in
    let k : made ≡ pattern = ok_same made pattern e in
    let is : IsPatternText text made = star_text text head h s in
    subst (IsPatternText text) k is
pattern_by text head pattern false s h e =
    let i = ok_inside (suffixed head.0 head.1) (λ version. Ok (record { version = version; wildcard = false })) pattern e in
    let made : PatternRecord = record { version = i.0; wildcard = false } in
    let k : made ≡ pattern = ok_same made pattern i.2 in
    let is : IsPatternText text made = suffixed_found text head.0 head.1 i.0 h i.1 in
    subst (IsPatternText text) k is

pattern_found : (text : List ℕ) (pattern : PatternRecord) → pattern_of text ≡ Some pattern → IsPatternText text pattern
unfolding pattern_of read_pattern
pattern_found text pattern q =
    let i = ok_inside (head_at text) pattern_behind pattern (result_some (head_at text >>= pattern_behind) pattern q) in
    pattern_by text i.0 pattern (is_star i.0.1) refl (head_found text i.0 i.1) i.2

abbrev pattern_with : VersionRecord → Bool → PatternRecord
pattern_with version wildcard = record { version = version; wildcard = wildcard }

star_is_read : (text : List ℕ) (version : VersionRecord) → IsStarText text version → pattern_of text ≡ Some (pattern_with version true)
unfolding pattern_of read_pattern
star_is_read text version i =
    let head = head_again text version.epoch version.release i.after_release i.head i.fits.epoch (by_recursion version.release i.fits.release) in
    let s : is_star i.after_release ≡ true = ap is_star i.star ∙ star_again i.white i.is_white in
    ap (λ r. result_ok (r >>= pattern_behind)) head
    ∙ ap (λ t. result_ok (if t then Ok (pattern_with (epoch_record version.epoch version.release) true) else (suffixed (version.epoch, version.release) i.after_release >>= λ version. Ok (pattern_with version false)))) s
    ∙ ap (λ v. Some (pattern_with v true)) (sym i.is_plain)

plain_is_read : (text : List ℕ) (version : VersionRecord) → IsVersionText text version → pattern_of text ≡ Some (pattern_with version false)
unfolding pattern_of read_pattern
plain_is_read text version i =
    let s = suffixed_again text version i in
    let n = no_star (version.epoch, version.release) i.after_release version (is_star i.after_release) refl s in
    ap (λ r. result_ok (r >>= pattern_behind)) (head_read text version i)
    ∙ ap (λ t. result_ok (if t then Ok (pattern_with (epoch_record version.epoch version.release) true) else (suffixed (version.epoch, version.release) i.after_release >>= λ version. Ok (pattern_with version false)))) n
    ∙ ap (λ r. result_ok (r >>= λ version. Ok (pattern_with version false))) s

pattern_case : (text : List ℕ) (version : VersionRecord) (wildcard : Bool) → IsPatternText text (pattern_with version wildcard) → pattern_of text ≡ Some (pattern_with version wildcard)
pattern_case text version true i = star_is_read text version i
pattern_case text version false i = plain_is_read text version i

pattern_again : (text : List ℕ) (pattern : PatternRecord) → IsPatternText text pattern → pattern_of text ≡ Some pattern
pattern_again text pattern i = pattern_case text pattern.version pattern.wildcard i

-- a text is read as a pattern exactly where it is that pattern's
pub pattern_read : (text : List ℕ) (pattern : PatternRecord) → (pattern_of text ≡ Some pattern) ↔ IsPatternText text pattern
pattern_read text pattern = (pattern_found text pattern, pattern_again text pattern)

-- ---- one text, one value

some_same : {A : Type 0} (o : Option A) (x y : A) → o ≡ Some x → o ≡ Some y → x ≡ y
some_same o x y e f = let k : Some x ≡ Some y = sym e ∙ f in cc

pub one_version : (text : List ℕ) (version other : VersionRecord) → IsVersionText text version → IsVersionText text other → version ≡ other
one_version text version other i j = some_same (version_of text) version other (version_again text version i) (version_again text other j)

pub one_pattern : (text : List ℕ) (pattern other : PatternRecord) → IsPatternText text pattern → IsPatternText text other → pattern ≡ other
one_pattern text pattern other i j = some_same (pattern_of text) pattern other (pattern_again text pattern i) (pattern_again text other j)
