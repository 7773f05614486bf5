-- The print of a printable version is read as that version, and a version that was read is printable.
use Rattle.std.proofs.Common.{◌≡◌, ℕ, List, [], ◌++◌, Some, Ok, ap, sym, ◌∙◌, append_assoc}
use Rattle.std.proofs.lemmas.List.{append-nil}
use Rattle.pep440_text.specs.Record.{VersionRecord}
use Rattle.pep440_text.specs.Text.{IsVersionText}
use Rattle.pep440_text.specs.Printable.{IsPrintable}
use Rattle.pep440_text.specs.Print.{epoch_text, release_text, version_text, local_text}
use Rattle.pep440_text.specs.Reading.{local_at, suffixed, version_of}
use Rattle.pep440_text.proofs.Releases.{by_recursion}
use Rattle.pep440_text.proofs.Locals.{local_again, end_again}
use Rattle.pep440_text.proofs.PrintedSegments.{local_printable, local_printed}
use Rattle.pep440_text.proofs.PrintedParts.{behind_post, behind_pre, behind_release, dev_printed}
use Rattle.pep440_text.proofs.PrintedParts.{post_printed, pre_printed, release_stops, no_more_numbers}
use Rattle.pep440_text.proofs.PrintedParts.{no_mark}
use Rattle.pep440_text.proofs.PrintedHeads.{head_printed}
use Rattle.pep440_text.proofs.Whole.{suffixed_chain, version_from, version_found}

-- what a version prints behind its release
abbrev behind : VersionRecord → List ℕ
behind version = behind_release version.pre version.post version.dev version.local

regrouped : (a b c d e f : List ℕ) → ((((a ++ b) ++ c) ++ d) ++ e) ++ f ≡ a ++ (b ++ (c ++ (d ++ (e ++ f))))
regrouped a b c d e f = simp append_assoc

print_regrouped : (version : VersionRecord)
    → version_text version ≡ epoch_text version.epoch ++ (release_text version.release ++ behind version)
unfolding version_text
print_regrouped version = regrouped (epoch_text version.epoch) (release_text version.release) _ _ _ _

suffixed_printed : (version : VersionRecord) → IsPrintable version
    → suffixed (version.epoch, version.release) (behind version) ≡ Ok version
suffixed_printed version i =
    let printed = local_text version.local in
    let local =
    ap local_at (sym (append-nil printed)) ∙ local_again printed version.local []
    (local_printed version.local i.segments) tt in
    suffixed_chain version (behind version) (behind_pre version.post version.dev version.local)
    (behind_post version.dev version.local) printed []
    (pre_printed version.pre version.post version.dev version.local i.fits.pre)
    (post_printed version.post version.dev version.local i.fits.post)
    (dev_printed version.dev version.local i.fits.dev)
    local
    (end_again [] tt)
    i.no_least
    i.no_most

-- the print of a printable version is read as that version
pub printable_read : (version : VersionRecord) → IsPrintable version
    → version_of (version_text version) ≡ Some version
printable_read version i =
    let head = head_printed version.epoch version.release (behind version) i.fits.epoch i.some_number
    (by_recursion version.release i.fits.release)
    (release_stops version.pre version.post version.dev version.local)
    (no_mark version.pre version.post version.dev version.local)
    (no_more_numbers version.pre version.post version.dev version.local) in
    ap version_of (print_regrouped version)
    ∙ version_from (epoch_text version.epoch ++ (release_text version.release ++ behind version)) version
    (behind version) head
    (suffixed_printed version i)

text_printable : (text : List ℕ) (version : VersionRecord) → IsVersionText text version → IsPrintable version
text_printable text version i = record {
  no_least = i.no_least;
  no_most = i.no_most;
  some_number = i.head.has_release.is_part.nonempty;
  fits = i.fits;
  segments = local_printable i.local version.local i.has_local;
}

-- a version that was read is printable
pub read_printable : (text : List ℕ) (version : VersionRecord) → version_of text ≡ Some version
    → IsPrintable version
read_printable text version e = text_printable text version (version_found text version e)
