-- Which texts are file names of archives.
use Rattle.std.specs.Prelude.{ℕ, ◌&&◌, nat_lt, eqb, Bool, List, [], ◌∷◌, length, codes}
use Rattle.std.specs.List.{ends_with, list_any}

-- how the names of archives end, in lower case alone
abbrev pub endings : List (List ℕ)
endings =
    codes ".whl" ∷ codes ".tbz" ∷ codes ".txz" ∷ codes ".tlz" ∷ codes ".zip" ∷ codes ".tgz" ∷ codes ".tar"
    ∷ codes ".tar.bz2" ∷ codes ".tar.xz" ∷ codes ".tar.lz" ∷ codes ".tar.lzma" ∷ codes ".tar.gz" ∷ []

-- the text is something, and then the ending
abbrev pub has_ending : List ℕ → List ℕ → Bool
has_ending text ending = nat_lt (length ending) (length text) && ends_with eqb text ending

-- the text is the file name of an archive
unfoldable pub is_archive : List ℕ → Bool
is_archive text = list_any (has_ending text) endings
