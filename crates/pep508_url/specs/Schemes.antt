-- Schemes of URLs: the text before the first `:` (RFC 3986, section 3.1).
use Rattle.std.specs.Prelude.{ℕ, ◌==◌, ◌&&◌, ◌||◌, Bool, if◌then◌else◌, List, ◌∷◌, [], slice_index, codes}
use Rattle.std.specs.Prelude.{bytes_eq, find, Option, Some, None, option_and_then}
use Rattle.std.specs.List.{list_all}
use Rattle.std.specs.Char.{is_ascii_alphabetic, is_ascii_alphanumeric}
use Rattle.url.specs.Input.{trim_c0_control_and_space}
use Rattle.pep508_url.specs.declared.scheme.Scheme.{Scheme}
use Rattle.pep508_url.specs.declared.scheme.Scheme.TheVariants as schemes
use Rattle.pep508_url.specs.Cuts.{cut}

-- how a scheme is written
abbrev pub scheme_text : Scheme → List ℕ
scheme_text schemes.File = codes "file"
scheme_text schemes.GitGit = codes "git+git"
scheme_text schemes.GitHttp = codes "git+http"
scheme_text schemes.GitFile = codes "git+file"
scheme_text schemes.GitSsh = codes "git+ssh"
scheme_text schemes.GitHttps = codes "git+https"
scheme_text schemes.BzrHttp = codes "bzr+http"
scheme_text schemes.BzrHttps = codes "bzr+https"
scheme_text schemes.BzrSsh = codes "bzr+ssh"
scheme_text schemes.BzrSftp = codes "bzr+sftp"
scheme_text schemes.BzrFtp = codes "bzr+ftp"
scheme_text schemes.BzrLp = codes "bzr+lp"
scheme_text schemes.BzrFile = codes "bzr+file"
scheme_text schemes.HgFile = codes "hg+file"
scheme_text schemes.HgHttp = codes "hg+http"
scheme_text schemes.HgHttps = codes "hg+https"
scheme_text schemes.HgSsh = codes "hg+ssh"
scheme_text schemes.HgStaticHttp = codes "hg+static-http"
scheme_text schemes.SvnSsh = codes "svn+ssh"
scheme_text schemes.SvnHttp = codes "svn+http"
scheme_text schemes.SvnHttps = codes "svn+https"
scheme_text schemes.SvnSvn = codes "svn+svn"
scheme_text schemes.SvnFile = codes "svn+file"
scheme_text schemes.Http = codes "http"
scheme_text schemes.Https = codes "https"

-- the schemes that pip knows
abbrev pub listed : List Scheme
listed =
    schemes.File ∷ schemes.GitGit ∷ schemes.GitHttp ∷ schemes.GitFile ∷ schemes.GitSsh ∷ schemes.GitHttps
    ∷ schemes.BzrHttp ∷ schemes.BzrHttps ∷ schemes.BzrSsh ∷ schemes.BzrSftp ∷ schemes.BzrFtp ∷ schemes.BzrLp
    ∷ schemes.BzrFile ∷ schemes.HgFile ∷ schemes.HgHttp ∷ schemes.HgHttps ∷ schemes.HgSsh
    ∷ schemes.HgStaticHttp ∷ schemes.SvnSsh ∷ schemes.SvnHttp ∷ schemes.SvnHttps ∷ schemes.SvnSvn
    ∷ schemes.SvnFile ∷ schemes.Http ∷ schemes.Https ∷ []

-- the listed scheme that is written so, in these very letters
unfoldable pub scheme_of : List ℕ → Option Scheme
scheme_of text = find (λ scheme. bytes_eq text (scheme_text scheme)) listed

-- a letter, a digit, or one of `+-.`
abbrev pub is_scheme_byte : ℕ → Bool
is_scheme_byte b = is_ascii_alphanumeric b || b == 43 || b == 45 || b == 46

-- a letter, and then bytes of schemes
abbrev pub is_scheme : List ℕ → Bool
is_scheme text = is_ascii_alphabetic (slice_index text 0) && list_all is_scheme_byte text

abbrev pub if_scheme : List ℕ × List ℕ → Option (List ℕ × List ℕ)
if_scheme parts = if is_scheme parts.0 then Some parts else None

-- the scheme of a text without the controls and blanks around it, and what follows its `:`
unfoldable pub scheme_split : List ℕ → Option (List ℕ × List ℕ)
scheme_split text = option_and_then if_scheme (cut 58 (trim_c0_control_and_space text))
