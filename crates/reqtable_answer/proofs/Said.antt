-- What is seen of asks, where it says the same as some records, is alike with them.
use Rattle.std.proofs.Common.{◌≡◌, ℕ, Bool, not, ◌&&◌, List, filter, refl, sym, ap, ◌∙◌}
use Rattle.std.specs.List.{list_any, list_all, AllZip}
use Rattle.std.specs.Str.{bytes_eq}
use Rattle.pep440_version.specs.Record.{VersionRecord}
use Rattle.pep440_version.specs.Changes.{is_prerelease}
use Rattle.pep440_specifier.specs.Matching as matching
use Rattle.pep440_specifier_list.specs.Lists.{matches_all, any_prerelease}
use Rattle.pep508_requirement_text.specs.FrontReading.{Source, Front}
use Rattle.pep508_requirement_text.specs.FrontReading.Source.{Any, Specifiers, Url}
use Rattle.reqtable_answer.specs.Asks.{specifiers_of, is_url, is_of, has_extra, has_url, ask_takes}
use Rattle.reqtable_answer.specs.Asks.{has_prerelease}
use Rattle.reqtable_answer.specs.Says.{SaysSource, Says}
use Rattle.reqtable_answer.proofs.Tests.{any_kept, any_zip, all_any}
use Rattle.reqtable_answer.proofs.InOrder.{same_all, same_any}
use Rattle.reqtable_answer.proofs.Alike.{AreAlike}

url_said : (shown said : Source) → SaysSource shown said → is_url shown ≡ is_url said
url_said Any Any h = refl
url_said Any (Specifiers given) h = absurd h
url_said Any (Url text) h = absurd h
url_said (Specifiers list) Any h = absurd h
url_said (Specifiers list) (Specifiers given) h = refl
url_said (Specifiers list) (Url text) h = absurd h
url_said (Url shown) Any h = absurd h
url_said (Url shown) (Specifiers given) h = absurd h
url_said (Url shown) (Url text) h = refl

all_said : (v : VersionRecord) (shown said : Source) → SaysSource shown said
    → matches_all (specifiers_of shown) v ≡ matches_all (specifiers_of said) v
all_said v Any Any h = refl
all_said v Any (Specifiers given) h = absurd h
all_said v Any (Url text) h = absurd h
all_said v (Specifiers list) Any h = absurd h
all_said v (Specifiers list) (Specifiers given) h = same_all (matching.takes v) given list h
all_said v (Specifiers list) (Url text) h = absurd h
all_said v (Url shown) Any h = absurd h
all_said v (Url shown) (Specifiers given) h = absurd h
all_said v (Url shown) (Url text) h = refl

prerelease_said : (shown said : Source) → SaysSource shown said
    → any_prerelease (specifiers_of shown) ≡ any_prerelease (specifiers_of said)
prerelease_said Any Any h = refl
prerelease_said Any (Specifiers given) h = absurd h
prerelease_said Any (Url text) h = absurd h
prerelease_said (Specifiers list) Any h = absurd h
prerelease_said (Specifiers list) (Specifiers given) h = same_any (λ s. is_prerelease s.version) given list h
prerelease_said (Specifiers list) (Url text) h = absurd h
prerelease_said (Url shown) Any h = absurd h
prerelease_said (Url shown) (Specifiers given) h = absurd h
prerelease_said (Url shown) (Url text) h = refl

name_said : (name : List ℕ) (seen ask : Front) → Says seen ask → is_of name seen ≡ is_of name ask
name_said name seen ask says = ap (bytes_eq name) says.name

extra_said : (extra : List ℕ) (seen ask : Front) → Says seen ask → has_extra extra seen ≡ has_extra extra ask
extra_said extra seen ask says = ap (list_any (bytes_eq extra)) says.extras

module _ (shown said : List Front) (say : AllZip Says shown said) where
  -- some test of asks
  any_said : (f : Front → Bool) → ((seen ask : Front) → Says seen ask → f seen ≡ f ask)
      → list_any f shown ≡ list_any f said
  any_said f same = any_zip Says f f same shown said say

  any_of_said : (name : List ℕ) (f : Front → Bool) → ((seen ask : Front) → Says seen ask → f seen ≡ f ask)
      → list_any f (filter (is_of name) shown) ≡ list_any f (filter (is_of name) said)
  any_of_said name f same =
      any_kept f (is_of name) shown
      ∙ any_said (λ ask. is_of name ask && f ask) (λ seen ask says i. name_said name seen ask says i && same seen ask says i)
      ∙ sym (any_kept f (is_of name) said)

  all_of_said : (name : List ℕ) (f : Front → Bool) → ((seen ask : Front) → Says seen ask → f seen ≡ f ask)
      → list_all f (filter (is_of name) shown) ≡ list_all f (filter (is_of name) said)
  all_of_said name f same =
      all_any f (filter (is_of name) shown)
      ∙ ap not (any_of_said name (λ ask. not (f ask)) (λ seen ask says. ap not (same seen ask says)))
      ∙ sym (all_any f (filter (is_of name) said))

  pub said_alike : AreAlike shown said
  said_alike = record {
    named = λ name. any_said (is_of name) (name_said name);
    same = λ name. record {
      extras = λ extra. any_of_said name (has_extra extra) (extra_said extra);
      urls = any_of_said name has_url (λ seen ask says. url_said seen.source ask.source says.source);
      takes = λ v. all_of_said name (ask_takes v) (λ seen ask says. all_said v seen.source ask.source says.source);
      prereleases = any_of_said name has_prerelease (λ seen ask says. prerelease_said seen.source ask.source says.source);
    };
  }
