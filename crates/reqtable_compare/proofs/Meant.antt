-- Lines that say the same stand for lines that mean the same.
use Rattle.std.proofs.Common.{◌≡◌, ◌∙◌, ◌<◌, inl, inr, ℕ, zero, Bor, List, []}
use Rattle.std.proofs.Common.{◌∷◌, length, suc}
use Rattle.std.proofs.Common.{Option, Some, None, get_or, refl, sym, ap, subst, arith}
use Rattle.std.specs.List.{list_any, list_all, AllZip}
use Rattle.pep508_tree.specs.Meaning.{NodeRecord, holds}
use Rattle.pep508_url.specs.Vars.{Variables}
use Rattle.pep508_url.specs.UrlTexts.{Verbatim}
use Rattle.pep508_url.specs.declared.url_error.VerbatimUrlError.{VerbatimUrlError}
use Rattle.pep508_requirement.specs.RequirementReading.{AsksFor}
use Rattle.pep508_requirement.specs.declared.version_or_url.VersionOrUrl.{VersionOrUrl}
use Rattle.pep508_requirement.specs.declared.version_or_url.VersionOrUrl.TheVariants as asked
use Rattle.pep508_requirement_text.specs.FrontReading.{Source}
use Rattle.pep508_requirement_text.specs.FrontReading.Source.{Any, Specifiers, Url}
use Rattle.reqtable_answer.specs.Asks.{specifiers_of}
use Rattle.reqtable_answer.proofs.InOrder.{same_any}
use Rattle.reqtable_requirements.specs.LineReading.{LineRecord}
use Rattle.reqtable_requirements.specs.LineSpecifiers.{specifiers_by}
use Rattle.reqtable_requirements.specs.Requirements.{ReadsUrl, StandsFor}
use Rattle.reqtable_requirements.specs.declared.requirements.Line.{Line}
use Rattle.reqtable_packages.specs.Packages.{lent}
use Rattle.reqtable_packages.proofs.Standing.{asked_all}
use Rattle.reqtable_compare.specs.Settled.{SayTheSame, IsSaidIn, AreSaidIn}
use Rattle.reqtable_compare.proofs.Covered.{Test, MeanTheSame, IsMeantIn, AreMeantIn}

-- ---- a line among others

pub said_at : (lines : List (Bor Line)) (i : ℕ) (other : Bor Line) (line : Line) → i < length lines →
    other ≡ get_or lines i other → SayTheSame line other.now → IsSaidIn (lent lines) line
said_at [] i other line within is same = absurd (omega arith)
said_at (one ∷ lines) zero other line within is same = inl (subst (λ (l : Bor Line). SayTheSame line l.now) is same)
said_at (one ∷ lines) (suc i) other line within is same = inr (said_at lines i other line (omega arith) is same)

-- ---- what lines stand for

module _ (vars : Variables) (nodes : List NodeRecord) where
  asked_some : (test : Test) (source : Source) (what : Option (VersionOrUrl Verbatim VerbatimUrlError)) →
      AsksFor (ReadsUrl vars) source what → list_any test (specifiers_of source) ≡ list_any test (specifiers_by what)
  asked_some test Any None h = refl
  asked_some test Any (Some what) h = absurd h
  asked_some test (Specifiers given) None h = absurd h
  asked_some test (Specifiers given) (Some (asked.VersionSpecifier list)) h = sym (same_any test given list h)
  asked_some test (Specifiers given) (Some (asked.Url url)) h = absurd h
  asked_some test (Url text) None h = absurd h
  asked_some test (Url text) (Some (asked.VersionSpecifier list)) h = absurd h
  asked_some test (Url text) (Some (asked.Url url)) h = refl

  one_meant : (a b : Line) (r s : LineRecord) → StandsFor vars nodes a r → StandsFor vars nodes b s →
      SayTheSame a b → MeanTheSame r s
  one_meant a b r s one other same = record {
    extras = sym one.extras ∙ same.extras ∙ other.extras;
    every = λ test. asked_all vars test r.front.source a.requirement.version_or_url one.asks
        ∙ ap (λ what. list_all test (specifiers_by what)) same.asked
        ∙ sym (asked_all vars test s.front.source b.requirement.version_or_url other.asks);
    some = λ test. asked_some test r.front.source a.requirement.version_or_url one.asks
        ∙ ap (λ what. list_any test (specifiers_by what)) same.asked
        ∙ sym (asked_some test s.front.source b.requirement.version_or_url other.asks);
    applies = λ v. sym (one.tree.truth v) ∙ ap (λ tree. holds nodes tree v) same.marker ∙ other.tree.truth v;
  }

  meant_in : (others : List Line) (os : List LineRecord) (line : Line) (r : LineRecord) →
      AllZip (StandsFor vars nodes) others os → StandsFor vars nodes line r → IsSaidIn others line → IsMeantIn os r
  meant_in [] os line r h one said = absurd said
  meant_in (other ∷ others) [] line r h one said = absurd h
  meant_in (other ∷ others) (o ∷ os) line r h one (inl same) = inl (one_meant line other r o one h.0 same)
  meant_in (other ∷ others) (o ∷ os) line r h one (inr later) = inr (meant_in others os line r h.1 one later)

  pub are_meant : (others : List Line) (os : List LineRecord) (lines : List Line) (rs : List LineRecord) →
      AllZip (StandsFor vars nodes) others os → AllZip (StandsFor vars nodes) lines rs → AreSaidIn others lines →
      AreMeantIn os rs
  are_meant others os [] [] h k said = tt
  are_meant others os [] (r ∷ rs) h k said = absurd k
  are_meant others os (line ∷ lines) [] h k said = absurd k
  are_meant others os (line ∷ lines) (r ∷ rs) h k said =
      (meant_in others os line r h k.0 said.0, are_meant others os lines rs h k.1 said.1)
