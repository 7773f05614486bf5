-- The range of asks tells what they take.
use Rattle.std.proofs.Common.{◌≡◌, ◌∙◌, Bool, List, Option, Some, IfSome, subst}
use Rattle.std.specs.List.{list_all}
use Rattle.pep440_version.specs.Record.{VersionRecord}
use Rattle.pep440_specifier.specs.Matching.{SpecifierRecord}
use Rattle.reqtable_range.specs.declared.one.OneRange.{OneRange}
use Rattle.reqtable_range.specs.One.{FindsOne}
use Rattle.reqtable_range.specs.Together.{members_of, all_take}
use Rattle.reqtable_answer.specs.declared.ask.Ask.{Ask}
use Rattle.reqtable_answer.specs.Asks.{ask_takes}
use Rattle.reqtable_answer.specs.Ranged.{TellsTaken}
use Rattle.reqtable_answer.specs.Says.{ask_seen}

-- all asks take the version
abbrev pub asks_take : List Ask → VersionRecord → Bool
asks_take asks version = list_all (λ ask. ask_takes version (ask_seen ask)) asks

pub range_tells : {one : OneRange} (asks : List Ask) (lists : List (List SpecifierRecord))
    → ((version : VersionRecord) → all_take lists version ≡ asks_take asks version)
    → FindsOne (members_of lists) one → TellsTaken asks (Some one)
range_tells asks lists same found = (lists, found, same)

-- what a range answers for its lists, asks are told
pub told : (asks : List Ask) (range : Option OneRange) (one : OneRange) (version : VersionRecord) (found : Option Bool) (taken : Bool)
    → range ≡ Some one → found ≡ Some taken → TellsTaken asks range
    → IfSome found (λ it. (lists : List (List SpecifierRecord)) → FindsOne (members_of lists) one → it ≡ all_take lists version)
    → taken ≡ asks_take asks version
told asks range one version found taken e f tells answers =
    let of_lists : TellsTaken asks (Some one) = subst (TellsTaken asks) e tells in
    let answered : IfSome (Some taken) (λ it. (lists : List (List SpecifierRecord)) → FindsOne (members_of lists) one → it ≡ all_take lists version) =
    subst (λ o. IfSome o (λ it. (lists : List (List SpecifierRecord)) → FindsOne (members_of lists) one → it ≡ all_take lists version)) f answers in
    answered of_lists.0 of_lists.1 ∙ of_lists.2 version
