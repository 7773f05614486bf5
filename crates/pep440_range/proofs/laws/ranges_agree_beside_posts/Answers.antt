use Rattle.std.proofs.Common.{◌∙◌}
use Rattle.version_ranges.specs.Point.{At}
use Rattle.pep440_range.specs.Ranges.{range_of}
use Rattle.pep440_range.specs.Agreement.{IsWithoutPosts}
use Rattle.pep440_range.proofs.Lists.{each, list_agrees, agreeing, without_posts}
use Rattle.pep440_range.proofs.laws.ranges_agree_beside_posts.Goals as goal

pub returns : goal.returns
returns c = λ members candidate set all said plain none given.
    given.1 (At candidate)
    ∙ list_agrees range_of candidate IsWithoutPosts
    (λ member m. agreeing candidate said plain member (without_posts candidate none member m)) members
    (each IsWithoutPosts members all) given.0
