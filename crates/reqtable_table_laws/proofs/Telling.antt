-- What is known of packages stays right while more is asked of their lines.
use Rattle.std.proofs.Common.{Bool, List, [], ◌∷◌}
use Rattle.std.specs.List.{AllZip}
use Rattle.std.specs.Borrow.{Bor}
use Rattle.pep440_version.specs.Record.{VersionRecord}
use Rattle.reqtable_table.specs.Answers.{SamePackage}
use Rattle.reqtable_table.specs.Kept.{KeptPackage}
use Rattle.reqtable_table.specs.Runs.{OwnRecord, RunsRecord, IsTold, AreTold, owns_of}
use Rattle.reqtable_table.proofs.Told.{told_same}

module _ (returns : Bor VersionRecord → Bool → Bool → Type 0) where
  each_later : (a b : List KeptPackage) (owns : List OwnRecord) → AllZip SamePackage a b → AllZip (IsTold returns) b owns →
      AllZip (IsTold returns) a owns
  each_later [] [] owns s h = h
  each_later [] (y ∷ b) owns s h = absurd s
  each_later (x ∷ a) [] owns s h = absurd s
  each_later (x ∷ a) (y ∷ b) [] s h = absurd h
  each_later (x ∷ a) (y ∷ b) (own ∷ owns) s h = (told_same returns x y own s.0 h.0, each_later a b owns s.1 h.1)

  pub told_later : (table before : List KeptPackage) (all : RunsRecord) → AllZip SamePackage table before → AreTold returns before all →
      AreTold returns table all
  told_later table before all = each_later table before (owns_of all.runs all.told)
