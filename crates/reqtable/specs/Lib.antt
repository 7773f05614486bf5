pub use Rattle.reqtable_candidates.specs.TextLines
pub use Rattle.reqtable_candidates.specs.CandidateLine
pub use Rattle.reqtable_candidates.specs.CandidateText
pub use Rattle.reqtable_candidates.specs.Candidates
pub use Rattle.reqtable_candidates.specs.Errors as CandidateErrors
pub use Rattle.reqtable_candidates.specs.Ordered
pub use Rattle.reqtable_search.specs.Told
pub use Rattle.reqtable_range.specs.Together
pub use Rattle.reqtable_answer.specs.Admission
pub use Rattle.reqtable_answer.specs.Asks
pub use Rattle.reqtable_answer.specs.Answer
pub use Rattle.reqtable_answer.specs.Rows
pub use Rattle.reqtable_answer.specs.Says
pub use Rattle.reqtable_requirements.specs.Asks as LineAsks
pub use Rattle.reqtable_requirements.specs.Copies
pub use Rattle.reqtable_requirements.specs.Errors as RequirementErrors
pub use Rattle.reqtable_requirements.specs.FirstRefused
pub use Rattle.reqtable_requirements.specs.LineReading
pub use Rattle.reqtable_requirements.specs.LineSpecifiers
pub use Rattle.reqtable_requirements.specs.LineText
pub use Rattle.reqtable_requirements.specs.ReadLines
pub use Rattle.reqtable_requirements.specs.Requirements
pub use Rattle.reqtable_requirements.specs.Within as BoundedReading
pub use Rattle.reqtable_streaming.specs.Selection as Selections
pub use Rattle.reqtable_normal.specs.Normalized
pub use Rattle.reqtable_normal.specs.Bounded
pub use Rattle.reqtable_normal.specs.Errors as NormalErrors
pub use Rattle.reqtable_normal.specs.Meant
pub use Rattle.pep508_cases.specs.Cases as Marks
pub use Rattle.reqtable_cases.specs.Lines
pub use Rattle.reqtable_cases.specs.Usable
pub use Rattle.reqtable_cases.specs.Requires
pub use Rattle.reqtable_cases.specs.Conflicts
pub use Rattle.reqtable_table.specs.Kept
pub use Rattle.reqtable_table.specs.Cases
pub use Rattle.reqtable_table.specs.InAll
pub use Rattle.reqtable_table.specs.Casing
pub use Rattle.reqtable_table.specs.Counts
pub use Rattle.reqtable_table.specs.Answers
pub use Rattle.reqtable_table.specs.Runs as TableRuns
pub use Rattle.reqtable_table.specs.Lasting
pub use Rattle.reqtable_table.specs.Errors as TableErrors
pub use Rattle.reqtable_conflicts.specs.Contradictions
pub use Rattle.reqtable_conflicts.specs.NothingTaken
pub use Rattle.reqtable_compare.specs.Compared
pub use Rattle.reqtable_compare.specs.Refusals
pub use Rattle.reqtable_compare.specs.Answered
pub use Rattle.reqtable_compare.specs.Relations
pub use Rattle.reqtable_covers.specs.Covering
pub use Rattle.reqtable_assumption.specs.Where
