pub use Rattle.reqs_answers.specs.Texts
pub use Rattle.reqs_answers.specs.Check
pub use Rattle.reqs_answers.specs.Matrix
