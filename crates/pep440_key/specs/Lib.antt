pub use Rattle.pep440_text.specs.Record
pub use Rattle.pep440_version.specs.Order
pub mod Key
