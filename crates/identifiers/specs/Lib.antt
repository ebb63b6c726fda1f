-- What the contracts cite.
pub mod Answers
pub mod Identifiers
pub mod Inner
