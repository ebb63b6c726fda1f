-- What the contracts cite, lowest first.
pub mod Sequences
pub mod Openings
pub mod Mapping
pub mod Choices
pub mod Labels
pub mod Checks
pub mod Made
pub mod Prevailing
pub mod Inner
