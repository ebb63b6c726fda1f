-- What only the contracts of internal functions cite.
pub mod Answers
pub mod Wholes
pub mod Pieces
pub mod Turns
pub mod Passes
pub mod Places
pub mod Weighings
