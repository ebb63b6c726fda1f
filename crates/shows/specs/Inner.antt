-- What only the contracts of internal functions cite.
pub mod Placings
pub mod Turns
pub mod Writes
