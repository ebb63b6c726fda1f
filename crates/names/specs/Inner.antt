-- What only the contracts of internal functions cite.
pub mod Units
pub mod Matching
