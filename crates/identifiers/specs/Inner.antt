-- What only the contracts of internal functions cite.
pub mod Wholes
