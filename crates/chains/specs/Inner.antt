-- What only the contracts of internal functions cite.
pub mod Walks
pub mod Follows
