-- What the contracts cite.
pub mod Crcs
pub mod Remainders
pub mod Inner
