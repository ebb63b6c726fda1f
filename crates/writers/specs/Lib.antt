-- What the contracts cite: what a reader must believe, then what the private functions alone cite.
pub mod Layout
pub mod Refusing
pub mod Vaults
pub mod Descriptors
pub mod Inner
