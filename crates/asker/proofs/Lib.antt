-- What the proofs of the functions cite.
pub mod LineLaws
