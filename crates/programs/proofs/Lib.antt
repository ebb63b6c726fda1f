-- What the proofs of the functions cite.
pub mod ShownLaws
pub mod SumLaws
pub mod WordLaws
pub mod ZeroLaws
