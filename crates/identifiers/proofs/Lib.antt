-- Laws of file identifiers.
pub mod IdentifierLaws
pub mod GuardLaws
