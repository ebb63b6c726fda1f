-- Laws of names, lowest first. `Promises` has the theorems that a reader looks for; the others serve the functions' proofs.
pub mod UnitLaws
pub mod BodyLaws
pub mod Promises
pub mod NameLaws
pub mod WriteLaws
pub mod MatchLaws
