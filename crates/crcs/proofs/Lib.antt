-- Laws of the CRC, lowest first. `Promises` has the theorems that a reader looks for; the others serve the functions' proofs.
pub mod XorLaws
pub mod CrcLaws
pub mod TableLaws
pub mod LoopLaws
pub mod FourLaws
pub mod ChangeLaws
pub mod Promises
