-- What the contracts cite, lowest first.
pub mod Bytes
pub mod Allocations
pub mod Answers
pub mod Kept
