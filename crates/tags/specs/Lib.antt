-- What the contracts and the promises cite, lowest first.
pub mod Tags
pub mod Answers
pub mod Values
pub mod Heads
