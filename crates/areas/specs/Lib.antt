-- What the contracts cite, lowest first.
pub mod Areas
pub mod Answers
pub mod Totals
