-- What the contracts cite.
pub mod Runs
