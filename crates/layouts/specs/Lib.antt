-- What the contracts cite, lowest first.
pub mod Calls
pub mod Runs
pub mod Inside
pub mod Inner
