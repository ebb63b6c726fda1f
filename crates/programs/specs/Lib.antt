-- What the contracts cite.
pub mod Lent
pub mod Shown
pub mod Words
