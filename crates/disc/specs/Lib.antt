-- What the contracts cite, lowest first.
pub mod Choice
pub mod Refusals
pub mod Ask
pub mod Ran
pub mod Counts
pub mod Budgets
pub mod Places
pub mod Images
pub mod Moves
pub mod Replies
pub mod Lists
pub mod Parts
pub mod Marks
pub mod Refusing
