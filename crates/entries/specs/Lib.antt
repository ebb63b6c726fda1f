-- What the contracts cite, lowest first.
pub mod IcbTags
pub mod FileEntries
pub mod Answers
pub mod Whole
