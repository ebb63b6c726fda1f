-- What the contracts cite, lowest first.
pub mod Volumes
pub mod FileSets
pub mod Answers
pub mod Recognition
pub mod Accepted
