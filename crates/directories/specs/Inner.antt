-- What only the contracts of internal functions cite.
pub mod Spaces
pub mod WorkSpaces
pub mod Walks
