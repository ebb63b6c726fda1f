-- What only the contracts of internal functions cite.
pub mod Lists
pub mod RunLists
