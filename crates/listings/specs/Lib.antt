-- What the contracts cite: what a reader must believe, then what only private functions cite.
pub mod Entries
pub mod Listings
pub mod Paths
pub mod Cuts
pub mod Matchings
pub mod Nameless
pub mod Example
pub mod Rows
pub mod Inner
