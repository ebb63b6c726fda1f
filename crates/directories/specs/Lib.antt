-- What the contracts cite: what a reader must believe, then what only private functions cite.
pub mod Directories
pub mod Lookups
pub mod Leads
pub mod Inner
