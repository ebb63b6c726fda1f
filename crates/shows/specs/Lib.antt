-- What the contracts cite: what a reader must believe, then what only private functions cite.
pub mod Shows
pub mod Nodes
pub mod Tallies
pub mod Levels
pub mod Sums
pub mod Inner
