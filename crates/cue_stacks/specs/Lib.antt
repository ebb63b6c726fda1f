-- What the contracts cite: what a reader must believe, then what only private functions cite.
pub mod Stacks
pub mod Sums
pub mod Items
pub mod Inner
