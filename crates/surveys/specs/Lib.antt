-- What the contracts cite: what a reader must believe, then what only private functions cite.
pub mod Surveys
pub mod Shelves
pub mod Inner
