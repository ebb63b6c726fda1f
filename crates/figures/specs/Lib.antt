-- What the contracts cite.
pub mod Figures
pub mod Placed
