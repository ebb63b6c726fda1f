-- What the contracts cite.
pub mod Probes
pub mod Fronts
pub mod Inner
