-- What the contracts cite, lowest first.
pub mod Chains
pub mod Totals
pub mod Inner
