-- What the contracts cite, lowest first.
pub mod Reads
pub mod Files
pub mod Sizes
pub mod Example
pub mod ExtentSectors
pub mod Begun
pub mod Inner
