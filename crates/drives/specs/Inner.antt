-- What contracts below the face alone cite.
pub mod Scans
pub mod Turns
pub mod Bodies
pub mod Arrivals
pub mod Entries
