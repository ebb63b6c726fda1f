-- What the contracts cite, lowest first.
pub mod Feeds
pub mod Openings
pub mod FileFeeds
pub mod Readings
pub mod Moments
pub mod Steppers
pub mod Told
pub mod Walks
pub mod Beginnings
pub mod Inner
