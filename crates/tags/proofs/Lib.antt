-- Laws of tags, and what is promised of them.
pub mod FieldLaws
pub mod HeadLaws
pub mod BodyLaws
pub mod PlaceChecks
pub mod RoundTrips
pub mod Table
