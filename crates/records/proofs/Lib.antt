-- Laws of the records, and what is promised of them.
pub mod Numbers
pub mod PastLaws
pub mod FieldLaws
pub mod RoundTrips
