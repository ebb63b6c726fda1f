-- Laws of the survey of a shelf, and what is promised of it.
pub mod ImageLaws
pub mod ShelfLaws
pub mod TotalLaws
pub mod Promises
pub mod Summing
pub mod Lending
