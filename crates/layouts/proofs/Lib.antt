-- Laws of layouts: the uncopied part, the list of extents, the runs of the image, and the promises.
pub mod PartLaws
pub mod ListLaws
pub mod RunLaws
pub mod RunListLaws
pub mod Promises
pub mod RefusingLaws
pub mod GuardLaws
