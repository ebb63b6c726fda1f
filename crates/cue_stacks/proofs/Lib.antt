-- Laws of the items of a list of paths, and of their files read one behind another.
pub mod ItemLaws
pub mod StackLaws
pub mod TurnLaws
pub mod Promises
pub mod SumLaws
