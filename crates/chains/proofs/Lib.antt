-- Laws of chains: what a cursor stands for, one step at a time; a chain followed to its end; what is left of it, counted; how many sectors it asks for, and how many bytes its extents hold.
pub mod WalkLaws
pub mod FollowLaws
pub mod CountLaws
pub mod AskedLaws
pub mod TotalLaws
pub mod GuardLaws
pub mod Promises
