-- Laws of directories: one read into the work space, its listing, the walk along a path, what is asked of a path, and where its components lead.
pub mod PlaceLaws
pub mod SpaceLaws
pub mod ListLaws
pub mod WalkLaws
pub mod LeftLaws
pub mod LookupLaws
pub mod Promises
pub mod PathLaws
pub mod OverflowLaws
pub mod CaseLaws
pub mod MatchingLaws
pub mod GuardLaws
pub mod RefusingLaws
pub mod MissingLaws
