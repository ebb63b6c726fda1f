-- Laws of a directory's bytes and of a path's components; crates above cite them.
pub mod PathLaws
pub mod EntryLaws
pub mod WalkLaws
pub mod Promises
pub mod RecordLaws
pub mod NamelessLaws
pub mod MatchingLaws
pub mod GuardLaws
pub mod RefusingLaws
pub mod CutLaws
pub mod RowLaws
