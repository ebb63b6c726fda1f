-- Laws of files: an extent in one division, the turns of a walk, the two passes, the entry, a read put together, and the promises.
pub mod ExtentLaws
pub mod PieceLaws
pub mod TurnLaws
pub mod BoundLaws
pub mod BegunLaws
pub mod MeasureLaws
pub mod CopyLaws
pub mod EntryLaws
pub mod ReadLaws
pub mod MeasuredLaws
pub mod ResolveLaws
pub mod Promises
pub mod ContentLaws
pub mod GuardLaws
pub mod RefusingLaws
pub mod WaitingLaws
