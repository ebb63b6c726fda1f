-- Laws of entries.
pub mod FieldLaws
pub mod EntryLaws
