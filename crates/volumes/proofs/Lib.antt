-- Laws of the calls on an image, and what is promised of them.
pub mod TurnLaws
pub mod SequenceLaws
pub mod MapLaws
pub mod OpeningLaws
pub mod LabelLaws
pub mod NamedLaws
pub mod Prevailing
pub mod Promises
pub mod MappingLaws
pub mod GuardLaws
pub mod RefusingLaws
pub mod ChosenLaws
pub mod LabelRefusals
