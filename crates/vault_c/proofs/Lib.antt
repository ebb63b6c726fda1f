-- Laws of the choices as numbers, and what is promised of them.
pub mod ChoiceLaws
pub mod MatchingLaws
