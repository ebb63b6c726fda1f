-- Laws of the choice of matching as a number.
pub mod MatchingLaws
