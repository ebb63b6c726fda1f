-- Laws of runs, as the code asks for them.
pub mod RunLaws
