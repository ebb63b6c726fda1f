-- Laws of the probe, and what is promised of it.
pub mod ProbeLaws
pub mod Fronts
mod EndLaws
pub mod Promises
