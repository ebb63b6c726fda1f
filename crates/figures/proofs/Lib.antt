-- Laws of figures in their places, lowest first. `FigureLaws` has what callers cite; the others serve the functions' proofs.
pub mod PairLaws
pub mod RowLaws
pub mod FigureLaws
pub mod AddLaws
pub mod TotalLaws
