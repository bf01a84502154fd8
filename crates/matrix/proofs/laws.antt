-- What holds of factoring and solving, for our own proofs.
pub mod LengthLaws
pub mod PivotLaws
