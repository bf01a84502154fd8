-- What holds of those words, for the proofs of every crate.
pub mod ChoiceLaws
pub mod Turned
pub mod LoopLaws
pub mod Order
pub mod RowLaws
pub mod FloatLaws
