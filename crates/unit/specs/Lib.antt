-- The unit coefficients: the table. What is promised of it stands in proofs/promises/.
pub mod Unit
