-- What holds of rounded operations, for the proofs of the crates that reckon with doubles.
pub mod Rounding
pub mod Products
pub mod Signs
pub mod Sums
pub mod Whole
pub mod Equal
